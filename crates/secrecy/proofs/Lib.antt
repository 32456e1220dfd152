pub mod Polynomial
pub mod Dealing
pub mod Counting
pub mod Files
pub mod Examples
