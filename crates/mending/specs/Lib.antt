pub mod Mended
pub mod Progress
pub mod Report
pub mod Mends
