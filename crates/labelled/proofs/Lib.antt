pub mod Scanning
pub mod Words
pub mod Exact
pub mod Steps
pub mod Lengths
pub mod Calls
pub mod Examples
