pub mod JobText
pub mod Reading
pub mod Calls
