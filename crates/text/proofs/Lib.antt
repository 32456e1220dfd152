pub mod Holders
pub mod Joined
pub mod Lines
pub mod Examples
pub mod Runs
