pub mod Fetch
pub mod Places
