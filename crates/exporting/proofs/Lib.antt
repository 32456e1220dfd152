pub mod Accepts
pub mod Places
pub mod Export
