pub mod Secrecy
pub mod Files
