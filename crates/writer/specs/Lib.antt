pub mod Bytes
pub mod Write
pub mod Fits
pub mod ByPlace
