pub mod Decoded
pub mod LeftOut
