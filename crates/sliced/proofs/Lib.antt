pub mod Bits
pub mod Packed
pub mod Lanes
pub mod Turns
