pub mod Change
pub mod Narrow
pub mod Newton
pub mod OverRing
pub mod Powers
pub mod Shape
pub mod Turns
