pub mod Num
pub mod Layout
pub mod Record
