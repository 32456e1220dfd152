pub mod Num
pub mod Lengths
pub mod Record
