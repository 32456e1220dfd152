pub mod Lines
pub mod Whole
pub mod OneLine
pub mod Input
pub mod Pieces
pub mod Fits
