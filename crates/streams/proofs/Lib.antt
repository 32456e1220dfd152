pub mod Moved
pub mod Pieces
