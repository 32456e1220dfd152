pub mod Arrays
pub mod Collected
pub mod Compared
pub mod Interpolated
pub mod Left
pub mod LevelFound
pub mod Lowest
pub mod Rows
