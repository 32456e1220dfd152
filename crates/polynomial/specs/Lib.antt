pub mod Polynomial
pub mod Rows
