pub mod Values
pub mod Total
