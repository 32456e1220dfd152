pub mod Element
pub mod Field
pub mod Inversion
pub mod Modulus
