pub mod Found
pub mod Residues
