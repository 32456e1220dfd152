pub mod Codeword
pub mod Demand
pub mod Linear
pub mod Opening
pub mod Residue
pub mod WellFormed
