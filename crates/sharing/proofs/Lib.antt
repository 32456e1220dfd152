-- The laws that the proofs cite, and the theorems.
pub mod Elements
pub mod Horner
pub mod Dealt
pub mod Faults
pub mod Lent
pub mod Loaded
pub mod Opens
pub mod Values
pub mod DealtOpens
pub mod DealtShare
