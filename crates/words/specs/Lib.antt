pub mod Refusal
pub mod Params
pub mod Word
pub mod Signed
pub mod Faults
