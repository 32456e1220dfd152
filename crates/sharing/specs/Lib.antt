-- The definitions that the clauses of `src/` and the theorems of `proofs/` cite.
pub mod Dealing
pub mod Opening
pub mod Clear
pub mod Lists
pub mod Dealt
