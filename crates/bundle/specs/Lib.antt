pub mod Bundle
pub mod Acceptance
pub mod Contents
