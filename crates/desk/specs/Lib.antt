pub mod Desk
pub mod Lent
pub mod Clear
pub mod Runs
