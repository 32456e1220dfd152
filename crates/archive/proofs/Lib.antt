pub mod Shares
pub mod Loaded
pub mod Calls
pub mod Ahead
pub mod Opens
pub mod Names
pub mod Sums
pub mod Totals
