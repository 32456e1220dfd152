pub mod Values
pub mod Sums
pub mod Added
pub mod Words
pub mod Runs
pub mod Totals
pub mod AddTotals
