pub mod Declined
pub mod Answered
pub mod Dropped
pub mod Positions
pub mod Rounds
pub mod WideDropped
