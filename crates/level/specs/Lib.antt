pub mod Interpolation
pub mod KeyEquation
pub mod Level
pub mod Shares
