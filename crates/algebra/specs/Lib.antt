pub mod KeyEquation
pub mod Poly
pub mod Ring
pub mod Shares
