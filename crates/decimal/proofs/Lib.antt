pub mod Written
pub mod Decimal
pub mod Signed
pub mod Puts
