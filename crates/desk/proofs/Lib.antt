-- The laws of the desk, what its calls tell, and any calls one after another.
pub mod Laws
pub mod Tells
pub mod Runs
