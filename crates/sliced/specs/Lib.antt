pub mod Lane
