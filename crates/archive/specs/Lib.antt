pub mod Archive
pub mod Clear
pub mod Dealt
pub mod Loaded
