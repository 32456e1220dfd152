pub mod Headings
pub mod Files
pub mod Bundles
pub mod Contents
