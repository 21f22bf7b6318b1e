pub mod Removed
pub mod Collects
