pub mod Scripts
pub mod Runs
