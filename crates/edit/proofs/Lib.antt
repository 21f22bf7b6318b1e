pub mod Built
pub mod Adds
pub mod Assigns
pub mod Sweeps
