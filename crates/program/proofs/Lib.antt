pub mod Output
pub mod Inputs
