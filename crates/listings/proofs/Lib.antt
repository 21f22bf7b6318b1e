pub mod Asked
pub mod Stores
