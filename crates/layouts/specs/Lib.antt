pub mod Buffer
pub mod Chains
pub mod Stored
