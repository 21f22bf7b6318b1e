pub mod Sizes
pub mod Chains
pub mod Store
pub mod Prepared
pub mod Stored
