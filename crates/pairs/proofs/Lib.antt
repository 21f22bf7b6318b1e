pub mod Decisions
pub mod WrittenPairs
pub mod Executed
pub mod Lists
