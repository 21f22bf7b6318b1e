pub mod InPairs
pub mod Decisions
pub mod WrittenPairs
