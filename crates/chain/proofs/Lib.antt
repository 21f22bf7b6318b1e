pub mod Walks
pub mod Places
pub mod Written
pub mod Paths
pub mod Relinked
pub mod Found
pub mod Hints
