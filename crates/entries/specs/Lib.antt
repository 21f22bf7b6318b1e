pub mod Queries
pub mod Cursors
pub mod Lists
