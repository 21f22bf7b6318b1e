pub mod Performs
pub mod Known
pub mod AtOnce
pub mod Lists
