pub mod AtOnce
pub mod Perform
