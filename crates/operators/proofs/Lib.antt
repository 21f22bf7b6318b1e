pub mod Ranges
pub mod Known
pub mod Rows
pub mod Decoding
