pub mod Bytes
pub mod Numerals
