pub mod Directions
pub mod Known
pub mod DecodedCalls
