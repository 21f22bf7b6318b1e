pub mod WordLaws
pub mod Fits
pub mod Turns
pub mod Outcomes
pub mod Demand
pub mod Example
