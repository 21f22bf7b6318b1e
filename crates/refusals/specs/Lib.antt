pub mod Checks
pub mod Admissions
