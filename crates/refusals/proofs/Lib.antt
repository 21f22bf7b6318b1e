pub mod Stops
pub mod Admissions
pub mod Absent
