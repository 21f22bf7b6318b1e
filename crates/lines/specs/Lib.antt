pub mod Lines
pub mod Calls
pub mod Places
pub mod Reachable
