pub mod Blocks
pub mod Fresh
pub mod LineRuns
pub mod Lines
pub mod Turns
pub mod Whole
pub mod OutputLines
