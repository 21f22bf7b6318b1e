pub mod Puts
pub mod Parts
pub mod Entries
pub mod Lengths
pub mod OneLine
pub mod Apart
pub mod Examples
