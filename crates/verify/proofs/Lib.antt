pub mod Once
pub mod Heads
pub mod Walks
pub mod Parts
pub mod Ascents
pub mod Settled
pub mod OneWalk
pub mod UsedRuns
