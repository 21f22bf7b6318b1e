pub mod Tests
pub mod Spans
pub mod Passes
