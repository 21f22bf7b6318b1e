pub mod Digits
pub mod LineLaws
pub mod Parting
pub mod WordLaws
pub mod ArgumentLaws
pub mod CallLaws
pub mod Reachable
pub mod Examples
