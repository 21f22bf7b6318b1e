pub mod Outcomes
pub mod Lists
pub mod PairLists
pub mod Doors
