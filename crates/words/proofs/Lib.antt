pub mod KeyOrder
pub mod Words
