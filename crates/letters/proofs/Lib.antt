pub mod LookUp
pub mod NoOperator
