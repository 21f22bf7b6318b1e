pub mod OperatorWords
pub mod Letters
