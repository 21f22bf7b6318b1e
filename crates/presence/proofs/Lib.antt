pub mod ChainEnds
pub mod Rest
pub mod Support
pub mod EdgeEnds
pub mod Hints
pub mod NamedParts
pub mod Shows
