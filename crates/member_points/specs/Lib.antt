pub mod RelRows
pub mod Pairing
