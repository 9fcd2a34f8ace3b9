pub mod Spread
pub mod Pass
