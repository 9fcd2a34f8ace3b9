pub mod Bits
pub mod Common
pub mod Listed
pub mod OnEarth
pub mod Growing
pub mod Meeting
pub mod Drawn
