pub mod Writing
pub mod Lists
pub mod Walked
pub mod Rings
pub mod OfDesk
