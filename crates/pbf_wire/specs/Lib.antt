pub mod Shown
pub mod Check
pub mod Lookup
pub mod Message
