pub mod Loads
pub mod RunsOf
