pub mod Steps
pub mod Rings
