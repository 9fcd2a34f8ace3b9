pub mod Members
pub mod Tested
pub mod Tags
pub mod Ways
pub mod Tiles
pub mod Tables
