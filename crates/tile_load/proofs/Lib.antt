pub mod Heads
pub mod Sums
pub mod NextMember
pub mod Tile
