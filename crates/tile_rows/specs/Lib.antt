pub mod TileRows
pub mod Reading
