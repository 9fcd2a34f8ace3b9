pub mod SubFiles
pub mod Laid
pub mod Laying
pub mod TileWalk
pub mod AllLaid
pub mod Layouts
