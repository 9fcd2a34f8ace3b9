pub mod Tests
pub mod Edges
pub mod Rings
