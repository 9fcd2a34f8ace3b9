pub mod Scales
pub mod Series
pub mod Found
pub mod Signed
pub mod Corners
