pub mod Putting
pub mod TagStrings
pub mod EachInterval
pub mod HeaderBytes
pub mod Benches
