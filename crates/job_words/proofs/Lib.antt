pub mod Bounds
pub mod Files
pub mod InRange
pub mod Jobs
pub mod Right
