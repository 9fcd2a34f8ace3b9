pub mod EntitySizes
pub mod BlobReading
pub mod Behind
pub mod EntityPass
pub mod Counting
