pub mod BlobSteps
pub mod FrameReading
pub mod BlobReading
