pub mod MessageSteps
pub mod BlobFront
pub mod TakenSteps
pub mod NextBlob
pub mod NextExact
