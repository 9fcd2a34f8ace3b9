pub mod Fronts
pub mod FrontRows
pub mod LeftRows
pub mod Gathered
pub mod EntityRows
pub mod Ingesting
pub mod Ingest
