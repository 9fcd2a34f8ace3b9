pub mod Made
pub mod Weights
pub mod Turns
pub mod Going
pub mod OfNodes
