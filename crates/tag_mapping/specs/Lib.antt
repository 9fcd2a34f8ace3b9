pub mod File
pub mod Shown
pub mod Kept
pub mod Choices
pub mod Choosing
