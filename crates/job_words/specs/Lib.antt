pub mod OptionTable
pub mod Usage
pub mod Settings
pub mod Reading
pub mod Shown
