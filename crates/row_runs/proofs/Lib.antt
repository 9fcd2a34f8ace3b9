pub mod KeyRuns
pub mod Flat
pub mod Running
