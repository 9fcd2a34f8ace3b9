pub mod Counting
pub mod MemoryParts
pub mod OrderedInMemory
pub mod Putting
pub mod Taking
pub mod Walking
