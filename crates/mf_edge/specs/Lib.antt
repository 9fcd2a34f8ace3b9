pub mod Adapters
pub mod Device
pub mod Memory
pub mod MemoryShelf
pub mod MemoryStore
pub mod Shelves
pub mod Spill
pub mod Stream
