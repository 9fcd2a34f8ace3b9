pub mod Judged
pub mod Causes
pub mod Alike
pub mod Preparing
