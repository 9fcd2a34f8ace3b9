pub mod Statuses
pub mod Prepared
pub mod Run
pub mod Decided
