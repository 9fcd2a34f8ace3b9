pub mod Faults
pub mod Jobs
pub mod Outcomes
pub mod Gathering
pub mod LaidOut
pub mod Runs
