pub mod Kept
pub mod Lines
pub mod Outputs
pub mod Steps
pub mod Runs
pub mod Timers
