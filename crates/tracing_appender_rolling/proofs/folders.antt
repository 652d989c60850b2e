pub mod Content
pub mod FilesByName
pub mod FaultPlans
pub mod SortedEntries
pub mod Puts
pub mod InterruptedAttempts
