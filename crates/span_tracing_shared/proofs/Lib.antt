pub mod FollowedSteps
pub mod Journals
pub mod MachineReplies
pub mod Runs
pub mod Masks
