pub mod Steps
pub mod JsonRuns
