pub mod machines
pub mod json_runs
pub mod json
pub mod harmless
pub mod runs
pub mod queue_steps
pub mod starved
pub mod isolation
