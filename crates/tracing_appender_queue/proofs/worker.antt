pub mod CutSteps
pub mod StepTurns
pub mod FolderAfterSteps
pub mod StepDeterminism
pub mod Workers
