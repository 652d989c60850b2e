pub mod FirstRefusals
pub mod HeldStacks
pub mod HolderCounts
pub mod SpanNames
pub mod TwoStacks
