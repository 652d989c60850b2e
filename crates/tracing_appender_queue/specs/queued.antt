pub mod LineFates
pub mod QueueCalls
pub mod HeldLines
pub mod WaitingView
pub mod ExactCounts
pub mod QueuedWork
