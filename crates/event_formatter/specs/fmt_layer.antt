pub mod Lines
pub mod Threads
pub mod Layers
pub mod SpanEvents
pub mod SpanCalls
pub mod LayerNotices
pub mod Builders
pub mod MakerLoan
