pub mod Digits
pub mod Times
pub mod Durations
pub mod SpanTimings
pub mod Threads
