pub mod FieldsAndTimings
pub mod SlotsByTag
pub mod SpanUpdates
pub mod SteppedTimings
