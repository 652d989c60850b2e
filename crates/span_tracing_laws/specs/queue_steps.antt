pub mod CallTurns
pub mod SinkPlaces
pub mod WorkCuts
pub mod QueueCounts
