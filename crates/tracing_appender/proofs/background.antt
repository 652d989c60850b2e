pub mod TakenLines
pub mod SentLines
