pub mod Live
pub mod Sending
pub mod Working
