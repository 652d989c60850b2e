pub mod Said
pub mod Steps
pub mod Lines
pub mod Files
