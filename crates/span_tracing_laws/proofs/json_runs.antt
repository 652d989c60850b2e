mod Outputs
mod Files
mod Formats
