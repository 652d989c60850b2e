pub mod Objects
pub mod Formats
pub mod Texts
