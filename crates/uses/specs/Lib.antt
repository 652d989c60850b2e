pub mod Choices
pub mod Tallies
pub mod CountsKept
pub mod Letters
pub mod Programs
