pub mod Makers
pub mod Either
pub mod Filters
pub mod Routes
