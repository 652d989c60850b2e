pub mod WholeFates
pub mod ToldByNumbers
pub mod WholeRuns
pub mod CountedRuns
