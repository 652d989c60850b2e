pub mod Days
pub mod Calendar
pub mod Periods
pub mod Stamps
pub mod Names
pub mod WorkedDates
pub mod Moments
