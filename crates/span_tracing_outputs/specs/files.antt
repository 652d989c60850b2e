pub mod Settings
pub mod OutputSpecs
pub mod OpenedStack
pub mod Either
pub mod OpenRefusals
pub mod FileSpecs
pub mod Threads
