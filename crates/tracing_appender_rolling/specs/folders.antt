pub mod Contents
pub mod Disks
pub mod Attempts
pub mod Memory
pub mod Entries
pub mod ListedEntries
pub mod Faulty
