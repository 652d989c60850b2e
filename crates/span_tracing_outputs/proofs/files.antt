pub mod PairedLists
pub mod RequestedOutputs
pub mod FolderRefusals
