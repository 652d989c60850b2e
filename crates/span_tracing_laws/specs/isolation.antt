pub mod OutputTurns
pub mod OwnRequests
pub mod IsolatedOutputs
pub mod FaultyFolders
