pub mod ShownMetadata
