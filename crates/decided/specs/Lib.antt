pub mod KeyWords
pub mod Decides
