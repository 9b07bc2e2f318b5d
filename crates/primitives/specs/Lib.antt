pub mod KeyedHash
pub mod Limits
