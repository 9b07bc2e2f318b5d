pub mod Hash
pub mod Stream
