pub mod Ccm
pub mod Frame
