pub mod OpenNwk
pub mod Halves
