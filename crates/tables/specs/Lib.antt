pub mod Field
pub mod Rounds
pub mod Levels
