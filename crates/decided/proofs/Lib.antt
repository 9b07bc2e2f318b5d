pub mod OneTable
pub mod Decided
