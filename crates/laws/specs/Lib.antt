-- Definitions first, each with its laws in the file after it.
pub mod Octets
pub mod XorLaws
pub mod Blocks
pub mod BlockLaws
pub mod Numbers
pub mod NumberLaws
pub mod Parts
pub mod Rule
