-- Definitions first, then the laws about them.
pub mod Nwk
pub mod Aps
pub mod NwkLaws
pub mod ApsLaws
