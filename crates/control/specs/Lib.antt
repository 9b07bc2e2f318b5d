-- Definitions first, then the laws about them.
pub mod Control
pub mod ControlLaws
