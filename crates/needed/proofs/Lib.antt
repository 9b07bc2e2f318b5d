pub mod OnAirLaws
pub mod Desks
pub mod Needed
pub mod Inhabited
