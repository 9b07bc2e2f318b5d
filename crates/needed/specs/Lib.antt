-- In reading order.
pub mod TwoFrames
pub mod OnAir
pub mod Desks
