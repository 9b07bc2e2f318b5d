-- In reading order.
pub mod OnAir
pub mod Desks
