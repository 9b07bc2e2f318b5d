-- In reading order.
pub mod Keys
pub mod Protection
pub mod Heard
