-- In reading order.
pub mod Calls
pub mod ApsCalls
