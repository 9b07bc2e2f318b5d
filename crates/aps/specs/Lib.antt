-- In reading order: the rules, and then the steps by which the code comes to each.
pub mod OpenAps
pub mod SecureAps
pub mod Opening
pub mod Sending
