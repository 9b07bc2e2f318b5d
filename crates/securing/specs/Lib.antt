pub mod SecureNwk
pub mod Ready
