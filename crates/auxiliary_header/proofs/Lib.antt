pub mod AuxiliaryLaws
pub mod NonceInjective
pub mod Turns
