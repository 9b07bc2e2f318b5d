-- Definitions first, then the laws about them; proofs/ has those that rest on other laws.
pub mod Auxiliary
pub mod Nonce
pub mod NonceLaws
pub mod Written
pub mod WrittenLaws
pub mod Cases
