pub mod BlockLaws
pub mod Laws
pub mod FrameLaws
pub mod Fitting
pub mod RoundTrip
