pub mod ReadyLaws
pub mod SecuringLaws
