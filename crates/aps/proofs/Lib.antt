pub mod OpeningLaws
pub mod SendingLaws
pub mod LayoutLaws
pub mod RoundAps
