pub mod Cases
pub mod Reading
pub mod ReadingLaws
pub mod Texts
