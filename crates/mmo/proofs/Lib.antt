pub mod HashLaws
pub mod PaddingLaws
pub mod AddLaws
pub mod StreamLaws
