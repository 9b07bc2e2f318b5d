pub mod Fields
pub mod FieldLaws
