-- The definitions, and beside each the laws about it, in reading order; proofs/ has the theorems that rest on them.
pub mod Lists
pub mod ListLaws
pub mod First
pub mod FirstLaws
pub mod Rows
pub mod Machine
pub mod Rising
pub mod Once
pub mod Reorder
pub mod Desk
pub mod DeskLaws
