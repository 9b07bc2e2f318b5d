pub mod Within
pub mod ClaimLaws
