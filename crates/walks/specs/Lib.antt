-- The lemmas that more than one walk uses; and `Walk`, which passes on what every walk imports.
pub mod Tests
pub mod Turn
pub mod Locals
pub mod Calls
pub mod Direct
pub mod Slices
pub mod Again
pub mod Shared
pub mod LocalArray
pub mod Lends
pub mod ArrayField
pub mod Operands
pub mod Walk
