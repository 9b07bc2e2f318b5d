-- The theorems about the definitions of specs/, in reading order.
pub mod RowLaws
pub mod Search
pub mod FreeRows
pub mod Product
pub mod RisingLaws
pub mod ReorderLaws
pub mod Order
pub mod Still
