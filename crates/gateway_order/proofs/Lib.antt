pub mod InAnyOrder
pub mod ApsInAnyOrder
