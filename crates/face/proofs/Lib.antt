pub mod Order
pub mod Head
