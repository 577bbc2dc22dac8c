pub mod File
pub mod Laws
