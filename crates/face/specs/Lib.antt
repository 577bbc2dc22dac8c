pub mod Open
pub mod Laws
