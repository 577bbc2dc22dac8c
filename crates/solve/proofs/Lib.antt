pub mod Laws
pub mod Answer
