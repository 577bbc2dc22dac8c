pub mod Ready
pub mod View
