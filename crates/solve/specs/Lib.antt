pub mod View
pub mod Theorems
