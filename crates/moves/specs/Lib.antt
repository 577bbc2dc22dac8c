pub mod Moves
pub mod View
pub mod Ready
pub mod Told
pub mod Bare
