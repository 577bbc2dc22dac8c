pub mod Problem
pub mod Replays
pub mod Estimates
