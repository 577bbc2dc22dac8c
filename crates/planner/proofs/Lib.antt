-- Theorems on answers.
pub mod Demand
