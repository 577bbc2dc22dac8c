pub mod Laws
pub mod Offering
