-- What is proved of every run, over any costs and any problem.
pub mod Turns
pub mod Again
pub mod Room
pub mod Fuel
pub mod Hold
pub mod Steady
pub mod Plans
pub mod Bag
pub mod Sorted
pub mod Branch
pub mod Counted
pub mod Examples
pub mod Valid
