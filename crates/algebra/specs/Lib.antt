pub mod GasBytes
