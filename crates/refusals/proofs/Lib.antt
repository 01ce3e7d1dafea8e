pub mod Lowest
pub mod Outputs
