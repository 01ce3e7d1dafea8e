pub mod Filled
pub mod FilledRoots
