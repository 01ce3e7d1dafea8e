pub mod Stretches
pub mod Promises
pub mod Told
