pub mod Stretched
pub mod Walked
pub mod Promises
pub mod Parting
