pub mod Refers
pub mod Found
pub mod Kept
pub mod Answered
pub mod Sizes
pub mod Prints
pub mod Promises
