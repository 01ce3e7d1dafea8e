pub mod Progressive
pub mod Found
pub mod Answers
