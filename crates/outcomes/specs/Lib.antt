pub mod Words
pub mod Outcomes
pub mod Cases
pub mod Heavy
pub mod Each
