pub mod Codes
pub mod Rows
pub mod Filled
pub mod Read
pub mod Surface
pub mod Rescue
