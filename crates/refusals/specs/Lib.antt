pub mod Refusals
pub mod Made
