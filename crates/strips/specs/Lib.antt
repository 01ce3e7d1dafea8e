pub mod Suffix
pub mod Prefix
