pub mod Returns
pub mod Parts
pub mod First
pub mod Remainders
pub mod Rows
