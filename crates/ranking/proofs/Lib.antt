pub mod Puts
pub mod Cells
pub mod Backs
pub mod Ranked
