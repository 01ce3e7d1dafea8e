pub mod Marked
pub mod Stems
pub mod Contained
pub mod Alike
pub mod Worked
pub mod Refused
pub mod Ruled
