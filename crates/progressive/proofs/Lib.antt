pub mod Verbs
pub mod Shapes
pub mod Forms
pub mod Entries
pub mod Cases
