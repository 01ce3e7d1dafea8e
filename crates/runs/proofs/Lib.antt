pub mod Ordered
pub mod Begins
pub mod Ends
pub mod Spots
