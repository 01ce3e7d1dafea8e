pub mod Compared
pub mod Tested
pub mod Listed
pub mod Facts
pub mod Matches
pub mod Passing
