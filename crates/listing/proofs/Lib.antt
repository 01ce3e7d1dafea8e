pub mod Parted
pub mod Worked
pub mod Room
pub mod Told
pub mod Answered
pub mod Lowest
