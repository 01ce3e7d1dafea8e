pub mod Decimal
pub mod Placed
pub mod Refused
pub mod Writers
