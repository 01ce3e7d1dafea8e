-- To be believed: what the statements of the entries and the promises say.
pub mod Support
pub mod Chains
pub mod Readings
pub mod Rank
pub mod Counted
pub mod Questions
pub mod Recomposed
pub mod Visits
-- Machinery: what contracts inside say on the way. Whoever reads the promises need not read it.
pub mod Walk
pub mod Weighed
