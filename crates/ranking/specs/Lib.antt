-- To be believed: what the statements of the entries and the promises say.
pub mod Parts
pub mod Rank
pub mod Scores
pub mod Lists
pub mod Stored
-- Machinery: what contracts inside say on the way. Whoever reads the promises need not read it.
pub mod Past
pub mod Kept
pub mod Blanks
