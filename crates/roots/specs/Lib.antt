-- To be believed: what the statements of the entries and the promises say.
pub mod Rank
pub mod Lists
pub mod Candidates
pub mod Answers
-- Machinery: what contracts inside say on the way. Whoever reads the promises need not read it.
pub mod Room
pub mod Blanks
