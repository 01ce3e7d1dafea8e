-- To be believed: what the statements of the entries and the promises say.
pub mod Answers
-- Machinery: what contracts inside say on the way. Whoever reads the promises need not read it.
pub mod Supports
pub mod Fronts
pub mod Places
pub mod Pieces
