-- To be believed: what the statements of the entries and the promises say.
pub mod Scalars
pub mod Parting
pub mod Tokens
pub mod Answers
pub mod Cases
-- Machinery: what contracts inside say on the way. Whoever reads the promises need not read it.
pub mod Scanned
pub mod Looked
pub mod Stored
pub mod Marks
