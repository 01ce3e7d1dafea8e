-- To be believed: what the statements of the entries and the promises say.
pub mod Utf8
pub mod Characters
pub mod Names
pub mod Word
-- Machinery: what contracts inside say on the way. Whoever reads the promises need not read it.
pub mod Owes
