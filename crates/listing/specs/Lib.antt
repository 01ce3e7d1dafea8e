-- To be believed: what the statements of the entries and the promises say.
pub mod Texts
pub mod Printed
-- Machinery: what contracts inside say on the way. Whoever reads the promises need not read it.
pub mod Each
