pub mod Marks
pub mod Decisions
pub mod Answers
-- Machinery: what contracts inside say on the way. Whoever reads the promises need not read it.
pub mod Quick
