-- To be believed: what the statements of the entries and the promises say.
pub mod Limits
pub mod Letters
pub mod Forms
pub mod Lines
pub mod Replies
pub mod Inputs
-- Machinery: what contracts inside say on the way. Whoever reads the promises need not read it.
pub mod Passing
pub mod Keys
pub mod Steps
pub mod Walks
