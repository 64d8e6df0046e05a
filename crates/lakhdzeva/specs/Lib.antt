-- The definitions, in reading order (docs/AUDIT.md).
-- the answers of the calls
pub mod Answers
-- the status and the places that a call leaves
pub mod Calls
-- values of the code; no answer rests on this page
pub mod Code
