-- The definitions, in reading order (docs/AUDIT.md).
-- JSON texts that are read
pub mod Json
-- a row for each algorithm
pub mod Algorithms
-- the limits
pub mod Limits
-- lists of names
pub mod Texts
-- members that are read
pub mod Members
-- what a key may be used for
pub mod Operations
-- octet keys
pub mod Keys
-- sets of keys
pub mod KeySets
-- the members of a text of keys, good and bad
pub mod SetMembers
-- thumbprints
pub mod Thumbprints
-- keys that are made
pub mod Generating
-- which values are JSON values, and their compact texts
pub mod JsonTexts
-- values and calls of the code; no answer rests on these pages
pub mod Code
