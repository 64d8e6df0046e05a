-- The definitions, in reading order (docs/AUDIT.md).
-- the families of algorithms, a row for each algorithm
pub mod Algorithms
-- how a content is sealed
pub mod Sealing
-- AES key wrap
pub mod KeyWrap
-- how a content encryption key is delivered
pub mod Delivery
-- opening and unwrapping, as a search
pub mod Openings
-- values and calls of the code; no answer rests on these pages
pub mod Code
