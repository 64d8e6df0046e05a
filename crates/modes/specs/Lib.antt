-- The definitions, in reading order (docs/AUDIT.md).
-- CBC and its padding
pub mod Cbc
-- counter mode
pub mod Ctr
-- GHASH
pub mod Ghash
-- GCM
pub mod Gcm
-- values and calls of the code; no answer rests on these pages
pub mod Code
