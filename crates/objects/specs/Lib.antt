-- The definitions, in reading order (docs/AUDIT.md).
-- headers and their parameters
pub mod Headers
-- the parameters of key management
pub mod KeyManagement
-- the two forms of a text
pub mod Texts
-- the members that are written
pub mod Values
-- signed objects
pub mod Jws
-- encrypted objects
pub mod Jwe
-- which objects have a compact text
pub mod CompactForm
-- detached payloads
pub mod HandedIn
-- values and calls of the code; no answer rests on these pages
pub mod Code
