-- The definitions, in reading order (docs/AUDIT.md).
-- a hash function
pub mod HashFunction
-- HMAC
pub mod Hmac
-- the SHA-2 functions
pub mod Sha2
-- PBKDF2
pub mod Pbkdf2
-- digests of whole messages
pub mod Digests
-- values and calls of the code; no answer rests on these pages
pub mod Code
