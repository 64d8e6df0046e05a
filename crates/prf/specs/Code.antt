-- What contracts say of values and calls of the code.
-- what a computation over pieces holds
pub mod Views
-- digests are octets
pub mod Sha2Octets
-- the SHA-2 functions are hash functions
pub mod Sha2Laws
