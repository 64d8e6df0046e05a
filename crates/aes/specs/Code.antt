-- What contracts say of values and calls of the code.
-- a key that was expanded
pub mod Aes
-- lists of whole blocks
pub mod Blocks
-- look-ups of half octets
pub mod LookUps
-- blocks between the rounds
pub mod Kept
