-- The definitions, in reading order (docs/AUDIT.md).
-- polynomials over two elements
pub mod Polynomial
-- octets as polynomials
pub mod Octet
-- the S-box
pub mod SBox
-- the state and the steps of a round
pub mod State
-- the key schedule
pub mod KeyExpansion
-- the cipher
pub mod Cipher
-- that it is a permutation of blocks
pub mod Block
-- the inverse cipher
pub mod InverseCipher
-- remainders of polynomials are unique
pub mod Remainder
-- products and sums of polynomials
pub mod PolynomialLaws
-- values and calls of the code; no answer rests on these pages
pub mod Code
