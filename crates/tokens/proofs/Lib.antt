-- Lemmas. The folders that begin with a capital letter have a page for each part of src, and the others the proofs of single functions.
-- facts about each algorithm
pub mod AlgorithmCases
-- tests of the elements of a list, seen by a view
pub mod Elements
-- lists whose elements are read from another list, or made of it
pub mod Each
-- lists that are beginnings of others
pub mod Beginnings
pub mod WrittenHeaders
-- a content that is written inside the texts of a frame, or apart from them
pub mod Framing
-- a call that ended before it touched its content
pub mod Streamed
pub mod SigningInputs
pub mod Signing
pub mod Verifying
pub mod Encrypting
pub mod Decrypting
-- keys do only what they may
pub mod Uses
-- more algorithms open the same objects alike
pub mod MoreAlgorithms
-- the lemmas that the crates above cite
pub mod Lemmas
