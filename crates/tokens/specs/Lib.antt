-- The definitions, in reading order (docs/AUDIT.md).
-- the signing input and its signature
pub mod Signatures
-- templates of headers
pub mod Template
-- signing
pub mod Signing
-- verifying
pub mod Verifying
-- keys of which each stands for a signer of its own
pub mod Signers
-- the names of the algorithms of ciphers
pub mod Algorithms
-- templates of encryption
pub mod EncryptionTemplate
-- the algorithms that a template and keys give
pub mod Choosing
-- the deliveries to recipients
pub mod Delivering
-- encrypting
pub mod Encrypting
-- decrypting
pub mod Decrypting
-- what a key may do by some algorithm
pub mod Judging
-- the answers about signed objects
pub mod Jws
-- the answers about encrypted objects
pub mod Jwe
-- the limits and algorithms of earlier versions
pub mod MoreAlgorithms
-- values and calls of the code; no answer rests on these pages
pub mod Code
