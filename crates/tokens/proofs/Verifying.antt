-- Verifying (src/verify.rt and src/verify).
-- the HMACs of heads decide
pub mod Heads
-- signers that are counted
pub mod Counted
-- the signing inputs of a payload that is read once
pub mod Detached
-- objects that at least so many keys signed
pub mod Least
-- the first key that signed
pub mod First
-- keys that sign alike
pub mod Signers
