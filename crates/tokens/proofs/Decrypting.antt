-- Decrypting (src/decrypt.rt and src/decrypt).
-- the pairs of recipients and keys
pub mod Pairs
-- the keys of a set, salted
pub mod Salted
-- what a pair opens
pub mod Openings
-- pairs that are tried one after another
pub mod Tried
-- fewer iterations than the limits allow
pub mod Fewer
-- the work that is reported
pub mod Told
