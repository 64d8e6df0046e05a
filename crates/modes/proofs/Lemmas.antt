-- The lemmas of these proofs that the crates above cite.
pub use Rattle.modes.proofs.Sums.{length-xor}
pub use Rattle.modes.proofs.Chaining.{none_alone, blocks_behind}
pub use Rattle.modes.proofs.Pieces.{whole_of, length-whole, whole_and_rest, waits_short}
pub use Rattle.modes.proofs.Opening.{length-cbc}
pub use Rattle.modes.proofs.Counting.{length-ctr, ctr-append}
pub use Rattle.modes.proofs.Protecting.{length-gcm_ciphertext}
pub use Rattle.modes.proofs.Octets.{joined_octets, cbc_octets, gcm_ciphertext_octets, gcm_tag_octets}
