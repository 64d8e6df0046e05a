-- The lemmas of these proofs that the crates above cite.
pub use Rattle.ciphers.proofs.Growing.{fixed_grows, ciphertext_grows}
pub use Rattle.ciphers.proofs.Tags.{some_tag}
pub use Rattle.ciphers.proofs.Deliveries.{decided}
pub use Rattle.ciphers.proofs.Found.{longer_decided}
