-- The lemmas of these proofs that the crates above cite.
pub use Rattle.tokens.proofs.Encrypting.RecipientKeys.{all_pass_other}
pub use Rattle.tokens.proofs.Beginnings.{handed_back}
