-- The lemmas of these proofs that the crates above cite.
pub use Rattle.jose.proofs.Agreement.{agrees_as_content}
pub use Rattle.jose.proofs.Doing.{if_always, told_both}
pub use Rattle.jose.proofs.Lines.{cut_within, front_written}
pub use Rattle.jose.proofs.OnePass.{told_in_order}
