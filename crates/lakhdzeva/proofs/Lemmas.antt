-- The lemmas of the libraries that these proofs cite.
pub use Rattle.octets.proofs.Lemmas.{contents_possible}
