-- The lemmas of these proofs that the crates above cite.
pub use Rattle.aes.proofs.Xor.{xor_swap, xor_twice}
pub use Rattle.aes.proofs.Polynomial.{polynomial_product-rows}
pub use Rattle.aes.proofs.Rows.{row_below}
pub use Rattle.aes.proofs.Linear.{polynomial_laws}
unfoldable pub use Rattle.aes.proofs.Below.{all_below}
pub use Rattle.aes.proofs.Below.{equal_below}
