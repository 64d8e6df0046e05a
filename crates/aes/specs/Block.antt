-- Block ciphers of sixteen octets, as functions on lists.
use Rattle.std.specs.Prelude.{◌≡◌, ℕ, ◌<◌, List, length, slice_index}

-- a block: sixteen octets (FIPS 197 section 3.4)
pub record IsBlock (b : List ℕ) : Type 0 where
  pub sixteen : length b ≡ 16
  pub octets : (i : ℕ) → slice_index b i < 256

-- e and d send blocks to blocks and are inverses of each other (SP 800-38A section 5.1)
pub record IsCipher (e d : List ℕ → List ℕ) : Type 0 where
  pub gives_block : (b : List ℕ) → IsBlock b → IsBlock (e b)
  pub gives_block_back : (b : List ℕ) → IsBlock b → IsBlock (d b)
  pub undoes : (b : List ℕ) → IsBlock b → d (e b) ≡ b
  pub mirror : (b : List ℕ) → IsBlock b → e (d b) ≡ b
