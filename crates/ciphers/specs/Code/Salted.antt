-- A recipient's key with a salt input, and what is kept of PBKDF2 under both (RFC 7518 section 4.8.1).
use Rattle.std.specs.Prelude.{◌≡◌, ℕ, List, ◌∷◌, ◌++◌, ⊤, Option, IfSome}
use Rattle.ciphers.specs.Algorithms.{KeyFamily, pbes2, key_family}
use Rattle.ciphers.specs.declared.key_alg.KeyAlg.{KeyAlg}
use Rattle.ciphers.specs.declared.key_alg.KeyAlg.TheVariants.{Pbes2Hs256A128Kw, Pbes2Hs384A192Kw, Pbes2Hs512A256Kw}
use Rattle.prf.specs.Pbkdf2.{iterate}

-- what contracts see: the key, and the octets of p2s
pub record Salted : Type 0 where
  pub key : List ℕ
  pub p2s : List ℕ

-- what is kept for a family is U_1 of the first block (RFC 8018 section 5.2 step 3) with the salt of section 4.8.1.1
abbrev pub IsFirstIn : KeyFamily → List ℕ → List ℕ → Option (List ℕ) → Type 0
IsFirstIn (pbes2 f name nk) key p2s kept = IfSome kept (λ first. first ≡ iterate f key (name ++ 0 ∷ p2s) 1 1)
IsFirstIn family key p2s kept = ⊤

abbrev pub IsFirstOf : KeyAlg → List ℕ → List ℕ → Option (List ℕ) → Type 0
IsFirstOf alg = IsFirstIn (key_family alg)

-- what is kept for each algorithm of passwords
pub record KeepsFirst (key p2s : List ℕ) (hs256 hs384 hs512 : Option (List ℕ)) : Type 0 where
  pub hs256_first : IsFirstOf Pbes2Hs256A128Kw key p2s hs256
  pub hs384_first : IsFirstOf Pbes2Hs384A192Kw key p2s hs384
  pub hs512_first : IsFirstOf Pbes2Hs512A256Kw key p2s hs512
