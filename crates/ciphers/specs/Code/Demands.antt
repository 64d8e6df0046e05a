-- What calls ask of a key and of its parameters (RFC 7518 sections 4.4, 4.7 and 4.8), and how many iterations a call does.
use Rattle.std.specs.Prelude.{◌≡◌, ℕ, ◌*◌, ◌≤◌, List, ⊤, length}
use Rattle.ciphers.specs.Algorithms.{KeyFamily, aes_key_wrap, aes_gcm_key_wrap, pbes2, key_family}
use Rattle.ciphers.specs.declared.key_alg.KeyAlg.{KeyAlg}
use Rattle.ciphers.specs.Delivery.{key_iv_len}

-- AES takes a key of its words (sections 4.4 and 4.7); a password, and a key that is used directly, may be of any length
abbrev pub IsKeyIn : KeyFamily → List ℕ → Type 0
IsKeyIn (aes_key_wrap nk) key = length key ≡ 4 * nk
IsKeyIn (aes_gcm_key_wrap nk) key = length key ≡ 4 * nk
IsKeyIn family key = ⊤

abbrev pub IsKeyOf : KeyAlg → List ℕ → Type 0
IsKeyOf alg = IsKeyIn (key_family alg)

-- p2c is at least 1, where it is read (section 4.8.1.2)
abbrev pub IsCountIn : KeyFamily → ℕ → Type 0
IsCountIn (pbes2 f name nk) p2c = 1 ≤ p2c
IsCountIn family p2c = ⊤

abbrev pub IsCountOf : KeyAlg → ℕ → Type 0
IsCountOf alg = IsCountIn (key_family alg)

-- the IV has this length, where it is read
abbrev pub IsIvIn : KeyFamily → List ℕ → Type 0
IsIvIn (aes_gcm_key_wrap nk) iv = length iv ≡ key_iv_len
IsIvIn family iv = ⊤

abbrev pub IsIvOf : KeyAlg → List ℕ → Type 0
IsIvOf alg = IsIvIn (key_family alg)

-- a key was salted with the octets of p2s, where they are read (section 4.8.1.1)
abbrev pub IsSaltIn : KeyFamily → List ℕ → List ℕ → Type 0
IsSaltIn (pbes2 f name nk) salted p2s = salted ≡ p2s
IsSaltIn family salted p2s = ⊤

abbrev pub IsSaltOf : KeyAlg → List ℕ → List ℕ → Type 0
IsSaltOf alg = IsSaltIn (key_family alg)

-- the number of its iterations is p2c (section 4.8.1.2), and it is 0 where no key is derived
abbrev pub iterations_in : KeyFamily → ℕ → ℕ
iterations_in (pbes2 f name nk) p2c = p2c
iterations_in family p2c = 0

abbrev pub iteration_count : KeyAlg → ℕ → ℕ
iteration_count alg = iterations_in (key_family alg)
