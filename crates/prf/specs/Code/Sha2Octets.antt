-- The digests of SHA-2 are octets: theorems, which `Sha2.antt` cites.
use Rattle.std.proofs.Common.{◌≡◌, ℕ, zero, suc, ◌<◌, List, [], ◌∷◌, ◌++◌, take, slice_index, refl, sym, subst, arith}
use Rattle.std.proofs.lemmas.List.{places}
use Rattle.std.specs.Int.{byte_at, bytes_high_first}
use Rattle.octets.specs.Octets.{IsOctets}
use Rattle.sha2.specs.Sha256.{sha256, digest_bytes as digest_bytes_256}
use Rattle.sha2.specs.Sha512.{sha384, sha512, digest_bytes as digest_bytes_512}

pub IsOctets-nil : IsOctets []
IsOctets-nil i = omega arith

pub IsOctets-append : (x y : List ℕ) → IsOctets x → IsOctets y → IsOctets (x ++ y)
IsOctets-append [] y a b i = b i
IsOctets-append (o ∷ x) y a b zero = a 0
IsOctets-append (o ∷ x) y a b (suc i) = IsOctets-append x y (λ k. a (suc k)) b i

pub IsOctets-take : (n : ℕ) (x : List ℕ) → IsOctets x → IsOctets (take n x)
IsOctets-take n x a i = grind (arith, places, a i)

byte_at-lt : (i n : ℕ) → byte_at i n < 256
byte_at-lt zero n = omega arith
byte_at-lt (suc i) n = omega arith

IsOctets-bytes_high_first : (k n : ℕ) → IsOctets (bytes_high_first k n)
IsOctets-bytes_high_first zero n i = IsOctets-nil i
IsOctets-bytes_high_first (suc k) n zero = byte_at-lt k n
IsOctets-bytes_high_first (suc k) n (suc i) = IsOctets-bytes_high_first k n i

-- the first n words of a hash value, of k octets each
words : (k : ℕ) (hash : List ℕ) (bytes : ℕ → List ℕ) → bytes 0 ≡ [] → ((n : ℕ) → bytes (suc n) ≡ bytes n ++ bytes_high_first k (slice_index hash n))
    → (n : ℕ) → IsOctets (bytes n)
words k hash bytes none more zero = subst IsOctets (sym none) IsOctets-nil
words k hash bytes none more (suc n) =
    let word = slice_index hash n in
    subst IsOctets (sym (more n)) (IsOctets-append (bytes n) (bytes_high_first k word) (words k hash bytes none more n) (IsOctets-bytes_high_first k word))

words_256 : (hash : List ℕ) (n : ℕ) → IsOctets (digest_bytes_256 hash n)
unfolding digest_bytes_256
words_256 hash = words 4 hash (digest_bytes_256 hash) refl (λ n. refl)

words_512 : (hash : List ℕ) (n : ℕ) → IsOctets (digest_bytes_512 hash n)
unfolding digest_bytes_512
words_512 hash = words 8 hash (digest_bytes_512 hash) refl (λ n. refl)

pub IsOctets-sha256 : (message : List ℕ) → IsOctets (sha256 message)
unfolding sha256
IsOctets-sha256 message = words_256 _ 8

pub IsOctets-sha384 : (message : List ℕ) → IsOctets (sha384 message)
unfolding sha384
IsOctets-sha384 message = IsOctets-take 48 _ (words_512 _ 8)

pub IsOctets-sha512 : (message : List ℕ) → IsOctets (sha512 message)
unfolding sha512
IsOctets-sha512 message = words_512 _ 8
