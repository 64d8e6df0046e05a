-- Decryption as functions (RFC 7516 section 5.2). Each gives the one octet string that encryption turns into the octets that were received.
use Rattle.std.specs.Prelude.{◌≡◌, ◌↔◌, ℕ, ◌==◌, ◌&&◌, Bool, false, not, List, length, nat_lt, if◌then◌else◌, Option, Some, None}
use Rattle.std.specs.Str.{bytes_eq}
use Rattle.octets.specs.Octets.{IsOctets}
use Rattle.octets.specs.Search.{found_within}
use Rattle.ciphers.specs.Delivery.{Parameters, way_of, is_delivered_by, IsDelivered}
use Rattle.ciphers.specs.Sealing.{Sealing, sealing, cek_len, iv_len, IsOpening}
use Rattle.ciphers.specs.declared.content_alg.ContentAlg.{ContentAlg}
use Rattle.ciphers.specs.declared.key_alg.KeyAlg.{KeyAlg}

-- ---- contents (RFC 7516 section 5.2, step 16)

abbrev pub is_longer : ℕ → Option ℕ → Bool
is_longer n None = false
is_longer n (Some most) = nat_lt most n

-- p is encrypted to the ciphertext and the tag
abbrev pub is_sealed_to : Sealing → List ℕ → List ℕ → List ℕ → Bool
is_sealed_to s c tag p = not (is_longer (length p) s.longest) && (bytes_eq (s.sealed p).ciphertext c && bytes_eq (s.sealed p).tag tag)

-- the plaintext that is, under a key and an IV of their lengths
unfoldable pub opening : ContentAlg → List ℕ → List ℕ → List ℕ → List ℕ → List ℕ → Option (List ℕ)
opening alg cek iv aad c tag =
    if length cek == cek_len alg && length iv == iv_len alg
    then found_within (length c) (is_sealed_to (sealing alg cek iv aad) c tag)
    else None

-- it is exactly the plaintext that opens them
abbrev pub OpensExactly : Type 0
OpensExactly = (alg : ContentAlg) (cek iv aad c tag p : List ℕ) → IsOctets cek → IsOctets iv
    → (opening alg cek iv aad c tag ≡ Some p) ↔ IsOpening alg cek iv aad c tag p

-- ---- content encryption keys (RFC 7516 section 5.2, steps 9 to 11)

-- the content encryption key that is delivered
unfoldable pub delivered : KeyAlg → ContentAlg → List ℕ → Parameters → List ℕ → Option (List ℕ)
delivered alg enc key p encrypted = found_within (cek_len enc) (is_delivered_by (way_of alg key p) enc key p encrypted)

-- it is exactly the one that is delivered
abbrev pub DeliversExactly : Type 0
DeliversExactly = (alg : KeyAlg) (enc : ContentAlg) (key : List ℕ) (p : Parameters) (encrypted cek : List ℕ) → IsOctets key
    → (delivered alg enc key p encrypted ≡ Some cek) ↔ IsDelivered alg enc key p encrypted cek
