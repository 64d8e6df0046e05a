-- UTF-8 and the texts of strings are octets.
use Rattle.std.proofs.Common.{◌≡◌, ℕ, ◌+◌, ◌/◌, ◌<◌, true, List, [], ◌∷◌, Some, IsUtf8, ⊎_elim, subst, arith}
use Rattle.std.proofs.lemmas.Bool.{and_parts, cond_both, ltb-true}
use lib.Dec.{ltb}
use lib.Utf8.{scalar, scalars, scalar_cases, next, encode, encodes}
use Rattle.serde_json.specs.Data.{Data, null, boolean, number, string, array, object}
use Rattle.serde_json.specs.Find.{as_str}
use Rattle.octets.specs.Octets.{IsOctets}
use Rattle.octets.proofs.Lemmas.{IsOctets-nil, first_or, IsOctets-append}
use Rattle.keys.specs.JsonTexts.{IsJson}

-- Every character is at most U+10FFFF.
below : (c : ℕ) → scalar c ≡ true → c < 1114112
below c is = ⊎_elim (λ (low : c < 55296). omega arith) (λ high. high.1) (scalar_cases c is)

-- A later byte of a character is an octet.
later : (n : ℕ) (rest : List ℕ) → IsOctets rest → IsOctets (next n ∷ rest)
later n rest h = first_or (next n) rest (omega arith) h

character : (c : ℕ) → scalar c ≡ true → IsOctets (encode c)
unfolding encode
character c is =
    let last : List ℕ = next c ∷ [] in
    let two : List ℕ = next (c / 64) ∷ last in
    let three : List ℕ = next (c / 4096) ∷ two in
    let of_last : IsOctets last = later c [] IsOctets-nil in
    let of_two : IsOctets two = later (c / 64) last of_last in
    cond_both (ltb c 128) _ _ IsOctets (λ e. first_or c [] (omega (arith, ltb-true c 128 e)) IsOctets-nil)
    (λ _. cond_both (ltb c 2048) _ _ IsOctets (λ e. first_or (192 + c / 64) last (omega (arith, ltb-true c 2048 e)) of_last)
    (λ _. cond_both (ltb c 65536) _ _ IsOctets (λ e. first_or (224 + c / 4096) two (omega (arith, ltb-true c 65536 e)) of_two)
    (λ _. first_or (240 + c / 262144) three (omega (arith, below c is)) (later (c / 4096) two of_two))))

characters : (cs : List ℕ) → scalars cs ≡ true → IsOctets (encodes cs)
characters [] h = IsOctets-nil
characters (c ∷ cs) h = let parts = and_parts (scalar c) (scalars cs) h in IsOctets-append (encode c) (encodes cs) (character c parts.0) (characters cs parts.1)

pub octets_of_utf8 : (text : List ℕ) → IsUtf8 text → IsOctets text
octets_of_utf8 text h = subst IsOctets h.1.1 (characters h.0 h.1.0)

-- ---- strings

pub string_octets : (d : Data) (text : List ℕ) → IsJson d → as_str d ≡ Some text → IsOctets text
string_octets null text is h = cc h
string_octets (boolean b) text is h = cc h
string_octets (number n) text is h = cc h
string_octets (string s) text is h = let same : s ≡ text = cc h in subst IsOctets same (octets_of_utf8 s is)
string_octets (array ds) text is h = cc h
string_octets (object ms) text is h = cc h
