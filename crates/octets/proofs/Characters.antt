-- The characters of base64url texts.
use Rattle.std.proofs.Common.{◌≡◌, ℕ, zero, suc, ◌+◌, ◌*◌, ◌/◌, ◌%◌, ◌<◌, List, [], ◌∷◌, length, get_or, true, refl, sym, ◌∙◌, ap, subst, arith, append-nil}
use Rattle.std.proofs.lemmas.List.FromFn.{fill_by_all}
use Rattle.std.specs.List.{AllByRecursion}
use Rattle.base64.specs.Engines.{url_safe_no_pad}
use Rattle.base64.specs.GeneralPurpose.{engine_symbols}
use Rattle.base64.specs.Rfc4648.{encode_symbols}
use Rattle.base64.specs.Tables.{all_below}
use Rattle.base64.proofs.RoundTrip.{length-encode_symbols}
use Rattle.base64.proofs.Tables.{all_below_at}
use Rattle.octets.specs.Octets.{IsOctets}
use Rattle.octets.specs.Base64url.{base64url, url_alphabet, six_bits, SpellsSixBits, is_url_character, HasUrlCharacters}

abbrev AreUrl : List ℕ → Type 0
AreUrl text = AllByRecursion (λ c. is_url_character c ≡ true) text

abbrev alphabet : List ℕ
alphabet = engine_symbols url_safe_no_pad

each_symbol : all_below (λ i. is_url_character (get_or alphabet i 0)) 64 ≡ true
each_symbol = refl

symbol : (i : ℕ) → i < 64 → is_url_character (get_or alphabet i 0) ≡ true
symbol i h = all_below_at (λ i. is_url_character (get_or alphabet i 0)) 64 i each_symbol h

symbols : (x : List ℕ) → IsOctets x → AreUrl (encode_symbols alphabet x)
unfolding encode_symbols
symbols [] h = tt
symbols (a ∷ []) h =
    let ha : a < 256 = h 0 in
    (symbol (a / 4) (omega arith), (symbol (a % 4 * 16) (omega arith), tt))
symbols (a ∷ b ∷ []) h =
    let ha : a < 256 = h 0 in
    let hb : b < 256 = h 1 in
    (symbol (a / 4) (omega arith), (symbol (a % 4 * 16 + b / 16) (omega arith), (symbol (b % 16 * 4) (omega arith), tt)))
symbols (a ∷ b ∷ c ∷ rest) h =
    let ha : a < 256 = h 0 in
    let hb : b < 256 = h 1 in
    let hc : c < 256 = h 2 in
    let more : AreUrl (encode_symbols alphabet rest) = symbols rest (λ i. h (suc (suc (suc i)))) in (
      symbol (a / 4) (omega arith),
      (
        symbol (a % 4 * 16 + b / 16) (omega arith),
        (symbol (b % 16 * 4 + c / 64) (omega arith), (symbol (c % 64) (omega arith), more)),
      ),
    )

-- After three more octets, the characters are four further on.
later : (a b c : ℕ) (rest : List ℕ) (j : ℕ) → six_bits (a ∷ b ∷ c ∷ rest) (suc (suc (suc (suc j)))) ≡ six_bits rest j
later a b c rest j =
    let at : 6 * suc (suc (suc (suc j))) / 8 ≡ suc (suc (suc (6 * j / 8))) = omega arith in
    let bit : 6 * suc (suc (suc (suc j))) % 8 ≡ 6 * j % 8 = omega arith in
    let next : suc (suc (suc (6 * j / 8))) + 1 ≡ suc (suc (suc (6 * j / 8 + 1))) = omega arith in
    rw (at, bit, next) refl

-- Equal values have the same symbol.
same : (v w : ℕ) → v ≡ w → get_or alphabet v 0 ≡ get_or alphabet w 0
same v w e = ap (λ s. get_or alphabet s 0) e

symbol_at : (x : List ℕ) → IsOctets x → (i : ℕ) → i < length (encode_symbols alphabet x)
    → get_or (encode_symbols alphabet x) i 0 ≡ get_or alphabet (six_bits x i) 0
unfolding encode_symbols
symbol_at [] h i l = absurd (omega arith)
symbol_at (a ∷ []) h zero l =
    let ha : a < 256 = h 0 in
    same (a / 4) (six_bits (a ∷ []) 0) (omega arith)
symbol_at (a ∷ []) h (suc zero) l =
    let ha : a < 256 = h 0 in
    same (a % 4 * 16) (six_bits (a ∷ []) 1) (omega arith)
symbol_at (a ∷ []) h (suc (suc i)) l = absurd (omega arith)
symbol_at (a ∷ b ∷ []) h zero l =
    let ha : a < 256 = h 0 in
    let hb : b < 256 = h 1 in
    same (a / 4) (six_bits (a ∷ b ∷ []) 0) (omega arith)
symbol_at (a ∷ b ∷ []) h (suc zero) l =
    let ha : a < 256 = h 0 in
    let hb : b < 256 = h 1 in
    same (a % 4 * 16 + b / 16) (six_bits (a ∷ b ∷ []) 1) (omega arith)
symbol_at (a ∷ b ∷ []) h (suc (suc zero)) l =
    let hb : b < 256 = h 1 in
    same (b % 16 * 4) (six_bits (a ∷ b ∷ []) 2) (omega arith)
symbol_at (a ∷ b ∷ []) h (suc (suc (suc i))) l = absurd (omega arith)
symbol_at (a ∷ b ∷ c ∷ rest) h zero l =
    let ha : a < 256 = h 0 in
    let hb : b < 256 = h 1 in
    same (a / 4) (six_bits (a ∷ b ∷ c ∷ rest) 0) (omega arith)
symbol_at (a ∷ b ∷ c ∷ rest) h (suc zero) l =
    let ha : a < 256 = h 0 in
    let hb : b < 256 = h 1 in
    same (a % 4 * 16 + b / 16) (six_bits (a ∷ b ∷ c ∷ rest) 1) (omega arith)
symbol_at (a ∷ b ∷ c ∷ rest) h (suc (suc zero)) l =
    let hb : b < 256 = h 1 in
    let hc : c < 256 = h 2 in
    same (b % 16 * 4 + c / 64) (six_bits (a ∷ b ∷ c ∷ rest) 2) (omega arith)
symbol_at (a ∷ b ∷ c ∷ rest) h (suc (suc (suc zero))) l =
    let hc : c < 256 = h 2 in
    let hd : get_or rest 0 0 < 256 = h 3 in
    same (c % 64) (six_bits (a ∷ b ∷ c ∷ rest) 3) (omega arith)
symbol_at (a ∷ b ∷ c ∷ rest) h (suc (suc (suc (suc i)))) l =
    symbol_at rest (λ j. h (suc (suc (suc j)))) i (omega arith)
    ∙ same (six_bits rest i) (six_bits (a ∷ b ∷ c ∷ rest) (suc (suc (suc (suc i))))) (sym (later a b c rest i))

pub spells_six_bits : SpellsSixBits
unfolding base64url
spells_six_bits x h =
    let text = encode_symbols alphabet x in
    let len : length text ≡ (8 * length x + 5) / 6 = omega (arith, length-encode_symbols alphabet x) in
    append-nil text ∙ fill_by_all (λ i. get_or url_alphabet (six_bits x i) 0) text ((8 * length x + 5) / 6) 0 len (λ i l. symbol_at x h i (omega arith))

pub has_url_characters : HasUrlCharacters
unfolding base64url
has_url_characters x h = subst AreUrl (sym (append-nil (encode_symbols alphabet x))) (symbols x h)
