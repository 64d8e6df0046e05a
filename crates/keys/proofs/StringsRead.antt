-- A string that is read from UTF-8 text is UTF-8.
use Rattle.std.proofs.Common.{◌≡◌, ◌<◌, ◌≤◌, ◌+◌, ℕ, true, false, nat_lt, nat_le, List, [], ◌∷◌, ◌++◌, length, Option, Some, None, option_and_then, refl, sym, subst, arith, append_assoc, append-nil, length-append, IsUtf8, inl, inr}
use Rattle.std.proofs.lemmas.Bool.{and_parts, and_from, and_cases, or_cases, cond_both, eqb-true, ltb-true, ltb-false, leb-true, leb-false, le-leb, lt-ltb}
use Rattle.std.proofs.lemmas.Bool.Decides.{nat_tests}
use Rattle.std.proofs.lemmas.List.{take_at, drop_at}
use Rattle.std.proofs.lemmas.Str.{IsUtf8-append, IsUtf8-encode, IsUtf8-take, IsUtf8-drop, IsCharBoundary-before_ascii, IsCharBoundary-after_ascii}
use Rattle.std.proofs.Math.Seq.{get_or-append_seam}
use Rattle.std.specs.Char.{IsScalar, digit_value, is_digit, encode_utf8}
use Rattle.std.specs.Prelude.{◌&&◌, ◌||◌, ◌==◌, drop, ⊤}
use Rattle.json.proofs.Printed.Utf8.{IsUtf8-are_ascii}
use Rattle.json.specs.Text.{code_unit, short_escape, is_high_surrogate, is_low_surrogate, surrogate_pair, Within, plain, after_backslash, after_u, after_high, prepend, content}

-- ---- text on both sides of an ASCII character

pub around : (a b : List ℕ) (x : ℕ) → x < 128 → IsUtf8 (a ++ x ∷ b) → IsUtf8 a × IsUtf8 b
around a b x small u =
    let all = a ++ x ∷ b in
    let i = length a in
    let within : i < length all = omega (arith, length-append a (x ∷ b)) in
    let here = get_or-append_seam a x b 0 in
    let end : length (a ++ x ∷ []) ≡ i + 1 = omega (arith, length-append a (x ∷ [])) in (
      subst IsUtf8 (take_at a (x ∷ b) i refl) (IsUtf8-take all i u (IsCharBoundary-before_ascii all i within (omega (arith, here, small)))),
      subst IsUtf8 (drop_at (a ++ x ∷ []) b (i + 1) end)
          (subst (λ l. IsUtf8 (drop (i + 1) l)) (sym (append_assoc a (x ∷ []) b))
          (IsUtf8-drop all (i + 1) u (IsCharBoundary-after_ascii all i u within (omega (arith, here, small))))),
    )

pub rest_of : (b : List ℕ) (x : ℕ) → x < 128 → IsUtf8 (x ∷ b) → IsUtf8 b
rest_of b x small u = (around [] b x small u).1

ascii_one : (x : ℕ) → x < 128 → IsUtf8 (x ∷ [])
ascii_one x small = IsUtf8-are_ascii (x ∷ []) (and_from (nat_lt x 128) true (lt-ltb x 128 small) refl)

-- ---- escapes

abbrev IsSmallPair : ℕ → Option ℕ → Type 0
IsSmallPair x None = ⊤
IsSmallPair x (Some c) = (x < 128) × (c < 128)

short_is_small : (x : ℕ) → IsSmallPair x (short_escape x)
unfolding short_escape
short_is_small x =
    let P : Option ℕ → Type 0 = IsSmallPair x in
    let here : (y : ℕ) → y < 128 → (x == y) ≡ true → x < 128 = λ y small e. omega (arith, eqb-true x y e) in
    let same : x < 128 → P (Some x) = λ small. (small, small) in
    cond_both ((x == 34) || (x == 92) || (x == 47)) _ _ P
    (λ e. same (elim (or_cases ((x == 34) || (x == 92)) (x == 47) e) [
      | inl f ↦ elim (or_cases (x == 34) (x == 92) f) [ inl g ↦ here 34 (omega arith) g | inr g ↦ here 92 (omega arith) g ]
      | inr f ↦ here 47 (omega arith) f
    ]))
    (λ _. cond_both (x == 98) _ _ P (λ e. (here 98 (omega arith) e, omega arith))
    (λ _. cond_both (x == 102) _ _ P (λ e. (here 102 (omega arith) e, omega arith))
    (λ _. cond_both (x == 110) _ _ P (λ e. (here 110 (omega arith) e, omega arith))
    (λ _. cond_both (x == 114) _ _ P (λ e. (here 114 (omega arith) e, omega arith))
    (λ _. cond_both (x == 116) _ _ P (λ e. (here 116 (omega arith) e, omega arith)) (λ _. tt))))))

hex_is_small : (a : ℕ) → is_digit a 16 ≡ true → a < 128
hex_is_small a h = grind (arith, nat_tests)

hex_value : (a : ℕ) → is_digit a 16 ≡ true → digit_value a < 16
hex_value a h = ltb-true _ _ h

abbrev IsUnit : ℕ → ℕ → ℕ → ℕ → Option ℕ → Type 0
IsUnit a b c d None = ⊤
IsUnit a b c d (Some u) = (a < 128) × (b < 128) × (c < 128) × (d < 128) × (u < 65536)

unit_is : (a b c d : ℕ) → IsUnit a b c d (code_unit a b c d)
unfolding code_unit
unit_is a b c d =
    cond_both (is_digit a 16 && is_digit b 16 && is_digit c 16 && is_digit d 16) _ _ (IsUnit a b c d)
    (λ h.
    let p = and_parts (is_digit a 16 && is_digit b 16 && is_digit c 16) (is_digit d 16) h in
    let q = and_parts (is_digit a 16 && is_digit b 16) (is_digit c 16) p.0 in
    let r = and_parts (is_digit a 16) (is_digit b 16) q.0 in (
      hex_is_small a r.0,
      hex_is_small b r.1,
      hex_is_small c q.1,
      hex_is_small d p.1,
      omega (arith, hex_value a r.0, hex_value b r.1, hex_value c q.1, hex_value d p.1),
    ))
    (λ _. tt)

scalar_from : (c : ℕ) → (55296 ≤ c → 57344 ≤ c) → c < 1114112 → IsScalar c
scalar_from c high small =
    cond_both (nat_lt c 55296) true (nat_le 57344 c && nat_lt c 1114112) (λ r. r ≡ true) (λ _. refl)
    (λ f. and_from _ _ (le-leb 57344 c (high (ltb-false c 55296 f))) (lt-ltb c 1114112 small))

outside : (low high u : ℕ) → (nat_le low u && nat_lt u high) ≡ false → low ≤ u → high ≤ u
outside low high u e h = elim (and_cases (nat_le low u) (nat_lt u high) e) [
  | inl f ↦ let below : u < low = leb-false low u f in omega (arith, below, h)
  | inr f ↦ ltb-false u high f
]

unit_scalar : (u : ℕ) → u < 65536 → is_high_surrogate u ≡ false → is_low_surrogate u ≡ false → IsScalar u
unit_scalar u small h l = scalar_from u (λ from. outside 56320 57344 u l (outside 55296 56320 u h from)) (omega (arith, small))

pair_scalar : (h l : ℕ) → is_high_surrogate h ≡ true → is_low_surrogate l ≡ true → IsScalar (surrogate_pair h l)
pair_scalar h l p q =
    let hs = and_parts (nat_le 55296 h) (nat_lt h 56320) p in
    let ls = and_parts (nat_le 56320 l) (nat_lt l 57344) q in
    let a : 55296 ≤ h = leb-true _ _ hs.0 in
    let b : h < 56320 = ltb-true _ _ hs.1 in
    let c : 56320 ≤ l = leb-true _ _ ls.0 in
    let d : l < 57344 = ltb-true _ _ ls.1 in
    scalar_from (surrogate_pair h l) (λ _. omega (arith, a, b, c, d)) (omega (arith, a, b, c, d))

-- ---- the content of a string

-- the text before and the text that is left, together or each, are UTF-8
abbrev Given : Within → List ℕ → List ℕ → Type 0
Given plain done left = IsUtf8 (done ++ left)
Given after_backslash done left = IsUtf8 done × IsUtf8 left
Given after_u done left = IsUtf8 done × IsUtf8 left
Given (after_high h) done left = IsUtf8 done × IsUtf8 left × (is_high_surrogate h ≡ true)

abbrev Gives : List ℕ → Option (List ℕ) → Type 0
Gives done None = ⊤
Gives done (Some s) = IsUtf8 (done ++ s)

then : (done : List ℕ) (P : Option ℕ → Type 0) (f : ℕ → Option (List ℕ)) (o : Option ℕ) → P o → ((u : ℕ) → P (Some u) → Gives done (f u))
    → Gives done (option_and_then f o)
then done P f None p h = tt
then done P f (Some u) p h = h u p

prepended : (done more : List ℕ) (o : Option (List ℕ)) → Gives (done ++ more) o → Gives done (prepend more o)
prepended done more None g = tt
prepended done more (Some s) g = subst IsUtf8 (append_assoc done more s) g

joined : (done more left : List ℕ) → IsUtf8 done → IsUtf8 more → IsUtf8 left → IsUtf8 ((done ++ more) ++ left)
joined done more left u v w = IsUtf8-append (done ++ more) left (IsUtf8-append done more u v) w

rest_of_four : (a b c d : ℕ) (xs : List ℕ) → a < 128 → b < 128 → c < 128 → d < 128 → IsUtf8 (a ∷ b ∷ c ∷ d ∷ xs) → IsUtf8 xs
rest_of_four a b c d xs i j k l u = rest_of xs d l (rest_of (d ∷ xs) c k (rest_of (c ∷ d ∷ xs) b j (rest_of (b ∷ c ∷ d ∷ xs) a i u)))

content_gives : (w : Within) (done xs : List ℕ) → Given w done xs → Gives done (content w xs)
unfolding content
content_gives plain done [] g = tt
content_gives plain done (x ∷ xs) g =
    let P : Option (List ℕ) → Type 0 = Gives done in
    cond_both (x == 34) _ _ P (λ q. subst IsUtf8 (sym (append-nil done)) (around done xs x (omega (arith, eqb-true x 34 q)) g).0)
    (λ _. cond_both (x == 92) _ _ P (λ b. content_gives after_backslash done xs (around done xs x (omega (arith, eqb-true x 92 b)) g))
    (λ _. cond_both (nat_lt x 32) _ _ P (λ _. tt) (λ _. prepended done (x ∷ []) (content plain xs)
    (content_gives plain (done ++ x ∷ []) xs (subst IsUtf8 (sym (append_assoc done (x ∷ []) xs)) g)))))
content_gives after_backslash done [] g = tt
content_gives after_backslash done (x ∷ xs) g =
    cond_both (x == 117) _ _ (Gives done) (λ e. content_gives after_u done xs (g.0, rest_of xs x (omega (arith, eqb-true x 117 e)) g.1))
    (λ _. then done (IsSmallPair x) _ (short_escape x) (short_is_small x)
    (λ c small. prepended done (c ∷ []) (content plain xs)
    (content_gives plain (done ++ c ∷ []) xs (joined done (c ∷ []) xs g.0 (ascii_one c small.1) (rest_of xs x small.0 g.1)))))
content_gives after_u done [] g = tt
content_gives after_u done (a ∷ []) g = tt
content_gives after_u done (a ∷ b ∷ []) g = tt
content_gives after_u done (a ∷ b ∷ c ∷ []) g = tt
content_gives after_u done (a ∷ b ∷ c ∷ d ∷ xs) g =
    then done (IsUnit a b c d) _ (code_unit a b c d) (unit_is a b c d)
    (λ u is.
    let left : IsUtf8 xs = rest_of_four a b c d xs is.0 is.1 is.2 is.3 g.1 in
    cond_both (is_high_surrogate u) _ _ (Gives done) (λ h. content_gives (after_high u) done xs (g.0, left, h))
    (λ h. cond_both (is_low_surrogate u) _ _ (Gives done) (λ _. tt)
    (λ l. prepended done (encode_utf8 u) (content plain xs)
    (content_gives plain (done ++ encode_utf8 u) xs (joined done (encode_utf8 u) xs g.0 (IsUtf8-encode u (unit_scalar u is.4 h l)) left)))))
content_gives (after_high h) done [] g = tt
content_gives (after_high h) done (s ∷ []) g = tt
content_gives (after_high h) done (s ∷ u ∷ []) g = tt
content_gives (after_high h) done (s ∷ u ∷ a ∷ []) g = tt
content_gives (after_high h) done (s ∷ u ∷ a ∷ b ∷ []) g = tt
content_gives (after_high h) done (s ∷ u ∷ a ∷ b ∷ c ∷ []) g = tt
content_gives (after_high h) done (s ∷ u ∷ a ∷ b ∷ c ∷ d ∷ xs) g =
    cond_both ((s == 92) && (u == 117)) _ _ (Gives done)
    (λ e.
    let p = and_parts (s == 92) (u == 117) e in
    let left : IsUtf8 (a ∷ b ∷ c ∷ d ∷ xs) = rest_of _ u (omega (arith, eqb-true u 117 p.1)) (rest_of _ s (omega (arith, eqb-true s 92 p.0)) g.1) in
    then done (IsUnit a b c d) _ (code_unit a b c d) (unit_is a b c d)
    (λ l is. cond_both (is_low_surrogate l) _ _ (Gives done)
    (λ low.
    let c : ℕ = surrogate_pair h l in
    prepended done (encode_utf8 c) (content plain xs)
    (content_gives plain (done ++ encode_utf8 c) xs (joined done (encode_utf8 c) xs g.0 (IsUtf8-encode c (pair_scalar h l g.2 low))
    (rest_of_four a b _ d xs is.0 is.1 is.2 is.3 left))))
    (λ _. tt)))
    (λ _. tt)

-- the string at the beginning of the text, if there is one, is UTF-8
abbrev pub IsTextIfThere : Option (List ℕ) → Type 0
IsTextIfThere None = ⊤
IsTextIfThere (Some s) = IsUtf8 s

if_there : (o : Option (List ℕ)) → Gives [] o → IsTextIfThere o
if_there None g = tt
if_there (Some s) g = g

pub content_is_utf8 : (xs : List ℕ) → IsUtf8 xs → IsTextIfThere (content plain xs)
content_is_utf8 xs u = if_there (content plain xs) (content_gives plain [] xs u)
