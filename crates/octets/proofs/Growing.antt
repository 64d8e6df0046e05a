-- Plans of base64url, whose fixed parts grow.
use Rattle.std.proofs.Common.{◌≡◌, ℕ, zero, suc, ◌<◌, ◌-◌, ◌%◌, ◌==◌, ◌≤◌, Bool, true, false, cond, List, [], ◌∷◌, ◌++◌, length, take, drop, slice_index, Result, Ok, Err, ◌⊎◌, inl, inr, refl, sym, ◌∙◌, ap, subst, arith, append_assoc, length-append}
use Rattle.std.proofs.Math.Seq.{take-length}
use Rattle.std.proofs.lemmas.List.{take-append-drop, length-take-le, length-drop}
use Rattle.std.proofs.lemmas.Bool.{cases_lt, eqb-true}
use Rattle.std.specs.List.{AllByRecursion}
use Rattle.octets.specs.declared.refusal.Refusal.{Refusal}
use Rattle.octets.specs.Octets.{IsOctets}
use Rattle.octets.specs.Base64url.{base64url, decoded, is_url_character, whole_groups}
use Rattle.octets.specs.Code.Streams.{part_group, as_it_is}
use Rattle.octets.specs.LineEnds.{without_line_end}
use Rattle.octets.specs.Pumps.{most_behind, KeepsUp}
use Rattle.octets.specs.Plan.{Begins, Grows}
use Rattle.octets.specs.Encoding.{encoding, and_octets, octets_of_groups, decoding, IsLongestDecoded, FixesLongest}
use Rattle.octets.proofs.Decoded.{IsOctets-nil, IsOctets-append, IsOctets-take, IsOctets-drop, IsOctets-front, octets_of_meaning, parts_of_meaning, same_front}
use Rattle.octets.proofs.Groups.{base64url-append, length-base64url, base64url_whole-append, base64url_whole_part}
use Rattle.base64.specs.Engines.{url_safe_no_pad}
use Rattle.base64.proofs.EngineFacts.{encode_of-nil}
use Rattle.octets.proofs.Meanings.{text_of_meaning, meaning_of_text}
use Rattle.octets.proofs.Characters.{has_url_characters}

-- ---- the text of octets

pub encoding_grows : Grows encoding
encoding_grows = record {
  more = λ p q. record { rest = base64url (whole_groups (part_group p ++ q)); continues = base64url_whole-append p q };
  whole = λ p q w octets e.
      let is : w ≡ base64url (p ++ q) = cc e in record {
        rest = base64url (whole_groups (part_group p ++ q)) ++ base64url (part_group (p ++ q));
        continues = is ∙ base64url_whole_part (p ++ q) ∙ ap (λ t. t ++ base64url (part_group (p ++ q))) (base64url_whole-append p q)
            ∙ append_assoc (base64url (whole_groups p)) (base64url (whole_groups (part_group p ++ q))) (base64url (part_group (p ++ q)));
      };
}

-- ---- the octets of a text

and_goes_on : (first : Result (List ℕ) Refusal) (x y : List ℕ) → Begins x y → Begins (and_octets first x) (and_octets first y)
and_goes_on (Ok octets) x y b = record { rest = b.rest; continues = ap (λ l. octets ++ l) b.continues ∙ sym (append_assoc octets x b.rest) }
and_goes_on (Err r) x y b = record { rest = []; continues = refl }

pub groups_go_on : (p q : List ℕ) → Begins (octets_of_groups p) (octets_of_groups (p ++ q))
unfolding octets_of_groups
groups_go_on [] q = record { rest = octets_of_groups q; continues = refl }
groups_go_on (a ∷ []) q = record { rest = octets_of_groups (a ∷ q); continues = refl }
groups_go_on (a ∷ b ∷ []) q = record { rest = octets_of_groups (a ∷ b ∷ q); continues = refl }
groups_go_on (a ∷ b ∷ c ∷ []) q = record { rest = octets_of_groups (a ∷ b ∷ c ∷ q); continues = refl }
groups_go_on (a ∷ b ∷ c ∷ d ∷ rest) q = and_goes_on (decoded (a ∷ b ∷ c ∷ d ∷ [])) (octets_of_groups rest) (octets_of_groups (rest ++ q)) (groups_go_on rest q)

-- A line end is cut off at a character that is not in the base64url alphabet.
cut_at : (text : List ℕ) → (n : ℕ) × (without_line_end text ≡ take n text) × (n < length text → is_url_character (slice_index text n) ≡ false)
unfolding without_line_end
cut_at text = by_tests (slice_index text (length text - 1) == 10) (slice_index text (length text - 2) == 13) refl refl
  where
    by_tests : (b c : Bool) → (slice_index text (length text - 1) == 10) ≡ b → (slice_index text (length text - 2) == 13) ≡ c
        → (n : ℕ) × (cond b (cond c (take (length text - 2) text) (take (length text - 1) text)) text ≡ take n text)
        × (n < length text → is_url_character (slice_index text n) ≡ false)
    by_tests true true e f = (length text - 2, refl, λ l. ap is_url_character (eqb-true (slice_index text (length text - 2)) 13 f))
    by_tests true false e f = (length text - 1, refl, λ l. ap is_url_character (eqb-true (slice_index text (length text - 1)) 10 e))
    by_tests false c e f = (length text, sym (take-length text), λ l. absurd (omega arith))

group_characters : (a b c d : ℕ) (o : List ℕ) → IsOctets (a ∷ b ∷ c ∷ d ∷ []) → decoded (a ∷ b ∷ c ∷ d ∷ []) ≡ Ok o
    → AllByRecursion (λ x. is_url_character x ≡ true) (a ∷ b ∷ c ∷ d ∷ [])
group_characters a b c d o octets ok =
    let text = text_of_meaning (a ∷ b ∷ c ∷ d ∷ []) o octets ok in
    subst (AllByRecursion (λ x. is_url_character x ≡ true)) (sym text) (has_url_characters o (octets_of_meaning (a ∷ b ∷ c ∷ d ∷ []) o octets ok))

begins_cut : (p q w : List ℕ) (n : ℕ) → IsOctets (p ++ q) → (n < length (p ++ q) → is_url_character (slice_index (p ++ q) n) ≡ false)
    → decoded (take n (p ++ q)) ≡ Ok w → Begins (octets_of_groups p) w
unfolding octets_of_groups
begins_cut [] q w n octets bad ok = record { rest = w; continues = refl }
begins_cut (a ∷ []) q w n octets bad ok = record { rest = w; continues = refl }
begins_cut (a ∷ b ∷ []) q w n octets bad ok = record { rest = w; continues = refl }
begins_cut (a ∷ b ∷ c ∷ []) q w n octets bad ok = record { rest = w; continues = refl }
begins_cut (a ∷ b ∷ c ∷ d ∷ rest) q w n octets bad ok =
    by_group n (decoded first) refl bad ok (λ m. begins_cut rest q (drop 3 w) m (λ k. octets (suc (suc (suc (suc k))))))
  where
    first : List ℕ
    first = a ∷ b ∷ c ∷ d ∷ []

    by_group : (m : ℕ) (r : Result (List ℕ) Refusal) → decoded first ≡ r
        → (m < length (first ++ (rest ++ q)) → is_url_character (slice_index (first ++ (rest ++ q)) m) ≡ false)
        → decoded (take m (first ++ (rest ++ q))) ≡ Ok w
        → ((k : ℕ) → (k < length (rest ++ q) → is_url_character (slice_index (rest ++ q) k) ≡ false) → decoded (take k (rest ++ q)) ≡ Ok (drop 3 w)
        → Begins (octets_of_groups rest) (drop 3 w))
        → Begins (and_octets r (octets_of_groups rest)) w
    by_group m (Err e) is bad ok later = record { rest = w; continues = refl }
    by_group zero (Ok o) is bad ok later =
        let all = group_characters a b c d o (IsOctets-front (a ∷ b ∷ c ∷ d ∷ []) (rest ++ q) octets) is in
        let both = sym all.0 ∙ bad (omega arith) in cc both
    by_group (suc zero) (Ok o) is bad ok later =
        let all = group_characters a b c d o (IsOctets-front (a ∷ b ∷ c ∷ d ∷ []) (rest ++ q) octets) is in
        let both = sym all.1.0 ∙ bad (omega arith) in cc both
    by_group (suc (suc zero)) (Ok o) is bad ok later =
        let all = group_characters a b c d o (IsOctets-front (a ∷ b ∷ c ∷ d ∷ []) (rest ++ q) octets) is in
        let both = sym all.1.1.0 ∙ bad (omega arith) in cc both
    by_group (suc (suc (suc zero))) (Ok o) is bad ok later =
        let all = group_characters a b c d o (IsOctets-front (a ∷ b ∷ c ∷ d ∷ []) (rest ++ q) octets) is in
        let both = sym all.1.1.1.0 ∙ bad (omega arith) in cc both
    by_group (suc (suc (suc (suc k)))) (Ok o) is bad ok later =
        let more : IsOctets (a ∷ b ∷ c ∷ d ∷ take k (rest ++ q)) = IsOctets-take (suc (suc (suc (suc k)))) (a ∷ b ∷ c ∷ d ∷ (rest ++ q)) octets in
        let parts = parts_of_meaning (a ∷ b ∷ c ∷ d ∷ []) (take k (rest ++ q)) w more refl ok in
        let both : Ok o ≡ Ok (take 3 w) = sym is ∙ parts.0 in
        let same : o ≡ take 3 w = cc both in
        let b = later k (λ l. bad (omega arith)) parts.1 in
        record {
          rest = b.rest;
          continues = sym (take-append-drop 3 w) ∙ ap (λ l. take 3 w ++ l) b.continues ∙ ap (λ l. l ++ (octets_of_groups rest ++ b.rest)) (sym same)
              ∙ sym (append_assoc o (octets_of_groups rest) b.rest);
        }

pub decoding_grows : Grows decoding
decoding_grows = record {
  more = groups_go_on;
  whole = λ p q w octets ok.
      let c = cut_at (p ++ q) in
      begins_cut p q w c.0 octets c.2 (ap decoded (sym c.1) ∙ ok);
}

-- ---- the fixed part is the longest possible

-- A group of four characters that decodes means three octets.
three_of_four : (a b c d : ℕ) (o : List ℕ) → IsOctets (a ∷ b ∷ c ∷ d ∷ []) → decoded (a ∷ b ∷ c ∷ d ∷ []) ≡ Ok o → length o ≡ 3
three_of_four a b c d o octets ok =
    let text = text_of_meaning (a ∷ b ∷ c ∷ d ∷ []) o octets ok in
    omega (arith, ap length text, length-base64url o)

-- If the text of whole groups begins fewer than four characters, there are no groups.
none_in_few : (text y : List ℕ) → length text < 4 → length y % 3 ≡ 0 → Begins (base64url y) text → length y ≡ 0
none_in_few text y few groups b = omega (arith, few, groups, ap length b.continues, length-append (base64url y) b.rest, length-base64url y)

-- If the text of whole groups begins a text, there are no groups, or the first group and those of the rest.
first_group : (a b c d : ℕ) (rest y : List ℕ) → 0 < length y → length y % 3 ≡ 0 → Begins (base64url y) (a ∷ b ∷ c ∷ d ∷ rest)
    → ((a ∷ b ∷ c ∷ d ∷ []) ≡ base64url (take 3 y)) × Begins (base64url (drop 3 y)) rest
first_group a b c d rest y some groups begins =
    let front : length (take 3 y) ≡ 3 = length-take-le 3 y (omega (arith, some, groups)) in
    let cut : base64url y ≡ base64url (take 3 y) ++ base64url (drop 3 y) =
    ap base64url (sym (take-append-drop 3 y)) ∙ base64url-append (take 3 y) (drop 3 y) (omega (arith, front)) in
    let all : (a ∷ b ∷ c ∷ d ∷ []) ++ rest ≡ base64url (take 3 y) ++ (base64url (drop 3 y) ++ begins.rest) =
    begins.continues ∙ ap (λ t. t ++ begins.rest) cut ∙ append_assoc (base64url (take 3 y)) (base64url (drop 3 y)) begins.rest in
    let same = same_front (a ∷ b ∷ c ∷ d ∷ []) rest (base64url (take 3 y)) (base64url (drop 3 y) ++ begins.rest) all
    (omega (arith, front, length-base64url (take 3 y))) in
    (same.0, record { rest = begins.rest; continues = same.1 })

no_text : base64url [] ≡ []
unfolding base64url
no_text = encode_of-nil url_safe_no_pad

few_fix : (text : List ℕ) → length text < 4 → IsLongestDecoded text []
few_fix text few = record {
  octets = IsOctets-nil;
  groups = refl;
  begins = record { rest = text; continues = ap (λ t. t ++ text) (sym no_text) };
  longest = λ y octets groups b. omega (arith, none_in_few text y few groups b);
}

longer : (a b c d : ℕ) (rest x : List ℕ) (r : Result (List ℕ) Refusal) → decoded (a ∷ b ∷ c ∷ d ∷ []) ≡ r → IsOctets (a ∷ b ∷ c ∷ d ∷ rest)
    → IsLongestDecoded rest x → IsLongestDecoded (a ∷ b ∷ c ∷ d ∷ rest) (and_octets r x)
longer a b c d rest x (Ok o) is octets later =
    let group : IsOctets (a ∷ b ∷ c ∷ d ∷ []) = IsOctets-front (a ∷ b ∷ c ∷ d ∷ []) rest octets in
    let text : (a ∷ b ∷ c ∷ d ∷ []) ≡ base64url o = text_of_meaning (a ∷ b ∷ c ∷ d ∷ []) o group is in
    let three : length o ≡ 3 = three_of_four a b c d o group is in
    record {
      octets = IsOctets-append o x (octets_of_meaning (a ∷ b ∷ c ∷ d ∷ []) o group is) later.octets;
      groups = omega (arith, three, later.groups, length-append o x);
      begins = record {
        rest = later.begins.rest;
        continues = ap (λ t. (a ∷ b ∷ c ∷ d ∷ []) ++ t) later.begins.continues ∙ ap (λ t. t ++ (base64url x ++ later.begins.rest)) text
            ∙ sym (append_assoc (base64url o) (base64url x) later.begins.rest)
            ∙ ap (λ t. t ++ later.begins.rest) (sym (base64url-append o x (omega (arith, three))));
      };
      longest = λ y y_octets groups front. by_length y y_octets groups front (cases_lt 0 (length y)) three;
    }
  where
    by_length : (y : List ℕ) → IsOctets y → length y % 3 ≡ 0 → Begins (base64url y) (a ∷ b ∷ c ∷ d ∷ rest) → (0 < length y) ⊎ (length y ≤ 0) → length o ≡ 3
        → length y ≤ length (o ++ x)
    by_length y y_octets groups front (inl some) three =
        let first = first_group a b c d rest y some groups front in
        let back = later.longest (drop 3 y) (IsOctets-drop 3 y y_octets) (omega (arith, groups, length-drop 3 y)) first.1 in
        omega (arith, back, three, length-append o x, length-drop 3 y)
    by_length y y_octets groups front (inr none) three = omega (arith, none)
longer a b c d rest x (Err r) is octets later = record {
  octets = IsOctets-nil;
  groups = refl;
  begins = record { rest = a ∷ b ∷ c ∷ d ∷ rest; continues = ap (λ t. t ++ (a ∷ b ∷ c ∷ d ∷ rest)) (sym no_text) };
  longest = λ y y_octets groups front. by_length y y_octets groups front (cases_lt 0 (length y));
}
  where
    by_length : (y : List ℕ) → IsOctets y → length y % 3 ≡ 0 → Begins (base64url y) (a ∷ b ∷ c ∷ d ∷ rest) → (0 < length y) ⊎ (length y ≤ 0) → length y ≤ 0
    by_length y y_octets groups front (inl some) =
        let first = first_group a b c d rest y some groups front in
        let meaning : decoded (a ∷ b ∷ c ∷ d ∷ []) ≡ Ok (take 3 y) = ap decoded first.0 ∙ meaning_of_text (take 3 y) (IsOctets-take 3 y y_octets) in
        let both = sym is ∙ meaning in
        cc both
    by_length y y_octets groups front (inr none) = none

pub fixes_longest : FixesLongest
unfolding octets_of_groups
fixes_longest [] octets = few_fix [] (omega arith)
fixes_longest (a ∷ []) octets = few_fix (a ∷ []) (omega arith)
fixes_longest (a ∷ b ∷ []) octets = few_fix (a ∷ b ∷ []) (omega arith)
fixes_longest (a ∷ b ∷ c ∷ []) octets = few_fix (a ∷ b ∷ c ∷ []) (omega arith)
fixes_longest (a ∷ b ∷ c ∷ d ∷ rest) octets =
    longer a b c d rest (octets_of_groups rest) (decoded (a ∷ b ∷ c ∷ d ∷ [])) refl octets (fixes_longest rest (λ k. octets (suc (suc (suc (suc k))))))

-- ---- a content that is written as it is

pub as_it_is_grows : Grows as_it_is
as_it_is_grows = record {
  more = λ p q. record { rest = q; continues = refl };
  whole = λ p q w octets e. record { rest = q; continues = cc e };
}

-- ---- a content that is written after everything was read

-- An output to which nothing is written before the end keeps up.
pub kept_up_by_none : (fixed : List ℕ → List ℕ) → ((q : List ℕ) → fixed q ≡ []) → (read old : List ℕ) → KeepsUp fixed read old old
kept_up_by_none fixed none read old = omega (arith, ap length (none (take (length read - most_behind) read)))
