-- A text that is decoded while it is read.
use Rattle.std.proofs.Common.{◌≡◌, ℕ, suc, ◌+◌, ◌-◌, ◌*◌, ◌/◌, ◌%◌, ◌==◌, ◌≤◌, Bool, true, false, cond, List, [], ◌∷◌, ◌++◌, length, take, drop, slice_index, Result, Ok, Err, inl, inr, refl, sym, ◌∙◌, ap, subst, arith, append_assoc, append-nil, length-append}
use Rattle.std.proofs.Math.Seq.{take-append-add, take-length}
use Rattle.std.proofs.lemmas.List.{take-append-le, take-append-drop, take-take, get_or-append_right, nil_from_length, length-take}
use Rattle.std.proofs.lemmas.Bool.{cases_lt}
use Rattle.std.specs.Result.{result_unwrap_or}
use Rattle.octets.specs.declared.refusal.Refusal.{Refusal}
use Rattle.octets.specs.declared.refusal.Refusal.TheVariants.{Base64}
use Rattle.octets.specs.Octets.{IsOctets}
use Rattle.octets.specs.Base64url.{decoded}
use Rattle.octets.specs.Code.Streams.{settled, unsettled, settling, RefusesFrom}
use Rattle.octets.proofs.Decoded.{IsOctets-take, IsOctets-front, decoded-nil, meaning_of_parts, parts_of_meaning}
use Rattle.octets.proofs.Settling.{settled-unsettled, length-settled, length-unsettled, are_groups, decoded_settled-append, no_settled-append, settled-append, unsettled-nil}
use Rattle.octets.proofs.Growing.{groups_go_on, decoding_grows}
use Rattle.octets.proofs.Meanings.{decodes_exactly}
use Rattle.octets.specs.LineEnds.{without_line_end}
use Rattle.octets.specs.Encoding.{and_octets, octets_of_groups, decoding}
use Rattle.octets.specs.Plan.{Begins, Grows, beginning_of}

-- ---- line ends

-- At most two characters are removed as a line end.
pub cut : (text : List ℕ) → (n : ℕ) × (without_line_end text ≡ take n text) × (length text ≤ n + 2)
unfolding without_line_end
cut text = by_tests (slice_index text (length text - 1) == 10) (slice_index text (length text - 2) == 13)
  where
    by_tests : (b c : Bool) → (n : ℕ) × (cond b (cond c (take (length text - 2) text) (take (length text - 1) text)) text ≡ take n text) × (length text ≤ n + 2)
    by_tests true true = (length text - 2, refl, omega arith)
    by_tests true false = (length text - 1, refl, omega arith)
    by_tests false c = (length text, sym (take-length text), omega arith)

-- The settled part of a beginning is a beginning of the whole text without its line end.
pub settled_kept : (p r : List ℕ) → (more : List ℕ) × (without_line_end (p ++ r) ≡ settled p ++ more)
unfolding settled
settled_kept p r =
    let c = cut (p ++ r) in
    let n : ℕ = c.0 in
    let k : ℕ = (length p - 2) / 4 * 4 in
    let le : k ≤ n = omega (arith, c.2, length-append p r) in (
      drop k (take n (p ++ r)),
      c.1 ∙ sym (take-append-drop k (take n (p ++ r)))
          ∙ ap (λ l. l ++ drop k (take n (p ++ r))) (take-take k n (p ++ r) le ∙ take-append-le k p r (omega arith)),
    )

pub IsOctets-without_line_end : (text : List ℕ) → IsOctets text → IsOctets (without_line_end text)
IsOctets-without_line_end text h = let c = cut text in subst IsOctets (sym c.1) (IsOctets-take c.0 text h)

by_tests_kept : (b c : Bool) (g t t1 t2 u u1 u2 : List ℕ) → t ≡ g ++ u → t1 ≡ g ++ u1 → t2 ≡ g ++ u2 → cond b (cond c t2 t1) t ≡ g ++ cond b (cond c u2 u1) u
by_tests_kept true true g t t1 t2 u u1 u2 e e1 e2 = e2
by_tests_kept true false g t t1 t2 u u1 u2 e e1 e2 = e1
by_tests_kept false c g t t1 t2 u u1 u2 e e1 e2 = e

some_kept : (g h : List ℕ) → 2 ≤ length h → without_line_end (g ++ h) ≡ g ++ without_line_end h
unfolding without_line_end
some_kept g h long =
    let all = length-append g h in
    let one : length (g ++ h) - 1 ≡ length g + (length h - 1) = omega (arith, all) in
    let two : length (g ++ h) - 2 ≡ length g + (length h - 2) = omega (arith, all) in
    let last : slice_index (g ++ h) (length (g ++ h) - 1) ≡ slice_index h (length h - 1) =
    get_or-append_right g h (length g) (length (g ++ h) - 1) 0 refl (omega (arith, all)) ∙ ap (slice_index h) (omega (arith, all)) in
    let before : slice_index (g ++ h) (length (g ++ h) - 2) ≡ slice_index h (length h - 2) =
    get_or-append_right g h (length g) (length (g ++ h) - 2) 0 refl (omega (arith, all)) ∙ ap (slice_index h) (omega (arith, all)) in
    ap (λ x. cond (x == 10) (cond (slice_index (g ++ h) (length (g ++ h) - 2) == 13) (take (length (g ++ h) - 2) (g ++ h))
    (take (length (g ++ h) - 1) (g ++ h))) (g ++ h)) last
    ∙ ap (λ x. cond (slice_index h (length h - 1) == 10) (cond (x == 13) (take (length (g ++ h) - 2) (g ++ h)) (take (length (g ++ h) - 1) (g ++ h))) (g ++ h))
    before
    ∙ by_tests_kept (slice_index h (length h - 1) == 10) (slice_index h (length h - 2) == 13) g (g ++ h) (take (length (g ++ h) - 1) (g ++ h))
    (take (length (g ++ h) - 2) (g ++ h))
    h (take (length h - 1) h) (take (length h - 2) h) refl (ap (λ n. take n (g ++ h)) one ∙ take-append-add g h (length h - 1))
    (ap (λ n. take n (g ++ h)) two ∙ take-append-add g h (length h - 2))

-- The line end is in the part that is waiting.
pub waiting_kept : (p : List ℕ) → without_line_end p ≡ settled p ++ without_line_end (unsettled p)
waiting_kept p = elim (cases_lt (length (settled p)) 1) [
  | inl none ↦
      let empty : settled p ≡ [] = nil_from_length (settled p) (omega arith) in
      let same : p ≡ unsettled p = sym (settled-unsettled p) ∙ ap (λ l. l ++ unsettled p) empty in
      ap without_line_end same ∙ ap (λ l. l ++ without_line_end (unsettled p)) (sym empty)
  | inr some ↦
      ap without_line_end (sym (settled-unsettled p)) ∙ some_kept (settled p) (unsettled p) (omega (arith, some, length-settled p, length-unsettled p))
]

-- ---- the settled part decides

settled_octets : (p : List ℕ) → IsOctets p → IsOctets (settled p)
settled_octets p h = IsOctets-front (settled p) (unsettled p) (subst IsOctets (sym (settled-unsettled p)) h)

-- If the settled part does not decode, no text that continues it does.
pub refused_whole : (p r : List ℕ) → IsOctets (p ++ r) → ((z : List ℕ) → decoded (settled p) ≡ Ok z → ⊥) → decoded (without_line_end (p ++ r)) ≡ Err Base64
refused_whole p r octets none = by_answer (decoded (without_line_end (p ++ r))) refl
  where
    by_answer : (a : Result (List ℕ) Refusal) → decoded (without_line_end (p ++ r)) ≡ a → a ≡ Err Base64
    by_answer (Ok w) e =
        let k = settled_kept p r in
        let parts = parts_of_meaning (settled p) k.0 w (subst IsOctets k.1 (IsOctets-without_line_end (p ++ r) octets)) (are_groups p)
        (ap decoded (sym k.1) ∙ e) in
        absurd (none (take (length (settled p) / 4 * 3) w) parts.0)
    by_answer (Err e) is = ap Err (decodes_exactly.refusal (without_line_end (p ++ r)) e is)

-- ---- the end was found

pub last_decoded : (p x y : List ℕ) → IsOctets p → decoded (settled p) ≡ Ok x → decoded (without_line_end (unsettled p)) ≡ Ok y
    → decoded (without_line_end p) ≡ Ok (x ++ y)
last_decoded p x y octets front back =
    ap decoded (waiting_kept p) ∙ meaning_of_parts (settled p) (without_line_end (unsettled p)) x y
    (subst IsOctets (waiting_kept p) (IsOctets-without_line_end p octets))
    (are_groups p) front back

pub last_refused : (p : List ℕ) → IsOctets p → decoded (without_line_end (unsettled p)) ≡ Err Base64 → decoded (without_line_end p) ≡ Err Base64
last_refused p octets back = by_answer (decoded (without_line_end p)) refl
  where
    by_answer : (a : Result (List ℕ) Refusal) → decoded (without_line_end p) ≡ a → a ≡ Err Base64
    by_answer (Ok w) e =
        let parts = parts_of_meaning (settled p) (without_line_end (unsettled p)) w
        (subst IsOctets (waiting_kept p) (IsOctets-without_line_end p octets)) (are_groups p)
        (ap decoded (sym (waiting_kept p)) ∙ e) in
        let both = sym back ∙ parts.1 in
        cc both
    by_answer (Err e) is = ap Err (decodes_exactly.refusal (without_line_end p) e is)

-- ---- the part that may be written

-- The octets of valid groups come first.
octets_of_good : (g h x : List ℕ) → IsOctets g → length g % 4 ≡ 0 → decoded g ≡ Ok x → octets_of_groups (g ++ h) ≡ x ++ octets_of_groups h
unfolding octets_of_groups
octets_of_good [] h x octets groups ok =
    let both : Ok [] ≡ Ok x = sym decoded-nil ∙ ok in
    let same : [] ≡ x = cc both in
    ap (λ l. l ++ octets_of_groups h) same
octets_of_good (a ∷ []) h x octets groups ok = absurd (omega arith)
octets_of_good (a ∷ b ∷ []) h x octets groups ok = absurd (omega arith)
octets_of_good (a ∷ b ∷ c ∷ []) h x octets groups ok = absurd (omega arith)
octets_of_good (a ∷ b ∷ c ∷ d ∷ rest) h x octets groups ok =
    let first : List ℕ = a ∷ b ∷ c ∷ d ∷ [] in
    let parts = parts_of_meaning first rest x octets refl ok in
    ap (λ r. and_octets r (octets_of_groups (rest ++ h))) parts.0
    ∙ ap (λ l. take 3 x ++ l) (octets_of_good rest h (drop 3 x) (λ k. octets (suc (suc (suc (suc k))))) (omega arith) parts.1)
    ∙ sym (append_assoc (take 3 x) (drop 3 x) (octets_of_groups h)) ∙ ap (λ l. l ++ octets_of_groups h) (take-append-drop 3 x)

good_octets : (g x : List ℕ) → IsOctets g → length g % 4 ≡ 0 → decoded g ≡ Ok x → octets_of_groups g ≡ x
unfolding octets_of_groups
good_octets g x octets groups ok = ap octets_of_groups (sym (append-nil g)) ∙ octets_of_good g [] x octets groups ok ∙ append-nil x

-- At the start, nothing is settled and nothing is waiting.
pub reading_starts : (waiting : List ℕ) → waiting ≡ [] → (waiting ≡ unsettled []) × (decoded (settled []) ≡ Ok (octets_of_groups (settled [])))
unfolding settled octets_of_groups
reading_starts waiting none = (none ∙ sym unsettled-nil, decoded-nil)

-- The groups that a piece completes add their octets to the settled ones.
pub settled_adds : (p piece text : List ℕ) → IsOctets (p ++ piece) → decoded (settled p) ≡ Ok (octets_of_groups (settled p))
    → decoded (settled (unsettled p ++ piece)) ≡ Ok text
    → (decoded (settled (p ++ piece)) ≡ Ok (octets_of_groups (settled (p ++ piece))))
    × (octets_of_groups (settled (p ++ piece)) ≡ octets_of_groups (settled p) ++ text)
settled_adds p piece text octets front back =
    let both = decoded_settled-append p piece (octets_of_groups (settled p)) text octets front back in
    let same = good_octets (settled (p ++ piece)) (octets_of_groups (settled p) ++ text) (settled_octets (p ++ piece) octets) (are_groups (p ++ piece)) both in
    (both ∙ ap Ok (sym same), same)

-- If the groups that a piece completes do not decode, every text that continues is refused.
pub settled_refuses : (p piece : List ℕ) → decoded (settled (unsettled p ++ piece)) ≡ Err Base64 → RefusesFrom settling (p ++ piece) Base64
settled_refuses p piece none rest octets =
    refused_whole (p ++ piece) rest octets (λ z. no_settled-append p piece z (IsOctets-front (p ++ piece) rest octets) none)

-- ---- the settled part compared with the fixed part

pub settling_grows : Grows settling
settling_grows = record {
  more = λ p q. subst (λ l. Begins (octets_of_groups (settled p)) (octets_of_groups l)) (sym (settled-append p q))
      (groups_go_on (settled p) (settled (unsettled p ++ q)));
  whole = λ p q w octets e. begins_all (octets_of_groups (settled p)) (octets_of_groups p) w (settled_begins p) (decoding_grows.whole p q w octets e);
}
  where
    begins_all : (x y z : List ℕ) → Begins x y → Begins y z → Begins x z
    begins_all x y z a b = record { rest = a.rest ++ b.rest; continues = b.continues ∙ ap (λ l. l ++ b.rest) a.continues ∙ append_assoc x a.rest b.rest }

    settled_begins : (p : List ℕ) → Begins (octets_of_groups (settled p)) (octets_of_groups p)
    settled_begins p = subst (λ l. Begins (octets_of_groups (settled p)) (octets_of_groups l)) (settled-unsettled p) (groups_go_on (settled p) (unsettled p))

-- The octets that are settled begin the octets that may be written.
pub settling_begins : (p : List ℕ) (ended : Bool) → Begins (beginning_of settling (record { octets = p; ended = ended }))
    (beginning_of decoding (record { octets = p; ended = ended }))
settling_begins p false = subst (λ l. Begins (octets_of_groups (settled p)) (octets_of_groups l)) (settled-unsettled p) (groups_go_on (settled p) (unsettled p))
settling_begins p true = by_answer (decoding.whole p)
  where
    by_answer : (a : Result (List ℕ) Refusal) → Begins (result_unwrap_or a (octets_of_groups (settled p))) (result_unwrap_or a (octets_of_groups p))
    by_answer (Ok w) = record { rest = []; continues = sym (append-nil w) }
    by_answer (Err r) = subst (λ l. Begins (octets_of_groups (settled p)) (octets_of_groups l)) (settled-unsettled p) (groups_go_on (settled p) (unsettled p))

-- The settled part has at least as many octets as the text fixes without its last 4,160 characters.
pub settling_keeps_up : (p : List ℕ) → length (octets_of_groups (take (length p - 4160) p)) ≤ length (octets_of_groups (settled p))
unfolding settled
settling_keeps_up p =
    let n : ℕ = length p - 4160 in
    let k : ℕ = (length p - 2) / 4 * 4 in
    let b = groups_go_on (take n p) (drop n (settled p)) in
    let same : take n p ++ drop n (settled p) ≡ settled p = ap (λ l. l ++ drop n (settled p)) (sym (take-take n k p (omega arith)))
    ∙ take-append-drop n (settled p) in
    omega (arith, ap length b.continues, length-append (octets_of_groups (take n p)) b.rest, ap (λ l. length (octets_of_groups l)) same)

pub short_kept : (text : List ℕ) → length (without_line_end text) ≤ length text
short_kept text = let c = cut text in omega (arith, ap length c.1, length-take c.0 text)
