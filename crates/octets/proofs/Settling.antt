-- Base64url texts that come in pieces: the part that is settled and the part that is waiting.
use Rattle.std.proofs.Common.{◌≡◌, refl, [], ℕ, ◌+◌, ◌-◌, ◌*◌, ◌/◌, ◌%◌, ◌≤◌, List, ◌++◌, length, take, drop, Ok, Err, sym, ◌∙◌, ap, subst, arith, append_assoc, length-append}
use Rattle.std.proofs.Math.Seq.{take-append-add, drop-append-add}
use Rattle.std.proofs.lemmas.List.{length-take-le, length-drop, take-append-drop, take-take}
use Rattle.octets.specs.declared.refusal.Refusal.TheVariants.{Base64}
use Rattle.octets.specs.Octets.{IsOctets}
use Rattle.octets.specs.Base64url.{decoded}
use Rattle.octets.specs.Code.Streams.{settled, unsettled}
use Rattle.octets.proofs.Decoded.{meaning_of_parts, parts_of_meaning, IsOctets-front}

-- ---- the groups at the front of cells that hold the text

pub settled_front : (cells text : List ℕ) (all k : ℕ) → take all cells ≡ text → length text ≡ all → k ≡ (all - 2) / 4 * 4 → take k cells ≡ settled text
unfolding settled
settled_front cells text all k e len is =
    sym (take-take k all cells (omega arith)) ∙ ap (take k) e ∙ ap (λ n. take n text) (is ∙ ap (λ n. (n - 2) / 4 * 4) (sym len))

pub unsettled_front : (cells text : List ℕ) (all k : ℕ) → take all cells ≡ text → length text ≡ all → k ≡ (all - 2) / 4 * 4
    → drop k (take all cells) ≡ unsettled text
unfolding unsettled
unsettled_front cells text all k e len is = ap (drop k) e ∙ ap (λ n. drop n text) (is ∙ ap (λ n. (n - 2) / 4 * 4) (sym len))

-- The waiting characters are in the cells, followed by the piece.
pub joined : (waiting cells piece view : List ℕ) (count : ℕ) → count ≤ length waiting → take count waiting ≡ view
    → take (length (take count waiting) + length piece) cells ≡ take count waiting ++ piece
    → (take (count + length piece) cells ≡ view ++ piece) × (length (view ++ piece) ≡ count + length piece)
joined waiting cells piece view count fits seen e =
    let held : length (take count waiting) ≡ count = length-take-le count waiting fits in (
      ap (λ n. take (n + length piece) cells) (sym held) ∙ e ∙ ap (λ x. x ++ piece) seen,
      length-append view piece ∙ ap (λ n. n + length piece) (ap length (sym seen) ∙ held),
    )

-- ---- a piece after a text

pub settled-unsettled : (text : List ℕ) → settled text ++ unsettled text ≡ text
unfolding settled unsettled
settled-unsettled text = take-append-drop ((length text - 2) / 4 * 4) text

pub length-settled : (text : List ℕ) → length (settled text) ≡ (length text - 2) / 4 * 4
unfolding settled
length-settled text = length-take-le ((length text - 2) / 4 * 4) text (omega arith)

pub length-unsettled : (text : List ℕ) → length (unsettled text) ≡ length text - (length text - 2) / 4 * 4
unfolding unsettled
length-unsettled text = length-drop ((length text - 2) / 4 * 4) text

regrouped : (p q : List ℕ) → p ++ q ≡ settled p ++ (unsettled p ++ q)
regrouped p q = ap (λ x. x ++ q) (sym (settled-unsettled p)) ∙ append_assoc (settled p) (unsettled p) q

places : (p q : List ℕ) → (length (p ++ q) - 2) / 4 * 4 ≡ length (settled p) + (length (unsettled p ++ q) - 2) / 4 * 4
places p q = omega (arith, length-settled p, length-unsettled p, length-append p q, length-append (unsettled p) q)

pub settled-append : (p q : List ℕ) → settled (p ++ q) ≡ settled p ++ settled (unsettled p ++ q)
unfolding settled
settled-append p q =
    ap (λ n. take n (p ++ q)) (places p q) ∙ ap (take (length (settled p) + (length (unsettled p ++ q) - 2) / 4 * 4)) (regrouped p q)
    ∙ take-append-add (settled p) (unsettled p ++ q) ((length (unsettled p ++ q) - 2) / 4 * 4)

pub unsettled-append : (p q : List ℕ) → unsettled (p ++ q) ≡ unsettled (unsettled p ++ q)
unfolding unsettled
unsettled-append p q =
    ap (λ n. drop n (p ++ q)) (places p q) ∙ ap (drop (length (settled p) + (length (unsettled p ++ q) - 2) / 4 * 4)) (regrouped p q)
    ∙ drop-append-add (settled p) (unsettled p ++ q) ((length (unsettled p ++ q) - 2) / 4 * 4)

pub are_groups : (p : List ℕ) → length (settled p) % 4 ≡ 0
are_groups p = omega (arith, length-settled p)

-- The octets of the groups that a piece completes follow the settled ones.
pub decoded_settled-append : (p q x y : List ℕ) → IsOctets (p ++ q) → decoded (settled p) ≡ Ok x → decoded (settled (unsettled p ++ q)) ≡ Ok y
    → decoded (settled (p ++ q)) ≡ Ok (x ++ y)
decoded_settled-append p q x y octets front back =
    let e = settled-append p q in
    let front_octets : IsOctets (settled (p ++ q)) = IsOctets-front (settled (p ++ q)) (unsettled (p ++ q))
    (subst IsOctets (sym (settled-unsettled (p ++ q))) octets) in
    ap decoded e ∙ meaning_of_parts (settled p) (settled (unsettled p ++ q)) x y (subst IsOctets e front_octets) (are_groups p) front back

-- If the groups that a piece completes do not decode, the settled part does not.
pub no_settled-append : (p q z : List ℕ) → IsOctets (p ++ q) → decoded (settled (unsettled p ++ q)) ≡ Err Base64 → decoded (settled (p ++ q)) ≡ Ok z → ⊥
no_settled-append p q z octets none some =
    let e = settled-append p q in
    let front_octets : IsOctets (settled (p ++ q)) = IsOctets-front (settled (p ++ q)) (unsettled (p ++ q))
    (subst IsOctets (sym (settled-unsettled (p ++ q))) octets) in
    let back = (parts_of_meaning (settled p) (settled (unsettled p ++ q)) z (subst IsOctets e front_octets) (are_groups p) (ap decoded (sym e) ∙ some)).1 in
    let both = sym none ∙ back in
    cc both

pub unsettled-nil : unsettled [] ≡ []
unfolding unsettled
unsettled-nil = refl
