-- Base64url texts of octets that come in pieces.
use Rattle.std.proofs.Common.{◌≡◌, ℕ, ◌+◌, ◌*◌, ◌/◌, ◌%◌, ◌<◌, List, [], ◌++◌, length, take, drop, refl, sym, ◌∙◌, ap, arith, append_assoc, append-nil, length-append}
use Rattle.std.proofs.Math.Seq.{take-append-add, drop-append-add}
use Rattle.std.proofs.lemmas.List.{length-take-le, take-append-drop, take-take}
use Rattle.std.proofs.lemmas.Grind.{common_steps}
use Rattle.base64.specs.Engines.{url_safe_no_pad}
use Rattle.base64.proofs.EngineFacts.{encode_of-append, encode_of-nil}
use Rattle.base64.proofs.RoundTrip.{length-encode_symbols}
use Rattle.base64.specs.Rfc4648.{encode_symbols}
use Rattle.base64.specs.GeneralPurpose.{engine_symbols}
use Rattle.octets.specs.Base64url.{base64url, whole_groups}
use Rattle.octets.specs.Code.Streams.{part_group}

pub base64url-append : (a b : List ℕ) → length a % 3 ≡ 0 → base64url (a ++ b) ≡ base64url a ++ base64url b
unfolding base64url
base64url-append a b h = encode_of-append url_safe_no_pad a b h

pub length-whole_groups : (p : List ℕ) → length (whole_groups p) ≡ length p / 3 * 3
unfolding whole_groups
length-whole_groups p = length-take-le (length p / 3 * 3) p (omega arith)

pub length-part_group : (p : List ℕ) → length (part_group p) < 3
unfolding part_group
length-part_group p = grind (arith, common_steps)

pub whole-part : (p : List ℕ) → whole_groups p ++ part_group p ≡ p
unfolding whole_groups part_group
whole-part p = take-append-drop (length p / 3 * 3) p

rounds : (m n : ℕ) → m % 3 ≡ 0 → (m + n) / 3 * 3 ≡ m + n / 3 * 3
rounds m n h = omega arith

pub whole_groups-append : (w r : List ℕ) → length w % 3 ≡ 0 → whole_groups (w ++ r) ≡ w ++ whole_groups r
unfolding whole_groups
whole_groups-append w r h =
    ap (λ n. take n (w ++ r)) (ap (λ n. n / 3 * 3) (length-append w r) ∙ rounds (length w) (length r) h) ∙ take-append-add w r (length r / 3 * 3)

pub part_group-append : (w r : List ℕ) → length w % 3 ≡ 0 → part_group (w ++ r) ≡ part_group r
unfolding part_group
part_group-append w r h =
    ap (λ n. drop n (w ++ r)) (ap (λ n. n / 3 * 3) (length-append w r) ∙ rounds (length w) (length r) h) ∙ drop-append-add w r (length r / 3 * 3)

is_whole : (p : List ℕ) → length (whole_groups p) % 3 ≡ 0
is_whole p = omega (arith, length-whole_groups p)

regrouped : (p q : List ℕ) → p ++ q ≡ whole_groups p ++ (part_group p ++ q)
regrouped p q = ap (λ x. x ++ q) (sym (whole-part p)) ∙ append_assoc (whole_groups p) (part_group p) q

-- If q comes after p, the text of the whole groups is continued by the text of the groups that q completes.
pub base64url_whole-append : (p q : List ℕ) → base64url (whole_groups (p ++ q)) ≡ base64url (whole_groups p) ++ base64url (whole_groups (part_group p ++ q))
base64url_whole-append p q =
    ap (λ x. base64url (whole_groups x)) (regrouped p q) ∙ ap base64url (whole_groups-append (whole_groups p) (part_group p ++ q) (is_whole p))
    ∙ base64url-append (whole_groups p) (whole_groups (part_group p ++ q)) (is_whole p)

pub part-append : (p q : List ℕ) → part_group (p ++ q) ≡ part_group (part_group p ++ q)
part-append p q = ap part_group (regrouped p q) ∙ part_group-append (whole_groups p) (part_group p ++ q) (is_whole p)

-- The text is the text of the whole groups and that of the rest.
pub base64url_whole_part : (p : List ℕ) → base64url p ≡ base64url (whole_groups p) ++ base64url (part_group p)
base64url_whole_part p = ap base64url (sym (whole-part p)) ∙ base64url-append (whole_groups p) (part_group p) (is_whole p)

pub length-base64url : (p : List ℕ) → length (base64url p) ≡ (4 * length p + 2) / 3
unfolding base64url
length-base64url p =
    ap length (append-nil (encode_symbols (engine_symbols url_safe_no_pad) p)) ∙ length-encode_symbols (engine_symbols url_safe_no_pad) p

-- The groups at the front of the cells are the whole groups of the octets in them.
pub whole_front : (cells octets : List ℕ) (all : ℕ) → take all cells ≡ octets → length octets ≡ all → take (all / 3 * 3) cells ≡ whole_groups octets
unfolding whole_groups
whole_front cells octets all e len =
    sym (take-take (all / 3 * 3) all cells (omega arith)) ∙ ap (take (all / 3 * 3)) e ∙ ap (λ n. take (n / 3 * 3) octets) (sym len)

pub part_front : (cells octets : List ℕ) (all : ℕ) → take all cells ≡ octets → length octets ≡ all → drop (all / 3 * 3) (take all cells) ≡ part_group octets
unfolding part_group
part_front cells octets all e len = ap (drop (all / 3 * 3)) e ∙ ap (λ n. drop (n / 3 * 3) octets) (sym len)

pub part_group-nil : part_group [] ≡ []
unfolding part_group
part_group-nil = refl

pub base64url-nil : base64url (whole_groups []) ≡ []
unfolding base64url whole_groups
base64url-nil = encode_of-nil url_safe_no_pad
