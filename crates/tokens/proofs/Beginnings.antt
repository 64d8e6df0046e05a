-- Lists that are beginnings of others: with a list in front, in base64url texts, in a frame, and on both outputs of a call.
use Rattle.std.proofs.Common.{◌≡◌, ◌==◌, ℕ, ◌+◌, ◌≤◌, ◌<◌, length, map, take, length-append, Bool, true, false, List, [], ◌∷◌, ◌++◌, Result, Ok, refl, sym, ap, ◌∙◌, subst, arith, append_assoc}
use Rattle.std.proofs.lemmas.Bool.{eq-eqb}
use Rattle.octets.specs.declared.refusal.Refusal.{Refusal}
use Rattle.octets.specs.Base64url.{base64url, whole_groups}
use Rattle.octets.specs.Code.Streams.{part_group}
use Rattle.octets.specs.Devices.{AppendsPrefixOf}
use Rattle.octets.specs.Octets.{IsOctets}
use Rattle.octets.specs.Plan.{OutputTexts, Plan, Begins, Grows, plan_map, BothGrow}
use Rattle.octets.proofs.Lemmas.{IsOctets-nil, first_or, base64url_whole-append, base64url_whole_part, steps, same_answer, spells_six_bits, begins_behind}
use Rattle.objects.specs.Code.Frames.{filled, in_places, first_text}
use Rattle.objects.specs.Texts.{handed_in, handed_out, common_beginning, before_content}

-- ---- lists

-- A beginning of a beginning of a list begins the list.
pub begins_all : (x y z : List ℕ) → Begins x y → Begins y z → Begins x z
begins_all x y z a b = record { rest = a.rest ++ b.rest; continues = b.continues ∙ ap (λ l. l ++ b.rest) a.continues ∙ append_assoc x a.rest b.rest }

-- The empty list begins every list.
pub empty_begins : (x : List ℕ) → Begins [] x
empty_begins x = record { rest = x; continues = refl }

-- If a beginning of a text was appended after a front that had been written, a beginning of the front and the text together was appended.
pub AppendsPrefixOf-behind : (front text old new : List ℕ) → AppendsPrefixOf text (old ++ front) new → AppendsPrefixOf (front ++ text) old new
AppendsPrefixOf-behind front text old new h =
    (omega (arith, h.0, length-append old front), ap (take (length new)) (sym (append_assoc old front text)) ∙ h.1)

-- ---- base64url texts

-- If a content begins another, so do the texts of their whole groups.
pub groups_grow : (x y : List ℕ) → Begins x y → Begins (base64url (whole_groups x)) (base64url (whole_groups y))
groups_grow x y b = record {
  rest = base64url (whole_groups (part_group x ++ b.rest));
  continues = ap (λ l. base64url (whole_groups l)) b.continues ∙ base64url_whole-append x b.rest;
}

-- If a content begins another, the text of its whole groups begins the text of the other.
pub text_grows : (x y : List ℕ) → Begins x y → Begins (base64url (whole_groups x)) (base64url y)
text_grows x y b =
    begins_all (base64url (whole_groups x)) (base64url (whole_groups y)) (base64url y) (groups_grow x y b)
    (record { rest = base64url (part_group y); continues = base64url_whole_part y })

-- ---- frames

-- If a content begins another, the first text of a frame and the text of the content's whole groups begin the frame filled with the other.
pub frame_begins : (texts : List (List ℕ)) (x content : List ℕ) (others : List (List ℕ)) → 1 ≤ length texts → Begins x content
    → Begins (first_text (Ok texts) ++ base64url (whole_groups x)) (filled texts (in_places false content others))
frame_begins [] x content others some b = absurd (omega (arith, some))
frame_begins (first ∷ rest) x content others some b =
    let text : List ℕ = base64url content in
    begins_behind first _ _ (begins_all _ text _ (text_grows x content b) (record { rest = filled rest (map base64url others); continues = refl }))

-- ---- the text before a content

-- Two texts that differ after a common front have exactly this front in common.
common_front : (front : List ℕ) (x y : ℕ) (xs ys : List ℕ) → (x == y) ≡ false → common_beginning (front ++ x ∷ xs) (front ++ y ∷ ys) ≡ front
common_front [] x y xs ys differ = rw differ refl
common_front (c ∷ front) x y xs ys differ = rw (eq-eqb c c refl) (ap (λ l. c ∷ l) (common_front front x y xs ys differ))

text_of_0 : base64url (0 ∷ []) ≡ 65 ∷ 65 ∷ []
text_of_0 = spells_six_bits (0 ∷ []) (first_or 0 [] (omega arith) IsOctets-nil)

text_of_255 : base64url (255 ∷ []) ≡ 95 ∷ 119 ∷ []
text_of_255 = spells_six_bits (255 ∷ []) (first_or 255 [] (omega arith) IsOctets-nil)

-- If every content of one octet fills a frame, the text before the content is the first text of the frame.
pub before_is : (text_of : List ℕ → Result (List ℕ) Refusal) (texts : List (List ℕ)) (others : ℕ → List (List ℕ)) (n : ℕ) → length texts ≡ 2 + n
    → ((b : ℕ) → b < 256 → text_of (b ∷ []) ≡ Ok (filled texts (in_places false (b ∷ []) (others b)))) → before_content text_of ≡ first_text (Ok texts)
before_is text_of [] others n places fills = absurd (omega (arith, places))
before_is text_of (first ∷ rest) others n places fills =
    let zero_octet : text_of (0 ∷ []) ≡ Ok (first ++ 65 ∷ 65 ∷ filled rest (map base64url (others 0))) =
    fills 0 (omega arith) ∙ ap (λ t. Ok (first ++ (t ++ filled rest (map base64url (others 0))))) text_of_0 in
    let last_octet : text_of (255 ∷ []) ≡ Ok (first ++ 95 ∷ 119 ∷ filled rest (map base64url (others 255))) =
    fills 255 (omega arith) ∙ ap (λ t. Ok (first ++ (t ++ filled rest (map base64url (others 255))))) text_of_255 in
    rw (zero_octet, last_octet) (common_front first 65 95 _ _ refl)

-- ---- both outputs

-- If a content begins another, the same is true of the contents that are written next to the text.
pub handed_out_begins : (detach : Bool) (x y : List ℕ) → Begins x y → Begins (handed_out detach x) (handed_out detach y)
handed_out_begins true x y b = b
handed_out_begins false x y b = empty_begins []

-- The content that is written next to a text is the one that is handed in with it.
pub handed_back : (detach : Bool) (content : List ℕ) → handed_in detach (handed_out detach content) ≡ handed_in detach content
handed_back true content = refl
handed_back false content = refl

-- On both outputs, one text begins the other.
pub record BothBegin (front all : OutputTexts) : Type 0 where
  pub text : Begins front.text all.text
  pub content : Begins front.content all.content

-- An output grows if its fixed part grows with the content and begins everything that is written on it.
output_grows : (plan : Plan OutputTexts) (output : OutputTexts → List ℕ) → ((p q : List ℕ) → Begins (output (plan.fixed p)) (output (plan.fixed (p ++ q))))
    → ((p q : List ℕ) (texts : OutputTexts) → IsOctets (p ++ q) → plan.whole (p ++ q) ≡ Ok texts → Begins (output (plan.fixed p)) (output texts))
    → Grows (plan_map output plan)
output_grows plan output more whole = record {
  more = more;
  whole = λ p q w octets h.
      let texts = steps (plan.whole (p ++ q)) (λ texts. Ok (output texts)) w h in
      subst (Begins (output (plan.fixed p))) (same_answer (output texts.0) w texts.2) (whole p q texts.0 octets texts.1);
}

-- Both outputs grow if this holds of both.
pub both_grow_by_beginnings : (plan : Plan OutputTexts) → ((p q : List ℕ) → BothBegin (plan.fixed p) (plan.fixed (p ++ q)))
    → ((p q : List ℕ) (texts : OutputTexts) → IsOctets (p ++ q) → plan.whole (p ++ q) ≡ Ok texts → BothBegin (plan.fixed p) texts) → BothGrow plan
both_grow_by_beginnings plan more whole = record {
  text = output_grows plan (λ texts. texts.text) (λ p q. (more p q).text) (λ p q texts octets h. (whole p q texts octets h).text);
  content = output_grows plan (λ texts. texts.content) (λ p q. (more p q).content) (λ p q texts octets h. (whole p q texts octets h).content);
}
