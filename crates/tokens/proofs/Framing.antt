-- Writing a content inside the texts of a frame or next to them, and then the values that follow it.
use Rattle.std.proofs.Common.{◌≡◌, ℕ, Bool, true, false, List, [], ◌∷◌, ◌++◌, Result, Ok, Err, IsTrue, refl, sym, ap, ◌∙◌, subst, append_assoc, append-nil}
use Rattle.std.specs.Result.{result_unwrap_or}
use Rattle.octets.specs.declared.refusal.Refusal.{Refusal}
use Rattle.octets.specs.Devices.{appended, IsPossibleInput, AppendsPrefixOf}
use Rattle.octets.specs.Octets.{IsOctets}
use Rattle.octets.specs.Outcomes.{◌>>=◌}
use Rattle.octets.specs.Plan.{OutputTexts, Plan, Begins, beginning_of}
use Rattle.octets.specs.Code.Streams.{behind, Extends}
use Rattle.octets.proofs.Lemmas.{steps, same_answer, appended-append, both_written, AppendsPrefixOf-Begins}
use Rattle.objects.specs.Code.Frames.{filled}
use Rattle.tokens.specs.Code.Framing.{IsFraming}
use Rattle.tokens.proofs.Beginnings.{AppendsPrefixOf-behind}

-- If an input was read to its end, the octets read are the payload.
pub all_read : (p payload : List ℕ) (ended : Bool) → IsPossibleInput (record { octets = p; ended = ended }) payload → IsTrue ended → payload ≡ p
all_read p payload ended may at_end = may.continues ∙ ap (λ rest. p ++ rest) (may.ends at_end) ∙ append-nil p

-- ---- the content is whole

-- All of the content was written, after a text.
pub record IsWhole (before : List ℕ) (content : Plan (List ℕ)) (p old out : List ℕ) : Type 0 where
  pub text : List ℕ
  pub is : content.whole p ≡ Ok text
  pub written : out ≡ old ++ (before ++ text)

pub is_whole : (before : List ℕ) (content : Plan (List ℕ)) (p old out : List ℕ) → (behind before content).whole p ≡ Ok (appended old out) → Extends old out
    → IsWhole before content p old out
is_whole before content p old out whole extends =
    let made = steps (content.whole p) (λ text. Ok (before ++ text)) (appended old out) whole in
    record {
      text = made.0;
      is = made.1;
      written = extends ∙ ap (λ l. old ++ l) (sym (same_answer (before ++ made.0) (appended old out) made.2));
    }

-- If everything was read, all that the plan returns may be written.
stands_whole : (plan : Plan OutputTexts) (p : List ℕ) (ended : Bool) (texts : OutputTexts) → IsTrue ended → plan.whole p ≡ Ok texts
    → beginning_of plan (record { octets = p; ended = ended }) ≡ texts
stands_whole plan p ended texts at_end is =
    ap (λ b. beginning_of plan (record { octets = p; ended = b })) at_end ∙ ap (λ a. result_unwrap_or a (plan.fixed p)) is

module _ (content : Plan (List ℕ)) (values : List ℕ → List (List ℕ)) (plan : Plan OutputTexts) where
  -- ---- inside the texts

  module _ (first : List ℕ) (rest : List (List ℕ)) (f : IsFraming false (first ∷ rest) content values plan) where
    by_answer : (p : List ℕ) (a : Result (List ℕ) Refusal) → IsOctets p → content.whole p ≡ a
        → Begins (result_unwrap_or (a >>= λ text. Ok (first ++ text)) (first ++ content.fixed p)) (result_unwrap_or (plan.whole p) (plan.fixed p)).text
    by_answer p (Ok text) octets h = record {
      rest = filled rest (values p);
      continues = ap (λ r. (result_unwrap_or r (plan.fixed p)).text) (f.whole p text octets h) ∙ sym (append_assoc first text (filled rest (values p)));
    }
    by_answer p (Err e) octets h = record {
      rest = [];
      continues = ap (λ r. (result_unwrap_or r (plan.fixed p)).text) (f.refused p e h) ∙ ap (λ (t : OutputTexts). t.text) (f.fixed p) ∙ sym (append-nil _);
    }

    inside_begins : (p : List ℕ) (ended : Bool) → IsOctets p
        → Begins (beginning_of (behind first content) (record { octets = p; ended = ended })) (beginning_of plan (record { octets = p; ended = ended })).text
    inside_begins p false octets = record { rest = []; continues = ap (λ (t : OutputTexts). t.text) (f.fixed p) ∙ sym (append-nil _) }
    inside_begins p true octets = by_answer p (content.whole p) octets refl

    -- If the first text and the content's text are written in part, the text of the plan is written in part.
    pub inside_part : (p : List ℕ) (ended : Bool) (old new : List ℕ) → IsOctets p
        → AppendsPrefixOf (beginning_of (behind first content) (record { octets = p; ended = ended })) old new
        → AppendsPrefixOf (beginning_of plan (record { octets = p; ended = ended })).text old new
    inside_part p ended old new octets part = AppendsPrefixOf-Begins _ _ old new (inside_begins p ended octets) part

    -- The part of the text that is fixed is the first text and the fixed part of the content's text.
    pub inside_fixed : (q : List ℕ) → (plan.fixed q).text ≡ (behind first content).fixed q
    inside_fixed q = ap (λ (t : OutputTexts). t.text) (f.fixed q)

    module _ (p old out : List ℕ) (ended : Bool) (octets : IsOctets p) (at_end : IsTrue ended) (w : IsWhole first content p old out) where
      so_far : (value : List ℕ) → out ++ value ≡ old ++ (first ++ (w.text ++ value))
      so_far value = ap (λ l. l ++ value) w.written ∙ append_assoc old (first ++ w.text) value ∙ ap (λ l. old ++ l) (append_assoc first w.text value)

      -- If the values are written in part, the text of the plan is written in part.
      pub inside_values_part : (new : List ℕ) → AppendsPrefixOf (filled rest (values p)) out new
          → AppendsPrefixOf (beginning_of plan (record { octets = p; ended = ended })).text old new
      inside_values_part new part =
          let is = stands_whole plan p ended _ at_end (f.whole p w.text octets w.is) in
          subst (λ t. AppendsPrefixOf t old new) (append_assoc first w.text (filled rest (values p)) ∙ sym (ap (λ (t : OutputTexts). t.text) is))
          (AppendsPrefixOf-behind (first ++ w.text) (filled rest (values p)) old new
          (subst (λ l. AppendsPrefixOf (filled rest (values p)) l new) w.written part))

      -- If everything is written, the plan returns exactly the text that was written.
      pub inside_answer : (payload new : List ℕ) → IsPossibleInput (record { octets = p; ended = ended }) payload → new ≡ out ++ filled rest (values p)
          → plan.whole payload ≡ Ok (record { text = appended old new; content = [] })
      inside_answer payload new may e =
          ap plan.whole (all_read p payload ended may at_end) ∙ f.whole p w.text octets w.is
          ∙ ap (λ t. Ok (record { text = t; content = [] })) (sym (ap (appended old) (e ∙ so_far (filled rest (values p))) ∙ appended-append old _))

  -- ---- next to the texts

  module _ (texts : List (List ℕ)) (f : IsFraming true texts content values plan) where
    beside_by_answer : (p : List ℕ) (a : Result (List ℕ) Refusal) → IsOctets p → content.whole p ≡ a
        → result_unwrap_or a (content.fixed p) ≡ (result_unwrap_or (plan.whole p) (plan.fixed p)).content
    beside_by_answer p (Ok text) octets h = sym (ap (λ r. (result_unwrap_or r (plan.fixed p)).content) (f.whole p text octets h))
    beside_by_answer p (Err e) octets h = sym (ap (λ r. (result_unwrap_or r (plan.fixed p)).content) (f.refused p e h)
        ∙ ap (λ (t : OutputTexts). t.content) (f.fixed p))

    -- The part of the content that may be written is the part that the plan allows on the output of the content.
    pub beside_is : (p : List ℕ) (ended : Bool) → IsOctets p
        → beginning_of content (record { octets = p; ended = ended }) ≡ (beginning_of plan (record { octets = p; ended = ended })).content
    beside_is p false octets = sym (ap (λ (t : OutputTexts). t.content) (f.fixed p))
    beside_is p true octets = beside_by_answer p (content.whole p) octets refl

    pub beside_fixed : (q : List ℕ) → ((plan.fixed q).text ≡ []) × ((plan.fixed q).content ≡ content.fixed q)
    beside_fixed q = (ap (λ (t : OutputTexts). t.text) (f.fixed q), ap (λ (t : OutputTexts). t.content) (f.fixed q))

    module _ (p old out : List ℕ) (ended : Bool) (octets : IsOctets p) (at_end : IsTrue ended) (w : IsWhole [] content p old out) where
      -- The plan accepts what was read.
      pub beside_whole : plan.whole p ≡ Ok (record { text = filled texts (values p); content = w.text })
      beside_whole = f.whole p w.text octets w.is

      -- All of the content that may be written was written.
      pub beside_stands : out ≡ old ++ (beginning_of plan (record { octets = p; ended = ended })).content
      beside_stands = w.written ∙ ap (λ (t : OutputTexts). old ++ t.content) (sym (stands_whole plan p ended _ at_end beside_whole))

      -- The filled texts are the text that may be written.
      pub text_is : filled texts (values p) ≡ (beginning_of plan (record { octets = p; ended = ended })).text
      text_is = ap (λ (t : OutputTexts). t.text) (sym (stands_whole plan p ended _ at_end beside_whole))

      -- If everything is written, the plan returns exactly what was written on both outputs.
      pub beside_answer : (payload old_text new : List ℕ) → IsPossibleInput (record { octets = p; ended = ended }) payload
          → new ≡ old_text ++ filled texts (values p)
          → plan.whole payload ≡ Ok (record { text = appended old_text new; content = appended old out })
      beside_answer payload old_text new may e =
          ap plan.whole (all_read p payload ended may at_end) ∙ beside_whole ∙ ap Ok (both_written _ old_text new old out e w.written)
