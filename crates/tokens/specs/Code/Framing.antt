-- A content that is written as it is read, inside the texts of a frame or apart from them, and the values that follow it in the frame.
use Rattle.std.specs.Prelude.{◌≡◌, ℕ, ◌+◌, Bool, true, false, List, [], ◌∷◌, ◌++◌, length, if◌then◌else◌, Ok, Err}
use Rattle.octets.specs.declared.refusal.Refusal.{Refusal}
use Rattle.octets.specs.Octets.{IsOctets}
use Rattle.octets.specs.Plan.{OutputTexts, Plan, Grows}
use Rattle.objects.specs.Code.Frames.{filled, first_text}

-- what is written of a content and of the values that follow it
abbrev pub all_in : Bool → List (List ℕ) → List ℕ → List (List ℕ) → OutputTexts
all_in true texts content values = record { text = filled texts values; content = content }
all_in false texts content values = record { text = filled texts (content ∷ values); content = [] }

-- what this beginning of the content fixes: nothing of the text if the content is written apart from it
abbrev pub fixed_in : Bool → List (List ℕ) → List ℕ → OutputTexts
fixed_in true texts content = record { text = []; content = content }
fixed_in false texts content = record { text = first_text (Ok texts) ++ content; content = [] }

-- The plan writes the content, by the plan for contents, and its values, in the places of the texts.
pub record IsFraming (detach : Bool) (texts : List (List ℕ)) (content : Plan (List ℕ)) (values : List ℕ → List (List ℕ))
    (plan : Plan OutputTexts) : Type 0 where
  pub grows : Grows content
  pub places : (p : List ℕ) → length texts ≡ (if detach then 1 else 2) + length (values p)
  pub whole : (p text : List ℕ) → IsOctets p → content.whole p ≡ Ok text → plan.whole p ≡ Ok (all_in detach texts text (values p))
  pub refused : (p : List ℕ) (e : Refusal) → content.whole p ≡ Err e → plan.whole p ≡ Err e
  pub fixed : (q : List ℕ) → plan.fixed q ≡ fixed_in detach texts (content.fixed q)

-- The same if the transform is fed the content, and what is left of the transform has the values.
pub record FillsFrame {X R J : Type 0} (is_fed : X → J → List ℕ → Type 0) (content : J → Plan (List ℕ)) (is_left : R → J → List ℕ → Type 0)
    (gives : R → List (List ℕ) → Type 0)
    (detach : Bool) (transform : X) (texts : List (List ℕ)) (plan : Plan OutputTexts) : Type 0 where
  pub job : J
  pub values : List ℕ → List (List ℕ)
  pub fed : is_fed transform job []
  pub left : (rest : R) (p : List ℕ) → is_left rest job p → gives rest (values p)
  pub framing : IsFraming detach texts (content job) values plan
