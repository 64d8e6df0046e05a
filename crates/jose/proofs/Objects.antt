-- What is written of an object that was read, and the content that is read or written next to it.
use Rattle.std.proofs.Common.{◌≡◌, ℕ, List, [], Bool, true, false, not, ◌&&◌, ◌||◌, cond, IsTrue, Option, Some, None, Result, Ok, Err, refl, ap, ◌∙◌}
use Rattle.std.specs.Result.{result_unwrap_or}
use Rattle.octets.specs.declared.refusal.Refusal.{Refusal}
use Rattle.octets.specs.Devices.{Observed}
use Rattle.octets.specs.Plan.{OutputTexts, nothing, plan_from, planned, begun, by_text, without_content, drawn_of}
use Rattle.objects.specs.Texts.{handed_in}
use Rattle.jose.specs.Code.Steps.{formed}
use Rattle.jose.specs.Meanings.{of_object}
use Rattle.octets.proofs.Lemmas.{plan_from-without_random}

-- ---- the content next to an object

-- A content that is handed in was read to its end.
pub beside_ended : (given ended : Bool) → (IsTrue given → IsTrue ended) → (not given || ended) ≡ true
beside_ended true ended read = read refl
beside_ended false ended read = refl

-- ---- what is written of an object

-- A plan that draws nothing is the same for every random input.
-- The draft of a text alone has the answer of this text.
planned_by_text : {W : Type 0} (a : Result W Refusal) (random : List ℕ) → planned (plan_from (by_text a) random) [] ≡ a
planned_by_text (Ok texts) random = ap (λ plan. planned plan []) (plan_from-without_random (without_content texts) random)
planned_by_text (Err r) random = refl

-- The draft of an object has the answer for the content that is handed in, if there is one.
pub planned_of_object : (given : Bool) (answer : Option (List ℕ) → Result OutputTexts Refusal) (random content : List ℕ)
    → planned (plan_from (of_object given answer) random) (cond given content []) ≡ answer (handed_in given content)
planned_of_object true answer random content =
    ap (λ plan. planned plan content) (plan_from-without_random (record { whole = λ whole. answer (Some whole); fixed = λ front. nothing }) random)
planned_of_object false answer random content = planned_by_text (answer None) random

formed_unread : (a : Result OutputTexts Refusal) → nothing ≡ formed a false
formed_unread (Ok texts) = refl
formed_unread (Err r) = refl

formed_by_content : (a : Result OutputTexts Refusal) (ended : Bool) → cond ended (result_unwrap_or a nothing) nothing ≡ formed a ended
formed_by_content a false = formed_unread a
formed_by_content (Ok texts) true = refl
formed_by_content (Err r) true = refl

formed_by_text : (a : Result OutputTexts Refusal) (random : List ℕ)
    → begun (plan_from (by_text a) random) (record { octets = []; ended = true }) ≡ formed a true
formed_by_text (Ok texts) random = ap (λ plan. begun plan (record { octets = []; ended = true })) (plan_from-without_random (without_content texts) random)
formed_by_text (Err r) random = refl

-- All of the answer may be written, but nothing before the other inputs and a content that is handed in were read.
pub begun_of_object : (given others : Bool) (answer : Option (List ℕ) → Result OutputTexts Refusal) (random : List ℕ) (content : Observed)
    → cond others (begun (plan_from (of_object given answer) random) (cond given content (record { octets = []; ended = true }))) nothing
    ≡ formed (answer (handed_in given content.octets)) (others && (not given || content.ended))
begun_of_object given false answer random content = formed_unread (answer (handed_in given content.octets))
begun_of_object true true answer random content =
    ap (λ plan. begun plan content) (plan_from-without_random (record { whole = λ whole. answer (Some whole); fixed = λ front. nothing }) random)
    ∙ formed_by_content (answer (Some content.octets)) content.ended
begun_of_object false true answer random content = formed_by_text (answer None) random

drawn_by_text : {W : Type 0} (a : Result W Refusal) → drawn_of (by_text a) ≡ 0
drawn_by_text (Ok texts) = refl
drawn_by_text (Err r) = refl

-- No random octets are drawn for an object.
pub drawn_of_object : (given : Bool) (answer : Option (List ℕ) → Result OutputTexts Refusal) → drawn_of (of_object given answer) ≡ 0
drawn_of_object true answer = refl
drawn_of_object false answer = drawn_by_text (answer None)

-- If the text and the keys alone are refused, no content is handed in.
pub refused_alone : (given : Bool) (answer : Option (List ℕ) → Result OutputTexts Refusal) (refusal : Refusal)
    → of_object given answer ≡ Err refusal → given ≡ false
refused_alone true answer refusal is = cc is
refused_alone false answer refusal is = refl
