-- A call that reads a content in pieces and writes as it reads: a text, and perhaps the content to another output.
use Rattle.std.specs.Prelude.{◌≡◌, ◌≢◌, ◌⊎◌, ◌≤◌, ◌++◌, ℕ, List, [], length, Option, Result, Ok, Err, OnOk, OnErr, IfErr, IsTrue}
use Rattle.octets.specs.declared.refusal.Refusal.{Refusal}
use Rattle.octets.specs.declared.refusal.Refusal.TheVariants.{Read, Write, Memory}
use Rattle.octets.specs.Devices.{Observed, InputMembers, OutputMembers, appended, observed, IsPossibleInput, AppendsPrefixOf, IsFinishedOnce}
use Rattle.octets.specs.Faults.{DidNotFail, counts}
use Rattle.octets.specs.Outcomes.{AgreesUnlessExternal}
use Rattle.octets.specs.Plan.{OutputTexts, Plan, Draft, begun, planned, drawn_of}
use Rattle.octets.specs.Pumps.{KeepsUp}
use Rattle.octets.specs.Code.Lent.{Lent, IfLent, wrote_on}
use Rattle.octets.specs.Code.Streams.{fixed_by}

-- ---- what a call saw of an input

-- what was read of an input
abbrev pub read_of : {D : Type 0} → InputMembers D → D → D → List ℕ
read_of input old new = appended (input.consumed old) (input.consumed new)

-- the same, and whether its end was found
abbrev pub sight_of : {D : Type 0} → InputMembers D → D → D → Observed
sight_of input old new = observed input.consumed input.is_at_end old new

-- ---- a call that reads its content while it writes

-- What a call promises that writes the texts of a plan while it reads the content: the text to one output, and the content to another one
-- if that was lent (`content_out`).
pub record Streams {D E : Type 0} (input : InputMembers D) (output : OutputMembers E) (plan : Result (Plan OutputTexts) Refusal)
    (old new : D) (before after : E) (content_out : Option (Lent E)) (result : Result (Unit {0}) Refusal) : Type 0 where
  -- Whatever follows in the content, the outputs or the refusal are those of the plan, unless memory or a device failed.
  pub answer : (content : List ℕ) → IsPossibleInput (sight_of input old new) content → AgreesUnlessExternal (planned plan content)
      (record { text = appended (output.written before) (output.written after); content = wrote_on output.written content_out }) result
  -- After a refusal each output holds a prefix of what the octets that were read fix.
  pub beginning : OnErr result (AppendsPrefixOf (begun plan (sight_of input old new)).text (output.written before) (output.written after))
  pub beginning_of_content : OnErr result (IfLent content_out
      (λ was is. AppendsPrefixOf (begun plan (sight_of input old new)).content (output.written was) (output.written is)))
  -- On success each output was finished once. After a refusal the text was not finished.
  pub finished : OnOk result (IsFinishedOnce output.is_finished output.endings before after
      × IfLent content_out (IsFinishedOnce output.is_finished output.endings))
  pub unfinished : OnErr result (output.endings after ≡ output.endings before)
  -- If the content fails, what was written is at most `most_behind` octets behind what was read.
  pub keeps_up : result ≡ Err Read → read_of input old new ≢ []
      → KeepsUp (λ front. (fixed_by plan front).text) (read_of input old new) (output.written before) (output.written after)
      × IfLent content_out (λ was is. KeepsUp (λ front. (fixed_by plan front).content) (read_of input old new) (output.written was) (output.written is))
  -- If there is no plan, the content is not touched.
  pub content_last : (refusal : Refusal) → plan ≡ Err refusal → new ≡ old
  -- An output to which nothing was written is unchanged, unless it failed. If the refusal is Write, `content_first` says what is known of the
  -- content's output, which may have been finished without an octet.
  pub uncut : IfErr result (λ refusal.
      (DidNotFail refusal (counts output.failures before after) → output.written after ≡ output.written before → after ≡ before)
      × IfLent content_out (λ was is. refusal ≢ Write → output.written is ≡ output.written was → is ≡ was))
  -- If the content has an output of its own, the text is begun only after all of the content was written and its output was finished, once.
  -- An output that is finished before a refusal holds exactly the content of a plan that does not refuse what was read.
  pub content_first : OnErr result (IfLent content_out (λ was is. ((after ≡ before) × (output.endings is ≡ output.endings was))
      ⊎ (IsTrue (input.is_at_end new) × IsFinishedOnce output.is_finished output.endings was is
      × ((texts : OutputTexts) × (planned plan (read_of input old new) ≡ Ok texts) × (output.written is ≡ output.written was ++ texts.content)))))
  -- All memory is allocated before the content is touched.
  pub memory_first : IfErr result (λ refusal. refusal ≡ Memory → new ≡ old)
  -- If nothing of the content could be read, an output that did not fail is unchanged, with the same exception.
  pub unread : IfErr result (λ refusal. read_of input old new ≡ []
      → (DidNotFail refusal (counts output.failures before after) → after ≡ before) × IfLent content_out (λ was is. refusal ≢ Write → is ≡ was))

-- What a call promises of a random input: it draws what the draft says, no more than that before a refusal, and nothing if the draft is
-- refused. A plan needs all that is drawn. So it follows for a call that promises `Streams` for every possible random input: if it has read
-- of its content or written, it has drawn exactly as many octets as the draft says.
pub record Draws {D : Type 0} (input : InputMembers D) (draft : Result (Draft OutputTexts) Refusal) (old new : D)
    (result : Result (Unit {0}) Refusal) : Type 0 where
  pub drawn : OnOk result (length (read_of input old new) ≡ drawn_of draft)
  pub at_most : length (read_of input old new) ≤ drawn_of draft
  pub untouched : (refusal : Refusal) → draft ≡ Err refusal → new ≡ old
