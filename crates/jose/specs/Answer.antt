-- The answer of each command to whole inputs: the octets of each output, or the first refusal.
use Rattle.std.specs.Prelude.{◌≡◌, ◌≢◌, ◌⊎◌, ◌<◌, ◌≤◌, ℕ, Bool, true, false, not, ◌&&◌, ◌||◌, IsTrue, List, [], ◌++◌, length, is_some, is_none, if◌then◌else◌, Option, Some, None, Result, Ok, Err}
use Rattle.std.specs.List.{list_any}
use Rattle.octets.specs.declared.refusal.Refusal.{Refusal}
use Rattle.octets.specs.declared.refusal.Refusal.TheVariants.{Usage, Write, Memory}
use Rattle.octets.specs.Devices.{Observed, IsFinishedOnce}
use Rattle.octets.specs.Faults.{counts, DidNotFail}
use Rattle.octets.specs.Outcomes.{AgreesUnlessExternal, is_external}
use Rattle.octets.specs.Plan.{OutputTexts, nothing, Draft, drawn_of, plan_from, planned, begun}
use Rattle.octets.specs.Pumps.{KeepsUp}
use Rattle.clap.specs.Words.{Text}
use Rattle.jose.specs.declared.words.table.Command.{Command}
use Rattle.jose.specs.declared.words.table.Role.TheVariants.{Streamed}
use Rattle.jose.specs.declared.ports.Inputs.{Inputs}
use Rattle.jose.specs.declared.ports.Outputs.{Outputs}
use Rattle.jose.specs.Invocations.{InvocationView, Settings, value_at}
use Rattle.jose.specs.Commands.{Takes, flag, required, optional, default, OptionEntry, row_of, option_at, option_with, has_option, is_json}
use Rattle.jose.specs.Ports.{InputTexts, ObservedInputs, ArePossibleInputs}
use Rattle.jose.specs.Meanings.{draft_for}

-- ---- the devices that a command has options for (docs/SPECIFICATION.md "Commands")

abbrev pub has_text_input : Command → Bool
has_text_input command = has_option "i" command || has_option "s" command

abbrev pub has_keys_input : Command → Bool
has_keys_input command = has_option "k" command

abbrev pub has_random_input : Command → Bool
has_random_input command = has_option "R" command

-- A device whose option may be absent and has no default is there only if the option has a value. Every other device is always there.
abbrev pub is_there : Takes → Option Text → Bool
is_there flag value = true
is_there required value = true
is_there optional value = is_some value
is_there (default text) value = true

abbrev pub has_device : Option OptionEntry → Settings → Bool
has_device None settings = false
has_device (Some entry) settings = is_there entry.takes (value_at entry.letter settings)

abbrev pub has_content_input : InvocationView → Bool
has_content_input invocation = has_device (option_at "I" invocation.command) invocation.options

abbrev pub has_text_output : InvocationView → Bool
has_text_output invocation = has_device (option_at "o" invocation.command) invocation.options

abbrev pub has_content_output : InvocationView → Bool
has_content_output invocation = has_device (option_at "O" invocation.command) invocation.options

-- ---- how a command treats its content (docs/SPECIFICATION.md "Commands", "What is left after a refusal")

-- A command touches no output before everything is accepted, unless it has an input that is read while an output is written.
abbrev pub holds_back : Command → Bool
holds_back command = is_none (option_with Streamed command)

-- A command needs memory if it reads JSON, which it holds whole (docs/SPECIFICATION.md "Refusals").
abbrev pub takes_memory : Command → Bool
takes_memory command = list_any (λ option. is_json option.role) (row_of command).options

-- Which of three values is that of the content: the second if there is an `-I` input, and otherwise the first, that of the text, if the
-- command writes as it reads. Any other command has no content, and the third.
abbrev pub content_of : {A : Type 0} → InvocationView → A → A → A → A
content_of invocation text content nil =
    if has_content_input invocation then content else if holds_back invocation.command then nil else text

-- ---- the answer (docs/SPECIFICATION.md "Commands" and "Refusals")

-- the draft that the settings, the text and the keys settle, or the first refusal
abbrev pub draft_of : InvocationView → List ℕ → List ℕ → Result (Draft OutputTexts) Refusal
draft_of invocation = draft_for invocation.command invocation.options

-- The octets of each output, or the first refusal. The refusal of the draft comes first, then that of too few random octets, and then that
-- of the content.
abbrev pub answer : InvocationView → InputTexts → Result OutputTexts Refusal
answer invocation inputs =
    planned (plan_from (draft_of invocation inputs.text inputs.keys) inputs.random)
    (content_of invocation inputs.text inputs.content [])

-- Whatever follows in the inputs, the run did what the answer says, unless memory or a device failed.
abbrev pub Answers : InvocationView → ObservedInputs → OutputTexts → Result (Unit {0}) Refusal → Type 0
Answers invocation seen wrote result =
    (inputs : InputTexts) → ArePossibleInputs seen inputs → AgreesUnlessExternal (answer invocation inputs) wrote result

-- exactly as many octets as the draft asks for were read from the random input (docs/SPECIFICATION.md "Commands" 2)
abbrev pub DrawsAll : InvocationView → ObservedInputs → Type 0
DrawsAll invocation seen =
    (inputs : InputTexts) → ArePossibleInputs seen inputs → length seen.random.octets ≡ drawn_of (draft_of invocation inputs.text inputs.keys)

-- at most as many octets as the draft asks for were read from the random input (docs/SPECIFICATION.md "Commands" 2)
abbrev pub DrawsNoMore : InvocationView → ObservedInputs → Type 0
DrawsNoMore invocation seen =
    (inputs : InputTexts) → ArePossibleInputs seen inputs → length seen.random.octets ≤ drawn_of (draft_of invocation inputs.text inputs.keys)

-- ---- the outputs after a refusal (docs/SPECIFICATION.md "Commands", "What is left after a refusal")

-- an input that the command has was read to its end
abbrev pub was_read : Bool → Observed → Bool
was_read true seen = seen.ended
was_read false seen = true

-- the command has a text, and the text is not the content
abbrev pub has_template : InvocationView → Bool
has_template invocation = has_text_input invocation.command && (holds_back invocation.command || has_content_input invocation)

-- The keys, if the command has them, were read to their end, and so was the text, if it is not the content. The random input needs no such
-- test: if too few of its octets were read, there is no plan.
abbrev pub others_read : InvocationView → ObservedInputs → Bool
others_read invocation seen =
    was_read (has_keys_input invocation.command) seen.keys && was_read (has_template invocation) seen.text

-- what was seen of the content, which is empty and was read to its end if the command has none
abbrev pub content_seen : InvocationView → ObservedInputs → Observed
content_seen invocation seen = content_of invocation seen.text seen.content (record { octets = []; ended = true })

-- the texts of which the outputs may hold a beginning, which are empty until the other inputs were read and accepted
abbrev pub beginning : InvocationView → ObservedInputs → OutputTexts
beginning invocation seen =
    if others_read invocation seen then begun (plan_from (draft_of invocation seen.text.octets seen.keys.octets) seen.random.octets)
    (content_seen invocation seen)
    else nothing

-- Text, a fact about the output of the text, holds unless the refusal is Write and this output itself failed. Content, a fact about the
-- output of the content, holds unless the refusal is Write: the content is written before the text, so it may be written when the output of
-- the text fails.
pub record AreSpared {D : Type 0} (failures : D → ℕ) (old new : Outputs D) (refusal : Refusal) (Text Content : Type 0) : Type 0 where
  pub text : DidNotFail refusal (counts failures old.text new.text) → Text
  pub content : refusal ≢ Write → Content

-- If a command holds back, the output of the text is untouched unless it failed itself, and that of the content unless either failed.
abbrev pub HoldsBack : {D : Type 0} → (D → ℕ) → InvocationView → Outputs D → Outputs D → Refusal → Type 0
HoldsBack failures invocation old new refusal =
    IsTrue (holds_back invocation.command) → AreSpared failures old new refusal (new.text ≡ old.text) (new.content ≡ old.content)

-- If nothing was written to the output of the text, it is untouched unless it failed itself. If nothing was written to that of the content,
-- it is untouched unless either failed.
abbrev pub AreUncut : {D : Type 0} → (D → ℕ) → (D → List ℕ) → Outputs D → Outputs D → Refusal → Type 0
AreUncut failures written old new refusal =
    AreSpared failures old new refusal (written new.text ≡ written old.text → new.text ≡ old.text)
    (written new.content ≡ written old.content → new.content ≡ old.content)

-- If a command writes as it reads, and no octet of its content was read, the output of the text is untouched unless it failed itself, and
-- that of the content unless either failed.
abbrev pub AreUnread : {D : Type 0} → (D → ℕ) → InvocationView → ObservedInputs → Outputs D → Outputs D → Refusal → Type 0
AreUnread failures invocation seen old new refusal =
    holds_back invocation.command ≡ false → (content_seen invocation seen).octets ≡ []
    → AreSpared failures old new refusal (new.text ≡ old.text) (new.content ≡ old.content)

-- the texts that this beginning of the content fixes, if the other inputs are as they were seen
abbrev pub fixed_of : InvocationView → ObservedInputs → List ℕ → OutputTexts
fixed_of invocation seen front = begun (plan_from (draft_of invocation seen.text.octets seen.keys.octets) seen.random.octets)
    (record { octets = front; ended = false })

-- If a command writes as it reads, and some of its content was read, each output has grown at least as far as the content without its last
-- 4,160 octets fixes it. `run` promises this if the content fails.
abbrev pub AreKeptUp : {D : Type 0} → (D → List ℕ) → InvocationView → ObservedInputs → Outputs D → Outputs D → Type 0
AreKeptUp written invocation seen old new =
    holds_back invocation.command ≡ false → (content_seen invocation seen).octets ≢ []
    → KeepsUp (λ front. (fixed_of invocation seen front).text) (content_seen invocation seen).octets (written old.text) (written new.text)
    × KeepsUp (λ front. (fixed_of invocation seen front).content) (content_seen invocation seen).octets (written old.content) (written new.content)

-- the answer if nothing follows what was read of the inputs
abbrev pub answer_so_far : InvocationView → ObservedInputs → Result OutputTexts Refusal
answer_so_far invocation seen =
    answer invocation (record { text = seen.text.octets; content = seen.content.octets; keys = seen.keys.octets; random = seen.random.octets })

-- Either the text is not begun and the output of the content is not finished, or, if the command has an output of the content, the content
-- was read to its end and is not refused, all that the answer has for this output was written, and the output was finished once.
abbrev pub IsContentFirst : {D : Type 0} → (D → List ℕ) → (D → Bool) → (D → ℕ) → InvocationView → ObservedInputs → Outputs D → Outputs D → Type 0
IsContentFirst written is_finished endings invocation seen old new =
    ((new.text ≡ old.text) × (endings new.content ≡ endings old.content))
    ⊎ (IsTrue (has_content_output invocation)
    → IsTrue (content_seen invocation seen).ended × IsFinishedOnce is_finished endings old.content new.content
    × ((texts : OutputTexts) × (answer_so_far invocation seen ≡ Ok texts) × (written new.content ≡ written old.content ++ texts.content)))

-- ---- the order of reading (docs/SPECIFICATION.md "Commands", "What is read first")

-- No input is touched before those ahead of it were read to their ends. The text comes first, then the keys, and then the random input and
-- the content.
pub record AreInOrder {D : Type 0} (invocation : InvocationView) (seen : ObservedInputs) (old new : Inputs D) : Type 0 where
  pub keys : was_read (has_text_input invocation.command) seen.text ≡ false → new.keys ≡ old.keys
  pub random : others_read invocation seen ≡ false → new.random ≡ old.random
  pub content : others_read invocation seen ≡ false → new.content ≡ old.content

-- A refusal other than Memory, Read, Write and Usage comes only after the text, the keys and the content were read to their ends. A content
-- that is read while its text is written is an exception.
abbrev pub ReadsFirst : InvocationView → ObservedInputs → Refusal → Type 0
ReadsFirst invocation seen refusal = is_external refusal ≡ false → refusal ≢ Usage
    → IsTrue (others_read invocation seen && (not (holds_back invocation.command) || (content_seen invocation seen).ended))

-- The content is untouched until all random octets are drawn.
abbrev pub DrawsFirst : {D : Type 0} → InvocationView → ObservedInputs → Inputs D → Inputs D → Type 0
DrawsFirst invocation seen old new =
    length seen.random.octets < drawn_of (draft_of invocation seen.text.octets seen.keys.octets) → new.content ≡ old.content

-- Only a command that needs memory is refused with Memory. If it writes as it reads, the content is still untouched then.
abbrev pub TakesMemoryFirst : {D : Type 0} → InvocationView → Inputs D → Inputs D → Refusal → Type 0
TakesMemoryFirst invocation old new refusal = refusal ≡ Memory
    → IsTrue (takes_memory invocation.command) × (holds_back invocation.command ≡ false → new.content ≡ old.content)

-- If the draft is refused, the random input and the content are untouched. With a detached content that is handed in no draft is refused:
-- its plan is.
abbrev pub RefusesFirst : {D : Type 0} → InvocationView → ObservedInputs → Inputs D → Inputs D → Type 0
RefusesFirst invocation seen old new =
    (refusal : Refusal) → draft_of invocation seen.text.octets seen.keys.octets ≡ Err refusal → (new.random ≡ old.random) × (new.content ≡ old.content)

-- ---- the end (docs/SPECIFICATION.md "Commands" 3 to 5)

-- each output that the command has was finished once
abbrev pub AreFinished : {D : Type 0} → (D → Bool) → (D → ℕ) → InvocationView → Outputs D → Outputs D → Type 0
AreFinished is_finished endings invocation old new =
    (IsTrue (has_text_output invocation) → IsFinishedOnce is_finished endings old.text new.text)
    × (IsTrue (has_content_output invocation) → IsFinishedOnce is_finished endings old.content new.content)

-- The output of the text was not finished, and neither was that of the content if the command has no output for a text.
abbrev pub AreUnfinished : {D : Type 0} → (D → ℕ) → InvocationView → Outputs D → Outputs D → Type 0
AreUnfinished endings invocation old new =
    (endings new.text ≡ endings old.text) × (has_text_output invocation ≡ false → endings new.content ≡ endings old.content)

-- the devices that the command has no option for are untouched
pub record AreUntouched {D E : Type 0} (invocation : InvocationView) (old_inputs new_inputs : Inputs D) (old_outputs new_outputs : Outputs E) : Type 0 where
  pub text : has_text_input invocation.command ≡ false → new_inputs.text ≡ old_inputs.text
  pub content : has_content_input invocation ≡ false → new_inputs.content ≡ old_inputs.content
  pub keys : has_keys_input invocation.command ≡ false → new_inputs.keys ≡ old_inputs.keys
  pub random : has_random_input invocation.command ≡ false → new_inputs.random ≡ old_inputs.random
  pub text_out : has_text_output invocation ≡ false → new_outputs.text ≡ old_outputs.text
  pub content_out : has_content_output invocation ≡ false → new_outputs.content ≡ old_outputs.content
