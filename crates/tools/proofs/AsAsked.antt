-- Runs of jose-set and jose-look, by what their steps promise.
use Rattle.std.proofs.Common.{◌≡◌, ℕ, List, Result, Ok, Err, MatchResult, OnOk, IfErr, ◌⊎◌, refl, subst}
use Rattle.octets.specs.Devices.{AppendsPrefixOf}
use Rattle.tools.specs.declared.command_files.Found.{Found}
use Rattle.tools.specs.declared.tool_cause.ToolCause.{ToolCause}
use Rattle.tools.specs.declared.tool_cause.ToolCause.TheVariants.{Memory}
use Rattle.tools.specs.declared.words.Tool.TheVariants.{Set, Look}
use Rattle.tools.specs.Calls.{Call}
use Rattle.tools.specs.Changes.{Changes}
use Rattle.tools.specs.LookWords.{LookAsked, look_request_of}
use Rattle.tools.specs.Runs.{LooksAsAsked, LooksAt, SetsAsAsked, no_words, words_of}
use Rattle.tools.specs.SetWords.{set_request_of}
use Rattle.tools.specs.Steps.{Takes}
use Rattle.tools.specs.ToolEndings.{IsToolReported, tool_status}
use Rattle.tools.specs.ToolReports.{NamedWords, tool_line}

-- what `report_tool` promises, for equal words
pub reported : {O : Type 0} {written : O → List ℕ} {words other : NamedWords} {outcome : Result (Unit {0}) ToolCause} {status : ℕ} {before after : O}
    → words ≡ other → status ≡ tool_status outcome → OnOk outcome (after ≡ before)
    → IfErr outcome (λ cause. AppendsPrefixOf (tool_line words cause) (written before) (written after)
    ⊎ AppendsPrefixOf (tool_line words Memory) (written before) (written after))
    → IsToolReported written other outcome status before after
reported {written} {outcome} {status} {before} {after} same is quiet line =
    subst (λ named. IsToolReported written named outcome status before after) same (record { is = is; quiet = quiet; line = line })

pub sets_refused : {D O : Type 0} (made : D → List Call → Type 0) {written : O → List ℕ} (words : List (List ℕ)) (disk : D) {status : ℕ} {before after : O}
    (cause : ToolCause) → Err cause ≡ set_request_of words → IsToolReported written (no_words Set) (Err cause) status before after
    → SetsAsAsked made written words disk disk status before after
sets_refused made {written} words disk {status} {before} {after} cause is told =
    subst (λ request. MatchResult request
    (λ asked. (outcome : Result (Unit {0}) ToolCause) × (Takes made disk disk (Changes asked) outcome
    × IsToolReported written (words_of asked) outcome status before after))
    (λ cause. (disk ≡ disk) × IsToolReported written (no_words Set) (Err cause) status before after)) is (refl, told)

pub looks_refused : {D O : Type 0} (made : D → List Call → Type 0) (finds : D → List ℕ → Found → Type 0) {written : O → List ℕ} (words : List (List ℕ)) (disk : D)
    {status : ℕ} {before after : O} (cause : ToolCause) → Err cause ≡ look_request_of words
    → IsToolReported written (no_words Look) (Err cause) status before after → LooksAsAsked made finds written words disk disk status before after
looks_refused made finds {written} words disk {status} {before} {after} cause is told =
    subst (λ request. MatchResult request
    (λ asked. (outcome : Result (Unit {0}) ToolCause) × (Takes made disk disk (LooksAt (finds disk) asked) outcome
    × IsToolReported written (no_words Look) outcome status before after))
    (λ cause. (disk ≡ disk) × IsToolReported written (no_words Look) (Err cause) status before after)) is (refl, told)

pub looked : {D O : Type 0} {made : D → List Call → Type 0} (finds : D → List ℕ → Found → Type 0) {written : O → List ℕ} (words : List (List ℕ)) {old new : D}
    {status : ℕ} {before after : O} (asked : LookAsked) (outcome : Result (Unit {0}) ToolCause) → Ok asked ≡ look_request_of words
    → Takes made old new (LooksAt (finds old) asked) outcome
    → IsToolReported written (no_words Look) outcome status before after → LooksAsAsked made finds written words old new status before after
looked {made} finds {written} words {old} {new} {status} {before} {after} asked outcome is takes told =
    subst (λ request. MatchResult request
    (λ asked. (outcome : Result (Unit {0}) ToolCause) × (Takes made old new (LooksAt (finds old) asked) outcome
    × IsToolReported written (no_words Look) outcome status before after))
    (λ cause. (new ≡ old) × IsToolReported written (no_words Look) (Err cause) status before after)) is (outcome, (takes, told))
