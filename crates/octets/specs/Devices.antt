-- What a call does to a device. A device is seen as the octets that passed through it and the count of its failures.
use Rattle.std.specs.Prelude.{◌≡◌, ℕ, ◌+◌, ◌-◌, ◌<◌, ◌≤◌, ◌^◌, min, Bool, false, List, [], ◌++◌, length, take, drop, Option, Result, Ok, OnOk, OnErr, IfOk, IfErr, IsTrue}
use Rattle.std.specs.Iterator.{Count, IsFinite, size}
use Rattle.std.specs.Result.{result_unwrap_or}
use Rattle.octets.specs.Octets.{IsOctets}
use Rattle.octets.specs.declared.refusal.Fault.{Fault}
use Rattle.octets.specs.declared.refusal.Fault.TheVariants.{Reading, Writing}

-- ---- the counts of failures, and of the ends of an output (docs/SPECIFICATION.md "Devices")

abbrev pub greatest_count : ℕ
greatest_count = 2 ^ 64 - 1

-- the count after one more; it stays at its greatest value
abbrev pub next_count : ℕ → ℕ
next_count n = min (n + 1) greatest_count

-- an output was finished once more, and is finished now
abbrev pub IsFinishedOnce : {D : Type 0} → (D → Bool) → (D → ℕ) → D → D → Type 0
IsFinishedOnce is_finished endings old new = IsTrue (is_finished new) × (endings new ≡ next_count (endings old))

-- ---- how far it is to the end (docs/SPECIFICATION.md "Devices")

-- If there was a bound of the octets before the end or a failure, there still is one, lower by at least n.
abbrev pub ComesNearer : Count → Count → ℕ → Type 0
ComesNearer old new n = IsFinite old → IsFinite new × (size new + n ≤ size old)

-- ---- octets that passed through a device (docs/SPECIFICATION.md "Devices")

-- the part by which the list has grown
abbrev pub appended : List ℕ → List ℕ → List ℕ
appended old new = drop (length old) new

-- the list has grown by a beginning of the text
abbrev pub AppendsPrefixOf : List ℕ → List ℕ → List ℕ → Type 0
AppendsPrefixOf text old new = (length old ≤ length new) × (take (length new) (old ++ text) ≡ new)

-- ---- what a call saw of an input (docs/SPECIFICATION.md "Devices")

-- the octets that were read, and whether the end was found
pub record Observed : Type 0 where
  pub octets : List ℕ
  pub ended : Bool

abbrev pub observed : {D : Type 0} → (D → List ℕ) → (D → Bool) → D → D → Observed
observed consumed is_at_end old new =
    record { octets = appended (consumed old) (consumed new); ended = is_at_end new }

-- The whole input may be this: the octets that were seen, and more only if the end was not found.
pub record IsPossibleInput (seen : Observed) (whole : List ℕ) : Type 0 where
  pub rest : List ℕ
  pub continues : whole ≡ seen.octets ++ rest
  pub ends : IsTrue seen.ended → rest ≡ []
  pub octets : IsOctets rest

-- ---- what contracts see of a device (docs/SPECIFICATION.md "Devices")

-- the ghost members of an input that results speak of
pub record InputMembers (D : Type 0) : Type 0 where
  pub consumed : D → List ℕ
  pub is_at_end : D → Bool
  pub failures : D → ℕ

-- the ghost members of an output
pub record OutputMembers (D : Type 0) : Type 0 where
  pub written : D → List ℕ
  pub is_finished : D → Bool
  pub endings : D → ℕ
  pub failures : D → ℕ

abbrev pub input_members : {D : Type 0} → (D → List ℕ) → (D → Bool) → (D → ℕ) → InputMembers D
input_members consumed is_at_end failures = record { consumed = consumed; is_at_end = is_at_end; failures = failures }

abbrev pub output_members : {D : Type 0} → (D → List ℕ) → (D → Bool) → (D → ℕ) → (D → ℕ) → OutputMembers D
output_members written is_finished endings failures = record { written = written; is_finished = is_finished; endings = endings; failures = failures }

-- ---- what a call of a device promises (docs/SPECIFICATION.md "Devices")

-- what a read promises that found `before` in its buffer and left `after` there
pub record Reads {D : Type 0} (input : InputMembers D) (remaining : D → Count) (source : D → Option (List ℕ)) (old new : D) (before after : List ℕ)
    (result : Result ℕ Fault) : Type 0 where
  -- The octets that were read are at the front of the buffer.
  pub octets : IfOk result (λ n. (n ≤ length before) × (input.consumed new ≡ input.consumed old ++ take n after))
  -- A read without room does nothing.
  pub no_room : length before ≡ 0 → (result ≡ Ok 0) × (new ≡ old)
  -- If there is room, 0 is the end.
  pub end : result ≡ Ok 0 → 0 < length before → IsTrue (input.is_at_end new)
  -- Behind the end there is nothing to read.
  pub stays_at_end : IsTrue (input.is_at_end old) → IsTrue (input.is_at_end new) × (input.consumed new ≡ input.consumed old)
  -- A bound of the octets before the end falls with each octet.
  pub nearer : ComesNearer (remaining old) (remaining new) (result_unwrap_or result 0)
  -- All its octets are known afterwards if they were known before.
  pub same_source : source new ≡ source old
  pub works : OnOk result (input.failures new ≡ input.failures old)
  -- A failure is counted. Then nothing was read, and no end was found.
  pub fails : IfErr result (λ e. (e ≡ Reading) × (input.consumed new ≡ input.consumed old) × (input.is_at_end new ≡ input.is_at_end old)
      × (input.failures new ≡ next_count (input.failures old)))

-- what a write of these octets promises
pub record Writes {D : Type 0} (output : OutputMembers D) (old new : D) (given : List ℕ) (result : Result ℕ Fault) : Type 0 where
  -- It took octets from the front of those that were given.
  pub octets : IfOk result (λ n. (n ≤ length given) × (output.written new ≡ output.written old ++ take n given))
  -- It took at least one, if any were given.
  pub some : result ≡ Ok 0 → length given ≡ 0
  -- A write of nothing does nothing.
  pub nothing : length given ≡ 0 → (result ≡ Ok 0) × (new ≡ old)
  -- After a write, even one that failed, the output is not finished.
  pub unfinished : 0 < length given → output.is_finished new ≡ false
  pub endings : output.endings new ≡ output.endings old
  pub works : OnOk result (output.failures new ≡ output.failures old)
  -- A failure is counted. Then nothing was written.
  pub fails : IfErr result (λ e. (e ≡ Writing) × (output.written new ≡ output.written old) × (output.failures new ≡ next_count (output.failures old)))

-- what the call promises that brings all that was written to where it belongs
pub record Finishes {D : Type 0} (output : OutputMembers D) (old new : D) (result : Result (Unit {0}) Fault) : Type 0 where
  -- It writes nothing.
  pub same : output.written new ≡ output.written old
  pub works : OnOk result (output.failures new ≡ output.failures old)
  pub fails : IfErr result (λ e. (e ≡ Writing) × (output.failures new ≡ next_count (output.failures old)))
  pub finished : OnOk result (IsFinishedOnce output.is_finished output.endings old new)
  -- A failure changes nothing of what was finished.
  pub kept : OnErr result ((output.is_finished new ≡ output.is_finished old) × (output.endings new ≡ output.endings old))
