-- Devices as clauses see them.
use Rattle.std.specs.Prelude.{◌≡◌, ℕ, ◌+◌, ◌-◌, ◌<◌, ◌==◌, get_or, min, Bool, List, length, take, drop, Option, Some, None}
use Rattle.std.specs.Iterator.{Count, at_most}
use Rattle.std.proofs.Common.{sym, ◌∙◌, ap, subst, arith}
use Rattle.std.proofs.lemmas.Bool.{eqb-true}
use Rattle.std.proofs.lemmas.List.{take-append-drop, take_all, drop_all, get_or-drop}
use Rattle.octets.specs.Octets.{IsOctets}
use Rattle.octets.specs.Devices.{IsPossibleInput}
use Rattle.octets.specs.Code.Streams.{most_octets}
use Rattle.octets.specs.declared.streams.ReaderInput.{ReaderInput}
use Rattle.octets.specs.declared.streams.WriterOutput.{WriterOutput}

-- ---- an input over memory

-- all its octets, how many of them were read, and the most octets of one read
pub record Contents : Type 0 where
  pub octets : List ℕ
  pub position : ℕ
  pub step : ℕ
  pub fronts_are_octets : (n : ℕ) → IsOctets (take n octets)

-- what was read
abbrev pub front_of : Contents → List ℕ
front_of c = take c.position c.octets

-- all was read
abbrev pub is_read : Contents → Bool
is_read c = c.position == length c.octets

-- how many octets are left
abbrev pub rest_of : Contents → Count
rest_of c = at_most (length c.octets - c.position)

-- an input over memory never fails
abbrev pub failures_of : Contents → ℕ
failures_of c = 0

-- all its octets, which are known
abbrev pub source_of : Contents → Option (List ℕ)
source_of c = Some c.octets

-- What was read is a beginning of them, and all of them at the end.
pub source_is_given : (c : Contents) (octets : List ℕ) → source_of c ≡ Some octets → IsPossibleInput (record { octets = front_of c; ended = is_read c }) octets
source_is_given c octets is =
    let all : c.octets ≡ octets = cc is in
    let rest = drop c.position c.octets in
    record {
      rest = rest;
      continues = sym all ∙ sym (take-append-drop c.position c.octets);
      ends = λ end. drop_all c.position c.octets (omega (arith, eqb-true c.position (length c.octets) end));
      octets = λ i. subst (λ n. n < 256) (ap (λ xs. get_or xs (c.position + i) 0) (take_all (length c.octets) c.octets (omega arith))
          ∙ sym (get_or-drop c.position c.octets i 0)) (c.fronts_are_octets (length c.octets) (c.position + i));
    }

-- after n more octets were read
abbrev pub moved_by : ℕ → Contents → Contents
moved_by n c = record c { position = c.position + n }

-- the number of octets of a read into this much room
abbrev pub read_count : Contents → ℕ → ℕ
read_count c room = min (min (length c.octets - c.position) room) c.step

-- ---- an output over memory

-- what was written to it, how many octets it has room for, and what the trait says of it
pub record Store : Type 0 where
  pub octets : List ℕ
  pub room : ℕ
  pub is_finished : Bool
  pub endings : ℕ
  pub failures : ℕ

-- how many of n octets it still has room for
abbrev pub write_count : Store → ℕ → ℕ
write_count s n = min n (s.room - length s.octets)

-- ---- an input over a reader

abbrev pub reader_of : {R : Type 0} → ReaderInput R → R
reader_of s = s.reader

-- all that was read from it
abbrev pub consumed_of : {R : Type 0} → ReaderInput R → List ℕ
consumed_of s = s.transcript.octets

abbrev pub is_at_end_of : {R : Type 0} → ReaderInput R → Bool
is_at_end_of s = s.is_at_end

-- its octets are not known
abbrev pub unknown_source : {R : Type 0} → ReaderInput R → Option (List ℕ)
unknown_source s = None

pub nothing_is_known : {R : Type 0} (s : ReaderInput R) (octets : List ℕ) → unknown_source s ≡ Some octets
    → IsPossibleInput (record { octets = consumed_of s; ended = is_at_end_of s }) octets
nothing_is_known s octets is = cc is

abbrev pub remaining_of : {R : Type 0} → ReaderInput R → Count
remaining_of s = at_most (most_octets - s.count)

abbrev pub read_failures_of : {R : Type 0} → ReaderInput R → ℕ
read_failures_of s = s.failures

-- ---- an output over a writer

abbrev pub writer_of : {W : Type 0} → WriterOutput W → W
writer_of s = s.writer

-- all that was written to it
abbrev pub written_of : {W : Type 0} → WriterOutput W → List ℕ
written_of s = s.transcript.octets

abbrev pub is_finished_of : {W : Type 0} → WriterOutput W → Bool
is_finished_of s = s.is_finished

abbrev pub endings_of : {W : Type 0} → WriterOutput W → ℕ
endings_of s = s.endings

abbrev pub write_failures_of : {W : Type 0} → WriterOutput W → ℕ
write_failures_of s = s.failures
