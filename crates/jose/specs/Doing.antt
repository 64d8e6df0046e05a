-- Everything that a run promises about an invocation, by the devices that it was given.
use Rattle.std.specs.Prelude.{◌≡◌, Result, Err, OnOk, OnErr, IfErr}
use Rattle.octets.specs.declared.refusal.Refusal.{Refusal}
use Rattle.octets.specs.declared.refusal.Refusal.TheVariants.{Read}
use Rattle.octets.specs.Devices.{InputMembers, OutputMembers}
use Rattle.octets.specs.Faults.{TellsFaults}
use Rattle.jose.specs.declared.ports.Inputs.{Inputs}
use Rattle.jose.specs.declared.ports.Outputs.{Outputs}
use Rattle.jose.specs.Invocations.{InvocationView}
use Rattle.jose.specs.Ports.{AppendPrefixesOf, seen_of, written_texts, input_counts, output_counts}
use Rattle.jose.specs.Answer.{Answers, DrawsAll, DrawsNoMore, AreFinished, AreUnfinished, AreUntouched, AreUncut, AreUnread, AreKeptUp, IsContentFirst, AreInOrder, ReadsFirst, DrawsFirst, TakesMemoryFirst, RefusesFirst, HoldsBack, beginning as beginning_of}

-- ---- a run (docs/SPECIFICATION.md "Commands" and "Refusals")

-- The inputs were `old` and are `new`. The outputs were `before` and are `after`.
pub record Does {D E : Type 0} (input : InputMembers D) (output : OutputMembers E) (invocation : InvocationView)
    (old new : Inputs D) (before after : Outputs E) (result : Result (Unit {0}) Refusal) : Type 0 where
  -- The outputs, or the refusal, are those of the answer.
  pub answer : Answers invocation (seen_of input old new) (written_texts output.written before after) result
  -- On success exactly the octets that the answer draws were read from the random input. After a refusal no more than these were read.
  pub drawn : OnOk result (DrawsAll invocation (seen_of input old new))
  pub at_most : DrawsNoMore invocation (seen_of input old new)
  -- After a refusal each output holds a stated prefix of its text.
  pub beginning : OnErr result (AppendPrefixesOf output.written (beginning_of invocation (seen_of input old new)) before after)
  pub held_back : IfErr result (HoldsBack output.failures invocation before after)
  pub uncut : IfErr result (AreUncut output.failures output.written before after)
  pub unread : IfErr result (AreUnread output.failures invocation (seen_of input old new) before after)
  pub keeps_up : result ≡ Err Read → AreKeptUp output.written invocation (seen_of input old new) before after
  pub content_first : OnErr result (IsContentFirst output.written output.is_finished output.endings invocation (seen_of input old new) before after)
  -- The inputs are read one after another. A detached content that is handed in is read before anything is judged. The random input and
  -- every other content come last, and are read only if the text and the keys are accepted.
  pub in_order : AreInOrder invocation (seen_of input old new) old new
  pub reads_first : IfErr result (ReadsFirst invocation (seen_of input old new))
  pub random_first : DrawsFirst invocation (seen_of input old new) old new
  pub memory_first : IfErr result (TakesMemoryFirst invocation old new)
  pub content_last : RefusesFirst invocation (seen_of input old new) old new
  -- On success everything that was written is where it belongs, and each output was finished once. After a refusal no output was finished,
  -- except perhaps that of a content that was written before the text.
  pub finished : OnOk result (AreFinished output.is_finished output.endings invocation before after)
  pub unfinished : OnErr result (AreUnfinished output.endings invocation before after)
  -- A device that the command has no option for is untouched.
  pub untouched : AreUntouched invocation old new before after
  -- The refusal reports a device that failed in the call, and no other device.
  pub faults : TellsFaults (input_counts input.failures old new) (output_counts output.failures before after) result
