use Rattle.std.proofs.Common.{List, [], ◌++◌, drop}
use Rattle.keys.specs.Code.Views.{key_view}
use Rattle.tokens.specs.Code.SigningInputs.{InputStart, HoldEach}
use Rattle.tokens.specs.Code.Heads.{pointed_views}
use Rattle.tokens.specs.Code.VerifyingInputs.{starts_for_key}
use Rattle.tokens.specs.contracts.signing_input.HmacInputSigningInput.TheImpl.{has_taken-value}
use Rattle.tokens.proofs.SigningInputs.Start.{AreStarted}
use Rattle.tokens.proofs.verify.detached.push_inputs_of_key.Given as goal

-- the inputs so far and those of the heads that are left are all inputs
abbrev pub invariant-loop-head : goal.invariant-loop-head
invariant-loop-head l =
    let key = key_view l.key in
    (starts : List InputStart) → HoldEach has_taken-value.it l.initial.inputs.items starts []
    → AreStarted has_taken-value.it l.inputs.items (starts_for_key (pointed_views (drop l.head-index l.heads)) key)
    (starts ++ starts_for_key (pointed_views l.heads) key)
