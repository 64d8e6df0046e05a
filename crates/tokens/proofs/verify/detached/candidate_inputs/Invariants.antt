use Rattle.std.proofs.Common.{map, drop}
use Rattle.keys.specs.Code.Views.{key_view}
use Rattle.tokens.specs.Code.Heads.{pointed_views}
use Rattle.tokens.specs.Code.VerifyingInputs.{starts_for_keys}
use Rattle.tokens.specs.contracts.signing_input.HmacInputSigningInput.TheImpl.{has_taken-value}
use Rattle.tokens.proofs.SigningInputs.Start.{AreStarted}
use Rattle.tokens.proofs.verify.detached.candidate_inputs.Given as goal

-- the inputs so far and those of the keys that are left are all inputs
abbrev pub invariant-loop-key : goal.invariant-loop-key
invariant-loop-key l =
    let heads = pointed_views l.heads in
    AreStarted has_taken-value.it l.inputs.items (starts_for_keys heads (map key_view (drop l.key-index l.keys))) (starts_for_keys heads (map key_view l.keys))
