use Rattle.std.proofs.Common.{ℕ, List, map, drop}
use Rattle.std.specs.Vec.Iter.{into_iter_items}
use Rattle.octets.specs.Base64url.{base64url}
use Rattle.keys.specs.Code.Views.{key_view}
use Rattle.objects.specs.Code.Views.{signature_view}
use Rattle.tokens.specs.Code.SigningInputs.{HoldEach}
use Rattle.tokens.specs.Code.Heads.{pointed_views}
use Rattle.tokens.specs.Code.VerifyingInputs.{starts_for_keys}
use Rattle.tokens.specs.Verifying.{has_signed}
use Rattle.tokens.proofs.Verifying.Counted.{Counted}
use Rattle.tokens.proofs.verify.detached.are_signed.Given as goal

-- the keys so far were counted, and the inputs of the others are left
abbrev pub invariant-loop-key : goal.invariant-loop-key
invariant-loop-key g l =
    let has_taken = g.S.SigningInput.has_taken in
    let signatures = map signature_view l.signatures in
    let heads = pointed_views l.heads in
    let left = map key_view (drop l.key-index l.keys) in
    let all = map key_view l.keys in
    (payload : List ℕ) → HoldEach has_taken l.fn.inputs.items (starts_for_keys heads all) (base64url payload)
    → Counted (λ key. has_signed (record { payload = payload; signatures = signatures }) (key_view key)) l.least l.keys l.key-index l.tally.wanted l.tally.left
    × HoldEach has_taken (into_iter_items l.inputs) (starts_for_keys heads left) (base64url payload)
