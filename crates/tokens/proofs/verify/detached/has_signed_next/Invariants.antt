use Rattle.std.proofs.Common.{◌≡◌, ℕ, List, ◌++◌, ◌||◌, map, drop}
use Rattle.std.specs.List.{list_any}
use Rattle.std.specs.Vec.Iter.{into_iter_items}
use Rattle.octets.specs.Base64url.{base64url}
use Rattle.keys.specs.Code.Views.{key_view}
use Rattle.objects.specs.Code.Views.{signature_view}
use Rattle.tokens.specs.Code.SigningInputs.{InputStart, HoldEach}
use Rattle.tokens.specs.Verifying.{verifies}
use Rattle.tokens.specs.Code.Heads.{has_made_alike, pointed_views}
use Rattle.tokens.specs.Code.VerifyingInputs.{starts_for_key}
use Rattle.tokens.proofs.verify.detached.has_signed_next.Given as goal

-- the key made one of the signatures exactly if it made one that is alike to a head so far, or to one that is left, whose inputs are left
abbrev pub invariant-loop-head : goal.invariant-loop-head
invariant-loop-head g l =
    let has_taken = g.S.SigningInput.has_taken in
    let key = key_view l.key in
    let signatures = map signature_view l.signatures in
    let left = pointed_views (drop l.head-index l.heads) in
    let all = pointed_views l.heads in
    (later : List InputStart) (payload : List ℕ)
    → HoldEach has_taken (into_iter_items l.initial.inputs) (starts_for_key all key ++ later) (base64url payload)
    → ((l.signed || list_any (λ h. has_made_alike payload signatures h key) left) ≡ list_any (λ s. verifies payload s key) signatures)
    × HoldEach has_taken (into_iter_items l.inputs) (starts_for_key left key ++ later) (base64url payload)
