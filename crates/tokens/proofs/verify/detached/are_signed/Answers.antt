use Rattle.std.proofs.Common.{◌≡◌, ◌∷◌, ◌+◌, Bool, drop, get_or, map, max, nat_le, sym, ap, subst, ◌∙◌, arith}
use Rattle.std.proofs.lemmas.List.{drop_more}
use Rattle.std.specs.Vec.Iter.{into_iter_items}
use Rattle.octets.specs.Base64url.{base64url}
use Rattle.keys.specs.Code.Views.{key_view}
use Rattle.keys.specs.declared.key.Key.{Key}
use Rattle.objects.specs.Code.Views.{signature_view}
use Rattle.objects.specs.Jws.{SignedObject}
use Rattle.tokens.specs.Code.SigningInputs.{HoldEach}
use Rattle.tokens.specs.Code.Heads.{pointed_views}
use Rattle.tokens.specs.Code.VerifyingInputs.{starts_for_keys}
use Rattle.tokens.specs.Verifying.{has_signed}
use Rattle.tokens.proofs.Verifying.Counted.{count_decides, count_ends, count_goes_on, count_map}
use Rattle.tokens.proofs.verify.detached.are_signed.Goals as goal

pub returns-in-Some : goal.returns-in-Some
returns-in-Some g c payload h =
    let o : SignedObject = record { payload = payload; signatures = map signature_view c.args.signatures.now } in
    let heads = pointed_views c.args.heads.now in
    let keys = c.args.keys.now in
    let i = c.loop-key.key-index in
    let key = c.key-item.result in
    let here : drop i keys ≡ key ∷ drop (i + 1) keys = drop_more keys i key (omega arith) ∙ ap (λ k. k ∷ drop (i + 1) keys) (sym c.key-item.is) in
    let left = c.loop-key.invariant payload h in
    let inputs = into_iter_items c.loop-key.inputs in
    let holds = subst (λ l. HoldEach g.S.SigningInput.has_taken inputs (starts_for_keys heads (map key_view l)) (base64url payload)) here left.1 in
    let step = c.has_signed_next-signed.ensures (starts_for_keys heads (map key_view (drop (i + 1) keys))) payload holds in
    let test : Key → Bool = λ key. has_signed o (key_view key) in
    let is : test (get_or keys i key) ≡ c.has_signed_next-signed.result = ap test (sym c.key-item.is) ∙ sym step.0 in
    count_decides test c.args.least keys i _ _ c.has_signed_next-signed.result key _ _ (omega arith) left.0 is c.count.ensures.wanted c.count.ensures.left
    c.in-Some.enough c.in-Some.ensures.decided
    ∙ ap (nat_le (max c.args.least 1)) (count_map (has_signed o) key_view keys)

pub returns : goal.returns
returns g c payload h =
    let o : SignedObject = record { payload = payload; signatures = map signature_view c.args.signatures.now } in
    let keys = c.args.keys.now in
    let test : Key → Bool = λ key. has_signed o (key_view key) in
    count_ends test c.args.least keys c.loop-key.key-index _ _ c.loop-key-test.false (c.loop-key.invariant payload h).0
    ∙ ap (nat_le (max c.args.least 1)) (count_map (has_signed o) key_view keys)

pub loop-key-preserved : goal.loop-key-preserved
loop-key-preserved g c payload h =
    let o : SignedObject = record { payload = payload; signatures = map signature_view c.args.signatures.now } in
    let heads = pointed_views c.args.heads.now in
    let keys = c.args.keys.now in
    let i = c.loop-key.key-index in
    let key = c.key-item.result in
    let here : drop i keys ≡ key ∷ drop (i + 1) keys = drop_more keys i key (omega arith) ∙ ap (λ k. k ∷ drop (i + 1) keys) (sym c.key-item.is) in
    let left = c.loop-key.invariant payload h in
    let inputs = into_iter_items c.loop-key.inputs in
    let holds = subst (λ l. HoldEach g.S.SigningInput.has_taken inputs (starts_for_keys heads (map key_view l)) (base64url payload)) here left.1 in
    let step = c.has_signed_next-signed.ensures (starts_for_keys heads (map key_view (drop (i + 1) keys))) payload holds in
    let test : Key → Bool = λ key. has_signed o (key_view key) in
    let is : test (get_or keys i key) ≡ c.has_signed_next-signed.result = ap test (sym c.key-item.is) ∙ sym step.0 in (
      count_goes_on test c.args.least keys i _ _ c.has_signed_next-signed.result key _ _ (omega arith) left.0 is c.count.ensures.wanted
          c.count.ensures.left (sym c.in_default.is ∙ c.count.ensures.decided),
      step.1,
    )
