use Rattle.std.proofs.Common.{◌≡◌, ◌++◌, codes, false, is_none, map, rules, sym, ap, ◌∙◌}
use Rattle.std.specs.Vec.Iter.{into_iter_items}
use Rattle.octets.specs.Base64url.{base64url}
use Rattle.keys.specs.Code.Views.{key_view}
use Rattle.objects.specs.Code.Views.{signature_view}
use Rattle.keys.specs.Algorithms.{signature_hash}
use Rattle.tokens.specs.Verifying.{candidate_alg}
use Rattle.tokens.specs.Code.Heads.{made_by}
use Rattle.tokens.proofs.Verifying.Detached.{first_for_pair, made_by_input}
use Rattle.tokens.proofs.verify.detached.has_made_alike_next.Goals as goal

pub returns-in-Some : goal.returns-in-Some
returns-in-Some g c later payload h =
    let head = signature_view c.args.head.now in
    let key = key_view c.args.key.now in
    let signatures = map signature_view c.args.signatures.now in
    let some : is_none (candidate_alg head key) ≡ false = ap is_none (sym c.candidate_alg.ensures) ∙ search rules in
    let old = into_iter_items c.args.inputs.now in
    let new = into_iter_items c.next.new.self in
    let f = first_for_pair g.S.SigningInput.has_taken (candidate_alg head key) head key old c.in-Some.input new later (base64url payload)
    some c.in-Some.ensures.items h in
    let mac = c.sign.ensures (signature_hash f.alg) key.octets ((head.protected ++ codes ".") ++ base64url payload) f.here in (
      c.is_one_of.ensures ∙ made_by_input f.alg payload signatures head key c.sign.result mac
          ∙ sym (ap (λ a. made_by a payload signatures head key) f.is),
      f.others,
    )
