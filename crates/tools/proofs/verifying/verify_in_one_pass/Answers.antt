use Rattle.std.proofs.Common.{◌≡◌, ◌∙◌, [], length, sym, subst}
use Rattle.octets.specs.Devices.{appended, observed, IsPossibleInput}
use Rattle.octets.specs.Octets.{IsOctets}
use Rattle.octets.specs.Outcomes.{AgreesUnlessExternal}
use Rattle.octets.proofs.Lemmas.{IsOctets-append, IsOctets-drop, whole_is}
use Rattle.tools.proofs.Verified.{as_refused-caused, blames_others}
use Rattle.tools.proofs.verifying.verify_in_one_pass.Goals as goal

pub returns-in-Ok-clause-answer : goal.returns-in-Ok-clause-answer
returns-in-Ok-clause-answer g c whole_text whole_keys whole_content text_may keys_may content_may =
    let consumed = g.I.Input.consumed in
    let at_end = g.I.Input.is_at_end in
    let t : whole_text ≡ c.deref-2.result.now = whole_is consumed at_end _ _ _ whole_text c.in_ok-object.ensures.whole.0 c.in_ok-object.ensures.whole.1 text_may
    ∙ sym c.deref-2.ensures.value in
    let k : whole_keys ≡ c.deref.result.now = whole_is consumed at_end _ _ _ whole_keys c.in_ok-set.ensures.whole.0 c.in_ok-set.ensures.whole.1 keys_may
    ∙ sym c.deref.ensures.value in
    let old = consumed c.args.content.now in
    let new = consumed c.jws_verify_detached_least.new.content in
    let octets : IsOctets whole_content
    = subst IsOctets (sym content_may.continues) (IsOctets-append (appended old new) content_may.rest
    (IsOctets-drop (length old) new (g.met.I.Input.gives_octets c.jws_verify_detached_least.new.content)) content_may.octets) in
    let answer = c.in-Ok.ensures.read c.args.signers.least whole_content octets in
    rw (t, k, c.caused.ensures, as_refused-caused c.jws_verify_detached_least.result)
    (subst (λ a. AgreesUnlessExternal a [] c.jws_verify_detached_least.result) (sym answer) (c.jws_verify_detached_least.ensures.answer whole_content content_may))

pub returns-in-Ok-clause-cause : goal.returns-in-Ok-clause-cause
returns-in-Ok-clause-cause g c =
    let consumed = g.I.Input.consumed in
    let at_end = g.I.Input.is_at_end in
    rw c.caused.ensures
    (blames_others c.jws_verify_detached_least.result c.args.signers.number c.deref.result.now c.in-Ok.set
    (IsPossibleInput (observed consumed at_end c.args.keys.now c.read_to_end-2.new.input))
    (λ whole may. whole_is consumed at_end _ _ _ whole c.in_ok-set.ensures.whole.0 c.in_ok-set.ensures.whole.1 may ∙ sym c.deref.ensures.value)
    c.in-Ok.ensures.signers)
