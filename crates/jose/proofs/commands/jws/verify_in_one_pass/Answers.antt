use Rattle.std.proofs.Common.{◌≡◌, ◌∙◌, [], length, sym, subst}
use Rattle.octets.specs.Devices.{appended}
use Rattle.octets.specs.Octets.{IsOctets}
use Rattle.octets.specs.Outcomes.{AgreesUnlessExternal}
use Rattle.octets.proofs.Lemmas.{IsOctets-append, IsOctets-drop, whole_is}
use Rattle.jose.proofs.commands.jws.verify_in_one_pass.Goals as goal

pub returns-in-Ok-clause-answer : goal.returns-in-Ok-clause-answer
returns-in-Ok-clause-answer g c whole_text whole_keys whole_content text_may keys_may content_may =
    let consumed = g.I.Input.consumed in
    let at_end = g.I.Input.is_at_end in
    let t : whole_text ≡ c.deref-2.result.now = whole_is consumed at_end _ _ _ whole_text c.in_ok-object.ensures.whole.0 c.in_ok-object.ensures.whole.1 text_may
    ∙ sym c.deref-2.ensures.value in
    let k : whole_keys ≡ c.deref.result.now = whole_is consumed at_end _ _ _ whole_keys c.in_ok-set.ensures.whole.0 c.in_ok-set.ensures.whole.1 keys_may
    ∙ sym c.deref.ensures.value in
    let old = consumed c.args.content.now in
    let new = consumed c.jws_verify_detached.new.content in
    let octets : IsOctets whole_content
    = subst IsOctets (sym content_may.continues) (IsOctets-append (appended old new) content_may.rest
    (IsOctets-drop (length old) new (g.met.I.Input.gives_octets c.jws_verify_detached.new.content)) content_may.octets) in
    let answer = c.in-Ok.ensures.read c.args.all whole_content octets in
    rw (t, k) (subst (λ a. AgreesUnlessExternal a [] c.jws_verify_detached.result) (sym answer)
    (c.jws_verify_detached.ensures.answer whole_content content_may))
