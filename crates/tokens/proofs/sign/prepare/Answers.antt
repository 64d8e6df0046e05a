use Rattle.std.proofs.Common.{◌≡◌, ℕ, List, Err, [], map, ap, sym, subst, ◌∙◌, false, rules}
use Rattle.octets.specs.declared.refusal.Refusal.{Refusal}
use Rattle.octets.specs.Outcomes.{is_external}
use Rattle.octets.specs.Code.Results.{is_memory}
use Rattle.octets.specs.Plan.{planned}
use Rattle.keys.specs.Limits.{limits}
use Rattle.objects.specs.Code.Views.{jws_view}
use Rattle.tokens.specs.Signing.{sig_plan, protected_by}
use Rattle.tokens.specs.Code.SigningInputs.{HoldEach, start_of}
use Rattle.tokens.specs.Code.Views.{signing_view, signer_view}
use Rattle.tokens.specs.contracts.signing_input.HmacInputSigningInput.TheImpl.{has_taken-value}
use Rattle.tokens.proofs.Signing.Objects.{unsigned_is}
use Rattle.tokens.proofs.Signing.Frames.{by_signing, text_refused, unsigned_are, signing_refused, memory_apart}
use Rattle.tokens.proofs.sign.prepare.Goals as goal

pub unsigned-requires : goal.unsigned-requires
unsigned-requires c =
    unsigned_is c.args.compact c.args.keys.now c.args.template.now (signing_view c.in_ok-signing.signing) c.in_ok-signing.ensures
    c.are_octet_keys.ensures.some c.are_octet_keys.ensures.few

pub signing_inputs-requires : goal.signing_inputs-requires
signing_inputs-requires c =
    unsigned_are (signing_view c.in_ok-signing.signing) (jws_view c.in_ok-jws.jws) c.in_ok-jws.ensures.object
    ∙ ap (λ l. map protected_by (map signer_view l)) (sym c.deref.ensures.value)

pub returns-in_err-signing-clause-refused : goal.returns-in_err-signing-clause-refused
returns-in_err-signing-clause-refused c =
    let e : Refusal = c.in_err-signing.field-0.0 in
    let refused : is_memory e ≡ false → (is_external e ≡ false)
    × ((payload : List ℕ) → planned (sig_plan limits c.args.compact c.args.detach c.args.keys.now c.args.template.now) payload ≡ Err e) =
    λ h. (
      (c.in_err-signing.ensures h).1,
      λ payload. signing_refused c.args.compact c.args.detach c.args.keys.now c.args.template.now payload e
          (c.in_err-signing.ensures h).0,
    ) in
    search (rules, refused)

pub returns-in_err-texts-clause-refused : goal.returns-in_err-texts-clause-refused
returns-in_err-texts-clause-refused c =
    let e : Refusal = c.in_err-texts.field-0.0 in
    let s = signing_view c.in_ok-signing.signing in
    let is = by_signing c.args.compact c.args.detach c.args.keys.now c.args.template.now s c.in_ok-signing.ensures in
    let refused : is_memory e ≡ false → (is_external e ≡ false)
    × ((payload : List ℕ) → planned (sig_plan limits c.args.compact c.args.detach c.args.keys.now c.args.template.now) payload ≡ Err e) =
    λ h.
    let not_compact = c.in_err-texts.ensures.refused (memory_apart e h) in (
      ap is_external not_compact.0,
      λ payload. ap (λ p. planned p payload) is
          ∙ text_refused c.args.compact c.args.detach s (jws_view c.in_ok-jws.jws) payload c.in_ok-jws.ensures.object not_compact.1 ∙ ap Err (sym not_compact.0),
    ) in
    search (rules, refused)

pub returns-clause-framed : goal.returns-clause-framed
returns-clause-framed c =
    let s = signing_view c.in_ok-signing.signing in record {
      signing = s;
      object = jws_view c.in_ok-jws.jws;
      is = by_signing c.args.compact c.args.detach c.args.keys.now c.args.template.now s c.in_ok-signing.ensures;
      made = c.in_ok-jws.ensures.object;
      texts_are = c.in_ok-texts.ensures.exact;
      frame = c.in_ok-texts.ensures.texts;
      started = subst (λ l. HoldEach has_taken-value.it c.in_ok-inputs.inputs.items (map start_of (map signer_view l)) []) c.deref.ensures.value
          c.in_ok-inputs.ensures.started;
    }
