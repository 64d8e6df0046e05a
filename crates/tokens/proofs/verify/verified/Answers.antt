use Rattle.std.proofs.Common.{◌∙◌, List, map, sym, ap, subst}
use Rattle.octets.specs.Code.Results.{Agrees}
use Rattle.keys.specs.Code.Views.{key_view}
use Rattle.objects.specs.Jws.{Signature}
use Rattle.objects.specs.Code.Views.{jws_view, signature_view}
use Rattle.tokens.specs.Verifying.{have_signed, verified_by_least}
use Rattle.tokens.proofs.verify.verified.Goals as goal

pub returns : goal.returns
returns c =
    let payload = (jws_view c.args.jws.now).payload in
    let keys = map key_view c.keys-keys.result.now in
    let signatures : List Signature = map signature_view c.signatures.result.now in
    let listed = c.signatures.ensures.list in
    let right = c.have_signed.ensures ∙ ap (λ l. have_signed c.args.least keys (record { payload = payload; signatures = l })) (sym listed) in
    record {
      exact = subst (λ a. Agrees (λ done. payload) c.verdict.result a)
          (ap (λ l. verified_by_least c.args.least keys (record { payload = payload; signatures = l })) listed
          ∙ ap (λ l. verified_by_least c.args.least l (jws_view c.args.jws.now)) c.keys-keys.ensures.list)
          (c.verdict.ensures.agrees c.args.least payload right);
    }
