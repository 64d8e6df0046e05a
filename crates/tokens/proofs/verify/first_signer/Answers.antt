use Rattle.std.proofs.Common.{map, rules, tests, sym, ap, ◌∙◌}
use Rattle.std.proofs.lemmas.Iterator.{YieldsList-from_slice}
use Rattle.std.proofs.lemmas.Iterator.Search.{position_from_yields_List}
use Rattle.std.specs.List.{list_any}
use Rattle.keys.specs.Code.Views.{key_view}
use Rattle.objects.specs.Code.Views.{jws_view, signature_view}
use Rattle.tokens.specs.Verifying.{verifies}
use Rattle.tokens.specs.Code.Heads.{covers}
use Rattle.tokens.proofs.Elements.{list_any-map}
use Rattle.tokens.proofs.Verifying.First.{position-map}
use Rattle.tokens.proofs.verify.first_signer.Goals as goal

pub returns : goal.returns
returns c =
    let payload = (jws_view c.args.jws.now).payload in
    let keys = c.args.keys.now in
    let signatures = c.signatures-signatures.result.now in
    let covered = ap (λ l. covers l (map signature_view signatures)) c.list-heads.ensures ∙ c.heads_of-heads.ensures in
    position_from_yields_List (λ key. list_any (λ s. verifies payload (signature_view s) (key_view key)) signatures) _ _ _ c.position.ensures.ran
    (YieldsList-from_slice keys cc) (λ x b q k. search (rules, tests, covered))
    ∙ position-map (λ key. list_any (λ s. verifies payload s key) (jws_view c.args.jws.now).signatures) _ key_view
    (λ key. sym (list_any-map (λ s. verifies payload s (key_view key)) signature_view signatures)
    ∙ ap (list_any (λ s. verifies payload s (key_view key))) c.signatures-signatures.ensures.list)
    keys
