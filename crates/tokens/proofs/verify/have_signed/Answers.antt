use Rattle.std.proofs.Common.{◌≡◌, Bool, get_or, map, max, nat_le, sym, ap, ◌∙◌, arith}
use Rattle.std.specs.List.{list_any}
use Rattle.keys.specs.Code.Views.{key_view}
use Rattle.keys.specs.declared.key.Key.{Key}
use Rattle.objects.specs.Code.Views.{jws_view, signature_view}
use Rattle.tokens.specs.Verifying.{has_signed, verifies}
use Rattle.tokens.specs.Code.Heads.{covers}
use Rattle.tokens.proofs.Elements.{list_any-map}
use Rattle.tokens.proofs.Verifying.Counted.{count_decides, count_ends, count_goes_on, count_map}
use Rattle.tokens.proofs.verify.have_signed.Goals as goal

pub returns-in-Some : goal.returns-in-Some
returns-in-Some c =
    let o = jws_view c.args.jws.now in
    let keys = c.args.keys.now in
    let key = c.key-item.result in
    let signatures = c.signatures-signatures.result.now in
    let covered = ap (λ l. covers l (map signature_view signatures)) c.list-heads.ensures ∙ c.heads_of-heads.ensures in
    let test : Key → Bool = λ key. has_signed o (key_view key) in
    let signed : c.has_signed-signed.result ≡ test key
    = c.has_signed-signed.ensures covered
    ∙ ap (λ p. list_any (λ s. verifies p (signature_view s) (key_view key)) signatures) c.held_payload.ensures.octets
    ∙ sym (list_any-map (λ s. verifies o.payload s (key_view key)) signature_view signatures)
    ∙ ap (list_any (λ s. verifies o.payload s (key_view key))) c.signatures-signatures.ensures.list in
    let is : test (get_or keys c.loop-key.key-index key) ≡ c.has_signed-signed.result = ap test (sym c.key-item.is) ∙ sym signed in
    count_decides test c.args.least keys c.loop-key.key-index _ _ c.has_signed-signed.result key _ _ (omega arith) c.loop-key.invariant is
    c.count.ensures.wanted c.count.ensures.left c.in-Some.enough c.in-Some.ensures.decided
    ∙ ap (nat_le (max c.args.least 1)) (count_map (has_signed o) key_view keys)

pub returns : goal.returns
returns c =
    let o = jws_view c.args.jws.now in
    let keys = c.args.keys.now in
    let test : Key → Bool = λ key. has_signed o (key_view key) in
    count_ends test c.args.least keys c.loop-key.key-index _ _ c.loop-key-test.false c.loop-key.invariant
    ∙ ap (nat_le (max c.args.least 1)) (count_map (has_signed o) key_view keys)

pub loop-key-preserved : goal.loop-key-preserved
loop-key-preserved c =
    let o = jws_view c.args.jws.now in
    let keys = c.args.keys.now in
    let key = c.key-item.result in
    let signatures = c.signatures-signatures.result.now in
    let covered = ap (λ l. covers l (map signature_view signatures)) c.list-heads.ensures ∙ c.heads_of-heads.ensures in
    let test : Key → Bool = λ key. has_signed o (key_view key) in
    let signed : c.has_signed-signed.result ≡ test key
    = c.has_signed-signed.ensures covered
    ∙ ap (λ p. list_any (λ s. verifies p (signature_view s) (key_view key)) signatures) c.held_payload.ensures.octets
    ∙ sym (list_any-map (λ s. verifies o.payload s (key_view key)) signature_view signatures)
    ∙ ap (list_any (λ s. verifies o.payload s (key_view key))) c.signatures-signatures.ensures.list in
    let is : test (get_or keys c.loop-key.key-index key) ≡ c.has_signed-signed.result = ap test (sym c.key-item.is) ∙ sym signed in
    count_goes_on test c.args.least keys c.loop-key.key-index _ _ c.has_signed-signed.result key _ _ (omega arith) c.loop-key.invariant is
    c.count.ensures.wanted c.count.ensures.left (sym c.in_default.is ∙ c.count.ensures.decided)
