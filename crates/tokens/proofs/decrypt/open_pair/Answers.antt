use Rattle.std.proofs.Common.{◌≡◌, ◌∙◌, true, Some, sym, ap}
use Rattle.tokens.specs.Decrypting.{is_candidate}
use Rattle.tokens.specs.Code.Views.{algorithms_view, pair_view, sealed_with_view}
use Rattle.keys.specs.Code.Views.{key_view}
use Rattle.objects.specs.Code.Views.{recipient_view}
use Rattle.tokens.proofs.Decrypting.Openings.{opened_alone, opens, opened_with}
use Rattle.tokens.proofs.Decrypting.Tried.{tried_before}
use Rattle.tokens.proofs.decrypt.open_pair.Goals as goal

pub returns-clause-opened : goal.returns-clause-opened
returns-clause-opened c =
    let s = sealed_with_view c.args.sealed c.args.octets.now in
    let cek = c.octets-cek.result.now in
    let pair = pair_view c.args.pair.now in
    let is : is_candidate pair.algorithms pair.key ≡ true = sym c.is_candidate.ensures.candidate ∙ c.if-not-is_candidate.false in
    opens c.opens_exactly.ensures pair.algorithms.encryption cek s.iv s.aad s.ciphertext s.tag _ c.open.result c.are_octets.ensures c.are_octets-2.ensures
    c.open.ensures.opened c.open.ensures.nothing
    ∙ opened_with s pair cek (sym c.deliver-cek.ensures.cek ∙ c.in_ok-cek.was ∙ ap Some (sym c.octets-cek.ensures))
    ∙ sym (opened_alone pair is s)

pub returns-then-was_tried-clause-opened : goal.returns-then-was_tried-clause-opened
returns-then-was_tried-clause-opened c =
    let p = c.args.pair.now in
    let s = sealed_with_view c.args.sealed c.args.octets.now in
    let is : is_candidate (algorithms_view p.algorithms) (key_view p.key.now) ≡ true = sym c.is_candidate.ensures.candidate
    ∙ c.if-not-is_candidate.false in
    sym (tried_before s (recipient_view p.recipient.now) (algorithms_view p.algorithms) (key_view p.key.now) c.args.before.now
    (sym c.was_tried.ensures ∙ c.if-was_tried.true) c.requires.tried)
    ∙ sym (opened_alone (pair_view p) is s)
