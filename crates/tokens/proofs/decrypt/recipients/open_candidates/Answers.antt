use Rattle.std.proofs.Common.{◌≡◌, ◌+◌, ◌++◌, ◌∷◌, [], None, rules, map, take, drop, sym, ap, subst, ◌∙◌, arith}
use Rattle.std.proofs.lemmas.Grind.{common_steps}
use Rattle.std.proofs.lemmas.List.{drop_more, map-append, take_more}
use Rattle.keys.specs.Code.Views.{key_view}
use Rattle.objects.specs.Code.Views.{recipient_view}
use Rattle.tokens.specs.Decrypting.{first_opened, pairs_with}
use Rattle.tokens.specs.Code.Trying.{IsSaltFor, salted_by, within_after}
use Rattle.tokens.specs.Code.Views.{algorithms_view, sealed_with_view, work_view}
use Rattle.tokens.specs.Code.Work.{with_pairs}
use Rattle.tokens.proofs.Decrypting.Salted.{salted_at, stays}
use Rattle.tokens.proofs.Decrypting.Tried.{with_more, at_most_one, within_parts, within_sum, opened_later, opened_none, work_later, iterations_all, unwraps_most, openings_most}
use Rattle.tokens.proofs.decrypt.recipients.open_candidates.Goals as goal

pub open_pair-opened-requires-clause-key : goal.open_pair-opened-requires-clause-key
open_pair-opened-requires-clause-key c =
    let k = c.loop-i.invariant in
    let p2s = c.loop-i.salted.p2s.now in
    ap (λ x. x.key) (salted_at p2s c.args.salted.now.keys.now c.loop-i.salted.salted.items c.loop-i.i c.index_mut.result.now c.index-keys-i.result
    (omega (arith, c.loop-i-test.true)) (k.salted ∙ ap (λ keys. map (salted_by p2s) (map key_view keys.now)) k.keys) c.index_mut.ensures.value c.index-keys-i.is)

pub open_pair-opened-requires-clause-salt : goal.open_pair-opened-requires-clause-salt
open_pair-opened-requires-clause-salt c =
    let k = c.loop-i.invariant in
    let p2s = c.loop-i.salted.p2s.now in
    let is = salted_at p2s c.args.salted.now.keys.now c.loop-i.salted.salted.items c.loop-i.i c.index_mut.result.now c.index-keys-i.result
    (omega (arith, c.loop-i-test.true)) (k.salted ∙ ap (λ keys. map (salted_by p2s) (map key_view keys.now)) k.keys) c.index_mut.ensures.value c.index-keys-i.is in
    subst (λ salt. IsSaltFor salt (recipient_view c.args.recipient.now).management)
    (sym (ap (λ x. x.p2s) is ∙ ap (λ b. b.now) k.salt)) c.requires.salt

pub loop-i-preserved : goal.loop-i-preserved
loop-i-preserved c =
    let k = c.loop-i.invariant in
    let s = sealed_with_view c.args.sealed c.args.octets.now in
    let r = recipient_view c.args.recipient.now in
    let a = algorithms_view c.args.algorithms in
    let keys = c.args.salted.now.keys.now in
    let i = c.loop-i.i in
    let key = c.index-keys-i.result in
    let w = work_view c.loop-i.work in
    let here = pairs_with r a (key_view key ∷ []) in
    let rest = pairs_with r a (map key_view (drop (i + 1) keys)) in
    let at : drop i keys ≡ key ∷ drop (i + 1) keys = drop_more keys i key (omega (arith, c.loop-i-test.true))
    ∙ ap (λ k. k ∷ drop (i + 1) keys) (sym c.index-keys-i.is) in
    let left = ap (λ l. pairs_with r a (map key_view l)) at ∙ with_more r a (key_view key ∷ []) (map key_view (drop (i + 1) keys)) in
    let now : first_opened (sealed_with_view c.args.sealed c.loop-i.octets) here ≡ None = search rules in
    let none : first_opened s here ≡ None = ap (λ l. first_opened (sealed_with_view c.args.sealed l) here) (sym k.octets) ∙ now in
    let done : work_view c.open_pair-opened.new.work ≡ with_pairs s w here = c.open_pair-opened.ensures.work
    ∙ ap (λ l. with_pairs (sealed_with_view c.args.sealed l) w here) k.octets in
    let parts = within_parts c.loop-i.work.iterations here rest (sym (ap (within_after c.loop-i.work.iterations) left) ∙ k.within) in
    let iterations = ap (λ x. x.iterations) done ∙ iterations_all s w here none in
    let first = ap (λ l. pairs_with r a l) (ap (map key_view) (take_more keys i key (omega (arith, c.loop-i-test.true))
    ∙ ap (λ k. take i keys ++ k ∷ []) (sym c.index-keys-i.is)) ∙ map-append key_view (take i keys) (key ∷ []))
    ∙ with_more r a (map key_view (take i keys)) (key_view key ∷ []) in
    record {
      octets = grind (arith, common_steps);
      tried = ap (first_opened s) first ∙ opened_none s (pairs_with r a (map key_view (take i keys))) here k.tried none;
      opened = sym (opened_later s here rest none) ∙ ap (first_opened s) (sym left) ∙ k.opened;
      work = ap (λ x. with_pairs s x rest) done ∙ sym (work_later s w here rest none) ∙ ap (with_pairs s w) (sym left) ∙ k.work;
      within = ap (λ n. within_after n rest) iterations ∙ parts.1;
      iterations = omega (arith, iterations, within_sum c.loop-i.work.iterations here parts.0);
      unwraps = omega (arith, ap (λ x. x.unwraps) done, unwraps_most s w here, at_most_one r a (key_view key), k.unwraps);
      openings = omega (arith, ap (λ x. x.openings) done, openings_most s w here, at_most_one r a (key_view key), k.openings);
      keys = k.keys;
      salted = stays c.loop-i.salted.salted.items i c.index_mut.result.now c.open_pair-opened.new.salted c.index_mut.ensures.value
          c.open_pair-opened.ensures.same ∙ k.salted;
      salt = k.salt;
    }
