use Rattle.std.proofs.Common.{◌≡◌, ◌+◌, None, map, take, drop, sym, ap, ◌∙◌, arith}
use Rattle.std.proofs.lemmas.Grind.{common_steps}
use Rattle.std.proofs.lemmas.List.{length-map}
use Rattle.keys.specs.Limits.{limits}
use Rattle.keys.specs.Code.Views.{key_view}
use Rattle.objects.specs.Code.Views.{recipient_view}
use Rattle.tokens.specs.Decrypting.{all_pairs, pairs_of, first_opened}
use Rattle.tokens.specs.Code.Trying.{within_after}
use Rattle.tokens.specs.Code.Views.{sealed_with_view, work_view}
use Rattle.tokens.specs.Code.Work.{no_work, plus, with_pairs}
use Rattle.tokens.proofs.Decrypting.Tried.{decided_now, few_pairs, from_none, iterations_all, iterations_most, one_recipient_first, opened_later, openings_most, tried_more, undecided, unwraps_most, within_alone, within_parts, within_sum, work_later, work_now}
use Rattle.tokens.proofs.decrypt.recipients.open_recipients.Goals as goal

pub open_recipient-opened-requires-clause-within : goal.open_recipient-opened-requires-clause-within
open_recipient-opened-requires-clause-within c =
    let keys = map key_view c.args.salted.now.keys.now in
    let same : map key_view c.loop-i.salted.keys.now ≡ keys = ap (λ b. map key_view b.now) c.loop-i.invariant.keys in
    let r = c.index-recipients-i.result in
    let split = one_recipient_first keys c.args.recipients.now c.loop-i.i r c.loop-i-test.true c.index-recipients-i.is in
    ap (λ ks. within_after 0 (pairs_of limits.management ks (recipient_view r))) same
    ∙ within_alone c.loop-i.work.iterations (pairs_of limits.management keys (recipient_view r))
    (within_parts c.loop-i.work.iterations (pairs_of limits.management keys (recipient_view r)) _
    (sym (ap (within_after c.loop-i.work.iterations) split) ∙ c.loop-i.invariant.within)).0

pub add-requires-clause-iterations : goal.add-requires-clause-iterations
add-requires-clause-iterations c =
    let keys = map key_view c.args.salted.now.keys.now in
    let same : map key_view c.loop-i.salted.keys.now ≡ keys = ap (λ b. map key_view b.now) c.loop-i.invariant.keys in
    let r = c.index-recipients-i.result in
    let here = pairs_of limits.management keys (recipient_view r) in
    let n = c.loop-i.work.iterations in
    let split = one_recipient_first keys c.args.recipients.now c.loop-i.i r c.loop-i-test.true c.index-recipients-i.is in
    let parts = within_parts n here _ (sym (ap (within_after n) split) ∙ c.loop-i.invariant.within) in
    omega (
      arith,
      ap (λ x. x.iterations) (c.open_recipient-opened.ensures.work ∙ ap (λ ks. with_pairs (sealed_with_view c.args.sealed c.loop-i.octets) no_work (pairs_of limits.management ks (recipient_view c.index-recipients-i.result))) same),
      iterations_most (sealed_with_view c.args.sealed c.loop-i.octets) no_work here,
      within_sum n here parts.0,
    )

pub add-requires-clause-unwraps : goal.add-requires-clause-unwraps
add-requires-clause-unwraps c =
    let keys = map key_view c.args.salted.now.keys.now in
    let same : map key_view c.loop-i.salted.keys.now ≡ keys = ap (λ b. map key_view b.now) c.loop-i.invariant.keys in
    let r = recipient_view c.index-recipients-i.result in
    omega (
      arith,
      ap (λ x. x.unwraps) (c.open_recipient-opened.ensures.work ∙ ap (λ ks. with_pairs (sealed_with_view c.args.sealed c.loop-i.octets) no_work (pairs_of limits.management ks (recipient_view c.index-recipients-i.result))) same),
      unwraps_most (sealed_with_view c.args.sealed c.loop-i.octets) no_work (pairs_of limits.management keys r),
      few_pairs keys r,
      length-map c.args.salted.now.keys.now key_view,
      c.requires.few_keys,
      c.requires.few,
      c.loop-i-test.true,
      c.loop-i.invariant.unwraps,
    )

pub add-requires-clause-openings : goal.add-requires-clause-openings
add-requires-clause-openings c =
    let keys = map key_view c.args.salted.now.keys.now in
    let same : map key_view c.loop-i.salted.keys.now ≡ keys = ap (λ b. map key_view b.now) c.loop-i.invariant.keys in
    let r = recipient_view c.index-recipients-i.result in
    omega (
      arith,
      ap (λ x. x.openings) (c.open_recipient-opened.ensures.work ∙ ap (λ ks. with_pairs (sealed_with_view c.args.sealed c.loop-i.octets) no_work (pairs_of limits.management ks (recipient_view c.index-recipients-i.result))) same),
      openings_most (sealed_with_view c.args.sealed c.loop-i.octets) no_work (pairs_of limits.management keys r),
      few_pairs keys r,
      length-map c.args.salted.now.keys.now key_view,
      c.requires.few_keys,
      c.requires.few,
      c.loop-i-test.true,
      c.loop-i.invariant.openings,
    )

pub returns-then-is_some-clause-opened : goal.returns-then-is_some-clause-opened
returns-then-is_some-clause-opened c =
    let s = sealed_with_view c.args.sealed c.args.octets.now in
    let keys = map key_view c.args.salted.now.keys.now in
    let same : map key_view c.loop-i.salted.keys.now ≡ keys = ap (λ b. map key_view b.now) c.loop-i.invariant.keys in
    let r = c.index-recipients-i.result in
    let here = pairs_of limits.management keys (recipient_view r) in
    decided_now s here _ _ _ (λ n. take n c.open_recipient-opened.new.octets) c.open_recipient-opened.result.0 (sym c.is_some.ensures ∙ c.if-is_some.true)
    ((c.open_recipient-opened.ensures.opened ∙ ap (λ ks. first_opened (sealed_with_view c.args.sealed c.loop-i.octets) (pairs_of limits.management ks (recipient_view c.index-recipients-i.result))) same) ∙ ap (λ l. first_opened (sealed_with_view c.args.sealed l) here) c.loop-i.invariant.octets)
    (one_recipient_first keys c.args.recipients.now c.loop-i.i r c.loop-i-test.true c.index-recipients-i.is) c.loop-i.invariant.opened

pub returns-then-is_some-clause-work : goal.returns-then-is_some-clause-work
returns-then-is_some-clause-work c =
    let s = sealed_with_view c.args.sealed c.args.octets.now in
    let keys = map key_view c.args.salted.now.keys.now in
    let same : map key_view c.loop-i.salted.keys.now ≡ keys = ap (λ b. map key_view b.now) c.loop-i.invariant.keys in
    let r = c.index-recipients-i.result in
    let here = pairs_of limits.management keys (recipient_view r) in
    let w = work_view c.loop-i.work in
    let done : work_view c.open_recipient-opened.result.1 ≡ with_pairs s no_work here =
    (c.open_recipient-opened.ensures.work ∙ ap (λ ks. with_pairs (sealed_with_view c.args.sealed c.loop-i.octets) no_work (pairs_of limits.management ks (recipient_view c.index-recipients-i.result))) same) ∙ ap (λ l. with_pairs (sealed_with_view c.args.sealed l) no_work here) c.loop-i.invariant.octets in
    c.add.ensures.sums ∙ ap (plus w) done
    ∙ work_now s here _ _ w _ (λ n. take n c.open_recipient-opened.new.octets) c.open_recipient-opened.result.0
    (sym c.is_some.ensures ∙ c.if-is_some.true)
    ((c.open_recipient-opened.ensures.opened ∙ ap (λ ks. first_opened (sealed_with_view c.args.sealed c.loop-i.octets) (pairs_of limits.management ks (recipient_view c.index-recipients-i.result))) same) ∙ ap (λ l. first_opened (sealed_with_view c.args.sealed l) here) c.loop-i.invariant.octets)
    (one_recipient_first keys c.args.recipients.now c.loop-i.i r c.loop-i-test.true c.index-recipients-i.is) c.loop-i.invariant.work

pub loop-i-preserved : goal.loop-i-preserved
loop-i-preserved c =
    let k = c.loop-i.invariant in
    let s = sealed_with_view c.args.sealed c.args.octets.now in
    let keys = map key_view c.args.salted.now.keys.now in
    let same : map key_view c.loop-i.salted.keys.now ≡ keys = ap (λ b. map key_view b.now) c.loop-i.invariant.keys in
    let recipients = c.args.recipients.now in
    let i = c.loop-i.i in
    let r = c.index-recipients-i.result in
    let n = c.loop-i.work.iterations in
    let w = work_view c.loop-i.work in
    let here = pairs_of limits.management keys (recipient_view r) in
    let rest = all_pairs limits.management keys (map recipient_view (drop (i + 1) recipients)) in
    let split = one_recipient_first keys recipients i r c.loop-i-test.true c.index-recipients-i.is in
    let parts = within_parts n here rest (sym (ap (within_after n) split) ∙ k.within) in
    let none : first_opened s here ≡ None =
    undecided s here (λ m. take m c.open_recipient-opened.new.octets) c.open_recipient-opened.result.0 (sym c.is_some.ensures ∙ c.if-is_some.false)
    ((c.open_recipient-opened.ensures.opened ∙ ap (λ ks. first_opened (sealed_with_view c.args.sealed c.loop-i.octets) (pairs_of limits.management ks (recipient_view c.index-recipients-i.result))) same) ∙ ap (λ l. first_opened (sealed_with_view c.args.sealed l) here) k.octets) in
    let done : work_view c.open_recipient-opened.result.1 ≡ with_pairs s no_work here =
    (c.open_recipient-opened.ensures.work ∙ ap (λ ks. with_pairs (sealed_with_view c.args.sealed c.loop-i.octets) no_work (pairs_of limits.management ks (recipient_view c.index-recipients-i.result))) same) ∙ ap (λ l. with_pairs (sealed_with_view c.args.sealed l) no_work here) k.octets in
    let now : work_view c.add.new.self ≡ with_pairs s w here = c.add.ensures.sums ∙ ap (plus w) done ∙ sym (from_none s w here) in
    let iterations = ap (λ x. x.iterations) now ∙ iterations_all s w here none in
    record {
      octets = grind (arith, common_steps);
      tried = tried_more s keys c.loop-i.tried recipients i c.open_recipient-opened.result.1 r c.loop-i-test.true
          (omega (arith, k.room, c.requires.few, c.loop-i-test.true)) c.index-recipients-i.is k.tried
          (record { none = none; counted = done });
      opened = sym (opened_later s here rest none) ∙ ap (first_opened s) (sym split) ∙ k.opened;
      work = ap (λ x. with_pairs s x rest) now ∙ sym (work_later s w here rest none) ∙ ap (with_pairs s w) (sym split) ∙ k.work;
      within = ap (λ m. within_after m rest) iterations ∙ parts.1;
      iterations = omega (arith, iterations, within_sum n here parts.0);
      unwraps = omega (
        arith,
        ap (λ x. x.unwraps) now,
        unwraps_most s w here,
        few_pairs keys (recipient_view r),
        length-map c.args.salted.now.keys.now key_view,
        c.requires.few_keys,
        k.unwraps,
      );
      openings = omega (
        arith,
        ap (λ x. x.openings) now,
        openings_most s w here,
        few_pairs keys (recipient_view r),
        length-map c.args.salted.now.keys.now key_view,
        c.requires.few_keys,
        k.openings,
      );
      keys = c.open_recipient-opened.ensures.keys ∙ k.keys;
      salted = c.open_recipient-opened.ensures.salted;
      room = grind (arith, common_steps);
    }
