use Rattle.std.proofs.Common.{◌≡◌, ◌+◌, ◌-◌, ◌*◌, ◌/◌, ◌<◌, ◌≤◌, ◌++◌, length, drop, refl, sym, ap, ap₂, ◌∙◌, arith, ⊎_elim, length-append, length-drop}
use Rattle.std.proofs.lemmas.Bool.{cases_lt, cases_eq}
use Rattle.std.proofs.lemmas.List.{take_all}
use Rattle.octets.specs.Octets.{xor_octets}
use Rattle.octets.proofs.Lemmas.{chunks_joined}
use Rattle.modes.specs.Cbc.{block}
use Rattle.modes.specs.Code.Opening.{opened_block, opened_blocks}
use Rattle.modes.proofs.Groups.{length-within, block_written, block_behind}
use Rattle.modes.proofs.Opening.{opened_later, opened_same}
use Rattle.modes.proofs.cbc_opening.open_blocks.Goals as goal

pub loop-end-preserved : goal.loop-end-preserved
loop-end-preserved g c =
    let d = g.B.Block.decrypted c.args.cipher.now in
    let first = c.max-first.result in
    let some : 0 < first = omega (arith, c.max-first.ensures) in
    let less : first ≤ c.loop-end.end = omega (arith, c.max-first.ensures, c.saturating_sub.ensures, c.loop-end-test.true) in
    record {
      some = some;
      within = omega (arith, less, c.loop-end.invariant.within);
      before = λ i l. c.open_later_blocks.ensures.before i l ∙ c.loop-end.invariant.before i (omega (arith, l, less));
      opened = λ i low high. ⊎_elim
          (λ (l : i < c.loop-end.end).
          c.open_later_blocks.ensures.opened i low l
          ∙ ap₂ (λ a b. xor_octets (d a) b) (c.loop-end.invariant.before i l) (c.loop-end.invariant.before (i - 1) (omega (arith, l)))
          ∙ opened_later d c.args.iv.now c.args.buf.now i (omega (arith, some, low)))
          (λ l. c.open_later_blocks.ensures.behind i l ∙ c.loop-end.invariant.opened i l high)
          (cases_lt i c.loop-end.end);
    }

pub returns : goal.returns
unfolding opened_blocks
returns g c =
    let d = g.B.Block.decrypted c.args.cipher.now in
    let f = opened_block d c.args.iv.now c.args.buf.now in
    let b = c.loop-end.buf in
    let x = c.copy_from_slice.new.self in
    let one : c.loop-end.end ≡ 1 = omega (arith, c.loop-end.invariant.some, c.loop-end-test.false) in
    let wide : 16 ≤ length b = omega (arith, c.loop-end.auto.buf, c.requires) in
    let long : length x ≡ 16 = c.copy_from_slice.auto.self ∙ length-within b 0 16 wide in
    let r = x ++ drop 16 b in
    let all : length r ≡ 16 * (length c.args.buf.now / 16) =
    omega (arith, length-append x (drop 16 b), long, wide, length-drop 16 b, c.loop-end.auto.buf, c.requires) in
    let first : block r 0 ≡ f 0 =
    block_written b x 0 16 0 refl long wide 0 (omega arith)
    ∙ take_all 16 x (omega (arith, long))
    ∙ c.copy_from_slice.ensures.after
    ∙ c.open_block-block.ensures
    ∙ opened_same d c.args.iv.now b c.args.buf.now 0 (λ j l. c.loop-end.invariant.before j (omega (arith, l, one))) in
    sym (chunks_joined 16 f (length c.args.buf.now / 16) 0 r all (λ i l. ⊎_elim
    (λ (e : i ≡ 0). ap (block r) e ∙ first ∙ ap f (let z : 0 ≡ 0 + i = omega (arith, e) in z))
    (λ ne.
    block_behind b x 0 16 0 refl long wide i (omega (arith, ne))
    ∙ c.loop-end.invariant.opened i (omega (arith, ne, one)) l
    ∙ ap f (let z : i ≡ 0 + i = omega arith in z))
    (cases_eq i 0)))
