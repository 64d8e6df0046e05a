use Rattle.std.proofs.Common.{rules, ◌≡◌, ℕ, ◌+◌, ◌-◌, ◌*◌, ◌≤◌, length, refl, ap, ◌∙◌, arith}
use Rattle.octets.proofs.Lemmas.{chunk_more}
use Rattle.modes.specs.Cbc.{block}
use Rattle.modes.specs.Ctr.{counter_block}
use Rattle.modes.proofs.Counting.{counter_block-add}
use Rattle.modes.proofs.ctr.KeyStream.write_counters.Goals as goal

pub loop-i-init : goal.loop-i-init
loop-i-init c = record {
  counter = λ f n h is. is ∙ ap (counter_block f) (let d : n ≡ n + (c.args.first - c.args.first) = omega arith in d);
  blocks = λ f n h is j low high. absurd (omega (arith, low, high));
  used = refl;
}

pub loop-i-preserved : goal.loop-i-preserved
loop-i-preserved c =
    let i = c.loop-i.i in
    let a = c.args.first in
    let x = c.copy_from_slice.new.self in
    let one_block : 16 * i + 16 - 16 * i ≡ 16 = omega arith in
    let wide : length c.loop-i.self.blocks ≡ 256 = search rules in
    let room : 16 * i + 16 ≤ length c.loop-i.self.blocks = omega (arith, wide, c.loop-i-test.true) in
    let long : length x ≡ 16 = c.copy_from_slice.auto.self ∙ omega (arith, wide, c.loop-i-test.true) in
    record {
      counter = λ f n h is.
          c.count_up.ensures.counter
          ∙ ap (λ d. counter_block d 1) (c.loop-i.invariant.counter f n h is)
          ∙ counter_block-add f h (n + (i - a)) 1
          ∙ ap (counter_block f) (let d : n + (i - a) + 1 ≡ n + (i + 1 - a) = omega (arith, c.loop-i.auto.i) in d);
      blocks = λ f n h is j low high.
          let is_block = c.copy_from_slice.ensures.after ∙ c.loop-i.invariant.counter f n h is in
          ap (λ b. block b j) c.count_up.ensures.blocks
          ∙ chunk_more 16 c.loop-i.self.blocks x i (16 * i + 16 - 16 * i) one_block room long (λ (k : ℕ). counter_block f (n + (k - a))) is_block j
          (λ ne. c.loop-i.invariant.blocks f n h is j low (omega (arith, ne, high)));
      used = c.count_up.ensures.used ∙ c.loop-i.invariant.used;
    }
