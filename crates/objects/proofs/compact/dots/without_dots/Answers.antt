use Rattle.std.proofs.Common.{◌≡◌, ◌*◌, ◌/◌, ◌≤◌, not, [], length, get_or, sym, ap, ◌∙◌, subst, arith}
use Rattle.std.proofs.lemmas.Bool.{ltb-false}
use Rattle.std.specs.List.{position_or_len}
use Rattle.std.specs.Simd.Lanes.{chunk}
use Rattle.octets.proofs.Lemmas.{chunk_at}
use Rattle.objects.specs.Texts.{is_dot}
use Rattle.objects.proofs.FirstDots.{block_passed}
use Rattle.objects.proofs.compact.dots.without_dots.Goals as goal

pub loop-i-preserved : goal.loop-i-preserved
loop-i-preserved c =
    let text = c.args.text.now in
    let i = c.loop-i.i in
    let block : get_or c.as_chunks.result.0.now i [] ≡ chunk (32 * i) 32 text =
    ap (λ l. get_or l i []) c.as_chunks.ensures.front ∙ chunk_at 32 (length text / 32) i text []
    (omega (arith, c.as_chunks.ensures.front_len, c.loop-i-test.true)) in
    let none : 32 ≤ position_or_len is_dot (get_or c.as_chunks.result.0.now i []) = ltb-false _ 32 (sym c.has_dot.ensures ∙ c.if-has_dot.false) in
    let more = block_passed (λ x. not (is_dot x)) text (32 * i) 32 c.loop-i.invariant (subst (λ b. 32 ≤ position_or_len is_dot b) block none) in
    omega (arith, more)
