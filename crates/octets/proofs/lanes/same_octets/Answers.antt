use Rattle.std.proofs.Common.{◌≡◌, ◌*◌, ◌+◌, ◌/◌, ℕ, List, [], length, get_or, sym, ap, ◌∙◌, arith}
use Rattle.std.specs.Prelude.{◌↔◌}
use Rattle.std.specs.Simd.Lanes.{chunk}
use Rattle.octets.proofs.Differences.{block_more, octet_more}
use Rattle.octets.proofs.Sums.{chunk_at}
use Rattle.octets.proofs.lanes.same_octets.Goals as goal

blocks_are : (e : ℕ) (p q x y : List ℕ) → (e ≡ 0) ↔ (p ≡ q) → p ≡ x → q ≡ y → (e ≡ 0) ↔ (x ≡ y)
blocks_are e p q x y h ex ey = (λ z. sym ex ∙ h.0 z ∙ ey, λ z. h.1 (ex ∙ z ∙ sym ey))

pub loop-i-preserved : goal.loop-i-preserved
loop-i-preserved c =
    let a = c.args.a.now in
    let b = c.args.b.now in
    let i = c.loop-i.i in
    let same : length a ≡ length b = omega arith in
    let first : get_or c.as_chunks.result.0.now i [] ≡ chunk (32 * i) 32 a =
    ap (λ (l : List (List ℕ)). get_or l i []) c.as_chunks.ensures.front ∙ chunk_at 32 (length a / 32) i a [] (omega (arith, c.as_chunks.ensures.front_len)) in
    let second : get_or c.as_chunks-2.result.0.now i [] ≡ chunk (32 * i) 32 b =
    ap (λ (l : List (List ℕ)). get_or l i []) c.as_chunks-2.ensures.front ∙ chunk_at 32 (length b / 32) i b [] (omega (arith, c.as_chunks.ensures.front_len)) in
    block_more c.loop-i.difference c.block_difference-difference.result a b 32 (32 * i) (32 * (i + 1)) same (omega arith)
    (omega (arith, c.as_chunks.ensures.front_len)) c.loop-i.invariant
    (blocks_are c.block_difference-difference.result _ _ _ _ c.block_difference-difference.ensures first second)

pub loop-i-2-preserved : goal.loop-i-2-preserved
loop-i-2-preserved c = octet_more c.loop-i-2.difference c.args.a.now c.args.b.now c.loop-i-2.i (omega arith) (omega arith) c.loop-i-2.invariant
