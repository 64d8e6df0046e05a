use Rattle.std.proofs.Common.{◌≡◌, ℕ, ◌+◌, ◌*◌, List, [], slice_index_or, ap, ◌∙◌, arith}
use Rattle.aes.specs.Code.Blocks.{block}
use Rattle.aes.proofs.Blockwise.{one_more}
use Rattle.aes.proofs.block.Block.encrypt_blocks.Goals as goal

pub loop-n-preserved : goal.loop-n-preserved
loop-n-preserved g c =
    let f = g.Self.Block.encrypted c.args.self.now in
    let p = c.args.blocks.now in
    let i = 4 * c.loop-n.n in
    let d = c.loop-n.invariant in
    let made : (k : ℕ) (b : List ℕ) → b ≡ block c.loop-n.blocks (i + k) → f b ≡ f (block p (i + k)) = λ k b e. ap f (e ∙ d.rest (i + k) (omega arith)) in
    let made_0 : slice_index_or c.encrypt_4.result 0 [] ≡ f (block p i) = ap (λ l. slice_index_or l 0 []) c.encrypt_4.ensures ∙ ap f (c.block_at.ensures ∙ d.rest i (omega arith)) in
    let a = one_more f p _ _ _ i (i + 1) d made_0 c.put_block.ensures.there c.put_block.ensures.others (omega arith) in
    let b = one_more f p _ _ _ (i + 1) (i + 2) a (ap (λ l. slice_index_or l 1 []) c.encrypt_4.ensures ∙ made 1 _ c.block_at-in-loop-n.ensures)
    c.put_block-in-loop-n.ensures.there c.put_block-in-loop-n.ensures.others (omega arith) in
    let e = one_more f p _ _ _ (i + 2) (i + 3) b (ap (λ l. slice_index_or l 2 []) c.encrypt_4.ensures ∙ made 2 _ c.block_at-in-loop-n-2.ensures)
    c.put_block-in-loop-n-2.ensures.there c.put_block-in-loop-n-2.ensures.others (omega arith) in
    one_more f p _ _ _ (i + 3) (4 * (c.loop-n.n + 1)) e (ap (λ l. slice_index_or l 3 []) c.encrypt_4.ensures ∙ made 3 _ c.block_at-in-loop-n-3.ensures)
    c.put_block-in-loop-n-3.ensures.there c.put_block-in-loop-n-3.ensures.others (omega arith)
