use Rattle.std.proofs.Common.{◌+◌, ◌&&◌, not, drop, sym, ap, ◌∙◌}
use Rattle.tokens.specs.Signers.{are_distinct}
use Rattle.tokens.proofs.Verifying.Signers.{one_more}
use Rattle.tokens.proofs.verify.signers.are_distinct.Goals as goal

pub returns-then-is_among : goal.returns-then-is_among
returns-then-is_among c =
    let i = c.loop-i.i in
    let blocks = c.args.blocks.now in
    sym (sym c.loop-i.invariant ∙ one_more blocks i c.index-blocks-i.result c.is_among.result c.loop-i-test.true c.index-blocks-i.is c.is_among.ensures
    ∙ ap (λ t. not t && are_distinct (drop (i + 1) blocks)) c.if-is_among.true)

pub loop-i-preserved : goal.loop-i-preserved
loop-i-preserved c =
    let i = c.loop-i.i in
    let blocks = c.args.blocks.now in
    sym (one_more blocks i c.index-blocks-i.result c.is_among.result c.loop-i-test.true c.index-blocks-i.is c.is_among.ensures
    ∙ ap (λ t. not t && are_distinct (drop (i + 1) blocks)) c.if-is_among.false) ∙ c.loop-i.invariant
