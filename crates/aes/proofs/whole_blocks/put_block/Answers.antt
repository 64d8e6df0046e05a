use Rattle.std.proofs.Common.{◌≡◌, ◌+◌, ◌-◌, ◌*◌, length, ◌∙◌, arith}
use Rattle.aes.proofs.Parts.{block_written, block_kept}
use Rattle.aes.proofs.whole_blocks.put_block.Goals as goal

pub returns-clause-there : goal.returns-clause-there
returns-clause-there c =
    let r = c.args.blocks.now in
    let i = c.args.i in
    let sixteen : 16 * i + 16 - 16 * i ≡ 16 = omega arith in
    let long : length c.copy_from_slice.new.self ≡ 16 * i + 16 - 16 * i = c.copy_from_slice.auto.self ∙ omega (arith, c.requires) in
    block_written r c.copy_from_slice.new.self i (16 * i + 16 - 16 * i) sixteen long (omega (arith, c.requires)) ∙ c.copy_from_slice.ensures.after

pub returns-clause-others : goal.returns-clause-others
returns-clause-others c j ne =
    let r = c.args.blocks.now in
    let i = c.args.i in
    let sixteen : 16 * i + 16 - 16 * i ≡ 16 = omega arith in
    let long : length c.copy_from_slice.new.self ≡ 16 * i + 16 - 16 * i = c.copy_from_slice.auto.self ∙ omega (arith, c.requires) in
    block_kept r c.copy_from_slice.new.self i (16 * i + 16 - 16 * i) sixteen long (omega (arith, c.requires)) j ne
