use Rattle.std.proofs.Common.{◌∙◌, length}
use Rattle.prf.proofs.Iterates.{key_of_one_block}
use Rattle.prf.proofs.key_derivation.pbkdf2_after.Goals as goal

pub returns-clause-key : goal.returns-clause-key
returns-clause-key g c salt first =
    let f = g.H.Hash.function in
    c.copy_from_slice-2.ensures.after
    ∙ key_of_one_block f c.args.password.now salt c.args.count (length c.args.out.now) c.add_iterates.new.block c.requires.fits
    (c.add_iterates.ensures c.args.password.now salt 1 c.new.ensures (c.copy_from_slice.ensures.after ∙ first))
