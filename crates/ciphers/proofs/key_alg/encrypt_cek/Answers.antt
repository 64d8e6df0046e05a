use Rattle.std.proofs.Common.{[], ◌++◌, take, sym, ap, ◌∙◌, arith}
use Rattle.std.proofs.lemmas.List.{take_at}
use Rattle.ciphers.proofs.Deliveries.{none_encrypted}
use Rattle.ciphers.proofs.key_alg.encrypt_cek.Goals as goal

pub returns-clause-encrypted : goal.returns-clause-encrypted
returns-clause-encrypted g c =
    let e = g.B.Block.encrypted c.args.kek in
    take_at c.copy_from_slice.new.self _ c.in-Ok.len (omega (arith, c.copy_from_slice.ensures.len)) ∙ c.copy_from_slice.ensures.after
    ∙ sym (c.in-Ok.ensures.text e c.args.iv.now [] [] c.start-gcm.ensures ∙ ap (λ x. x ++ take c.in-Ok.len c.feed.new.out) (none_encrypted e c.args.iv.now))
