use Rattle.std.proofs.Common.{refl, sym, ap, ◌∙◌, arith}
use Rattle.std.proofs.lemmas.List.{take_at, drop_at}
use Rattle.ciphers.proofs.sealer.GcmSealer.finish.Goals as goal

pub returns-clause-tag : goal.returns-clause-tag
returns-clause-tag g c s p k =
    ap (λ t. (t.sealed p).tag) k.is_sealing
    ∙ sym (take_at c.copy_from_slice.new.self _ 16 (omega (arith, c.copy_from_slice.ensures.len)) ∙ c.copy_from_slice.ensures.after
    ∙ c.finish.ensures k.e k.iv k.aad p k.gcm)

pub returns-clause-rest : goal.returns-clause-rest
returns-clause-rest g c = (refl, drop_at c.copy_from_slice.new.self _ 16 (omega (arith, c.copy_from_slice.ensures.len)))
