use Rattle.std.proofs.Common.{◌++◌, sym, ap, ◌∙◌, arith}
use Rattle.std.proofs.lemmas.List.{take_all, drop_all}
use Rattle.ciphers.proofs.cbc_hmac.CbcHmacSealer.finish.Goals as goal

pub returns-clause-ciphertext : goal.returns-clause-ciphertext
returns-clause-ciphertext g c s p fed =
    ap (λ t. (t.sealed p).ciphertext) fed.is_sealing
    ∙ c.finish.ensures fed.e fed.iv p fed.cbc
    ∙ ap (λ t. t.fixed p ++ c.finish.new.out) (sym fed.is_sealing)
    ∙ ap (λ x. s.fixed p ++ x) (sym (take_all 16 c.finish.new.out (omega (arith, c.finish.array_long))))

-- No octets follow the last block, so they are unchanged.
pub returns-clause-rest : goal.returns-clause-rest
returns-clause-rest g c = (
  drop_all 16 c.finish.new.out (omega (arith, c.finish.array_long)) ∙ sym (drop_all 16 c.args.last.now (omega (arith, c.fits-last))),
  c.finish-2.ensures.rest,
)
