use Rattle.std.proofs.Common.{rules, ◌-◌, ◌/◌, ◌%◌, length, take, sym, ap, subst, ◌∙◌, arith}
use Rattle.aes.specs.Block.{IsBlock}
use Rattle.modes.specs.Cbc.{cbc, pad}
use Rattle.modes.specs.Code.Opening.{opened_block, IsPadded}
use Rattle.modes.proofs.Opening.{length-cbc, last_is_padded, opens, opens_padded}
use Rattle.modes.proofs.cbc_opening.cbc_open.Goals as goal
use Rattle.modes.proofs.cbc_opening.cbc_open.Goals.{then-blocks-eq0-via-then-blocks-eq0, then-blocks-eq0-via-else-blocks-eq0+then-buf-ne0}

pub returns-then-blocks-eq0-clause-nothing : goal.returns-then-blocks-eq0-clause-nothing
returns-then-blocks-eq0-clause-nothing g c p small same =
    let law = g.met.B.Block.is_cipher c.args.cipher.now in
    let start : IsBlock c.args.iv.now = record { sixteen = c.told-iv; octets = λ i. search rules } in
    let len = sym (ap length same) ∙ length-cbc _ _ law c.args.iv.now start p small in
    elim c.then-blocks-eq0.branch [
      | then-blocks-eq0-via-then-blocks-eq0 w ↦ omega (arith, len, w.if-blocks-eq0.true)
      | then-blocks-eq0-via-else-blocks-eq0+then-buf-ne0 w ↦ w.if-buf-ne0.true (omega (arith, len))
    ]

pub returns-in_default-clause-nothing : goal.returns-in_default-clause-nothing
returns-in_default-clause-nothing g c p small same =
    let d = g.B.Block.decrypted c.args.cipher.now in
    let law = g.met.B.Block.is_cipher c.args.cipher.now in
    let start : IsBlock c.args.iv.now = record { sixteen = c.told-iv; octets = λ i. search rules } in
    c.in_default.ensures.nothing (16 - length p % 16)
    (subst (λ b. IsPadded b (16 - length p % 16))
    (ap (λ x. opened_block d c.args.iv.now x (length x / 16 - 1)) same ∙ sym c.open_block-last.ensures)
    (last_is_padded _ d law c.args.iv.now start p small))

pub returns-clause-opened : goal.returns-clause-opened
returns-clause-opened g c =
    let e = g.B.Block.encrypted c.args.cipher.now in
    let d = g.B.Block.decrypted c.args.cipher.now in
    let law = g.met.B.Block.is_cipher c.args.cipher.now in
    let start : IsBlock c.args.iv.now = record { sixteen = c.told-iv; octets = λ i. search rules } in
    let n = c.in-Some.padding in (
      omega (arith, c.open_blocks.auto.buf),
      ap (λ k. cbc e c.args.iv.now (take (k - n) c.open_blocks.new.buf)) c.open_blocks.auto.buf
          ∙ ap (λ x. cbc e c.args.iv.now (take (length c.args.buf.now - n) x)) c.open_blocks.ensures
          ∙ opens e d law c.args.iv.now start c.args.buf.now n (λ i. search rules) c.if-blocks-eq0.false (omega (arith, c.if-buf-ne0.false))
          (subst (λ b. IsPadded b n) c.open_block-last.ensures c.in-Some.ensures.padding),
    )

pub returns-clause-rest : goal.returns-clause-rest
returns-clause-rest g c =
    let e = g.B.Block.encrypted c.args.cipher.now in
    let d = g.B.Block.decrypted c.args.cipher.now in
    let law = g.met.B.Block.is_cipher c.args.cipher.now in
    let start : IsBlock c.args.iv.now = record { sixteen = c.told-iv; octets = λ i. search rules } in
    let n = c.in-Some.padding in
    c.open_blocks.ensures
    ∙ opens_padded e d law c.args.iv.now start c.args.buf.now n (λ i. search rules) c.if-blocks-eq0.false (omega (arith, c.if-buf-ne0.false))
    (subst (λ b. IsPadded b n) c.open_block-last.ensures c.in-Some.ensures.padding)
    ∙ ap (λ x. pad (take (length c.args.buf.now - n) x)) (sym c.open_blocks.ensures)
    ∙ ap (λ k. pad (take (k - n) c.open_blocks.new.buf)) (sym c.open_blocks.auto.buf)
