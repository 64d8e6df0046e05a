use Rattle.std.proofs.Common.{rules, ◌≡◌, length, take, Err, ap, sym, ◌∙◌, arith}
use Rattle.std.proofs.lemmas.List.{length-take}
use Rattle.octets.specs.Base64url.{decoded}
use Rattle.octets.specs.Code.Streams.{settling}
use Rattle.octets.specs.LineEnds.{without_line_end}
use Rattle.octets.proofs.Agreement.{of_refusal}
use Rattle.octets.proofs.Decoding.{short_kept, last_decoded, last_refused}
use Rattle.octets.proofs.reader.B64ReaderTransform.finish.Goals as goal

pub decode_onto-requires : goal.decode_onto-requires
decode_onto-requires c =
    let waiting = take c.self.inside.count c.self.inside.waiting in
    omega (arith, short_kept waiting, length-take c.self.inside.count c.self.inside.waiting, c.self.invariant, ap length c.without_line_end.ensures)

pub returns-in_err-len-clause-refused : goal.returns-in_err-len-clause-refused
returns-in_err-len-clause-refused c job p fed octets =
    let refused = c.in_err-len.ensures.refused in
    let waits = c.self.view_is ∙ fed.0 in
    of_refusal (λ e. settling.whole p ≡ Err e) c.from_residual.result _ (search rules ∙ ap Err refused.0)
    (last_refused p octets (ap (λ l. decoded (without_line_end l)) (sym waits) ∙ ap decoded (sym c.without_line_end.ensures) ∙ refused.1))

pub returns-clause-text : goal.returns-clause-text
returns-clause-text c job p fed octets =
    let waits = c.self.view_is ∙ fed.0 in
    last_decoded p _ _ octets fed.1 (ap (λ l. decoded (without_line_end l)) (sym waits) ∙ ap decoded (sym c.without_line_end.ensures)
    ∙ c.in_ok-len.ensures.octets)
