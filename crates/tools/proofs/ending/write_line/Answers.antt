use Rattle.std.proofs.Common.{[], ◌∷◌, ◌++◌, take, drop, ap, ◌∙◌, append_assoc}
use Rattle.jose.proofs.Lemmas.{cut_within, front_written}
use Rattle.tools.specs.Reports.{line_end, line_head, report_line}
use Rattle.tools.proofs.ending.write_line.Goals as goal

pub returns-in_err-write_whole-clause-part : goal.returns-in_err-write_whole-clause-part
returns-in_err-write_whole-clause-part g c =
    let written = g.O.Output.written in
    let n = c.in_err-write_whole.field-0.0.written in
    let head = line_head c.args.cause in
    let rest = line_end c.args.cause ++ 10 ∷ [] in
    front_written (report_line c.args.cause) (take n head) (drop n head ++ rest) (written c.args.out.now) (written c.write_whole.new.out)
    (cut_within [] head rest n)
    (c.in_err-write_whole.ensures.part.1 ∙ ap (λ l. written c.args.out.now ++ take n l) (c.as_bytes.ensures.value ∙ c.line_head.ensures))

pub returns-in_err-write_whole-2-clause-part : goal.returns-in_err-write_whole-2-clause-part
returns-in_err-write_whole-2-clause-part g c =
    let written = g.O.Output.written in
    let n = c.in_err-write_whole-2.field-0.0.written in
    let head = line_head c.args.cause in
    let end = line_end c.args.cause in
    front_written (report_line c.args.cause) (head ++ take n end) (drop n end ++ 10 ∷ []) (written c.args.out.now) (written c.write_whole-2.new.out)
    (cut_within head end (10 ∷ []) n)
    (c.in_err-write_whole-2.ensures.part.1 ∙ ap (λ l. l ++ take n c.as_bytes-2.result.now) c.in_ok-write_whole.ensures.all
    ∙ append_assoc (written c.args.out.now) c.as_bytes.result.now (take n c.as_bytes-2.result.now)
    ∙ ap (λ l. written c.args.out.now ++ (l ++ take n c.as_bytes-2.result.now)) (c.as_bytes.ensures.value ∙ c.line_head.ensures)
    ∙ ap (λ l. written c.args.out.now ++ (head ++ take n l)) (c.as_bytes-2.ensures.value ∙ c.line_end.ensures))
