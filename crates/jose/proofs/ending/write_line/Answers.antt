use Rattle.std.proofs.Common.{[], ◌∷◌, ◌++◌, codes, take, drop, ap, ◌∙◌, append_assoc}
use Rattle.octets.specs.Refusals.{refusal_text}
use Rattle.jose.specs.Reports.{report_line}
use Rattle.jose.proofs.Lines.{front_written, cut_within}
use Rattle.jose.proofs.ending.write_line.Goals as goal

pub returns-in_err-write_whole-clause-part : goal.returns-in_err-write_whole-clause-part
returns-in_err-write_whole-clause-part g c =
    let written = g.O.Output.written in
    let n = c.in_err-write_whole.field-0.0.written in
    let name = codes "jose: " in
    let rest = refusal_text c.args.refusal ++ 10 ∷ [] in
    front_written (report_line c.args.refusal) (take n name) (drop n name ++ rest) (written c.args.out.now) (written c.write_whole.new.out)
    (cut_within [] name rest n) c.in_err-write_whole.ensures.part.1

pub returns-in_err-write_whole-2-clause-part : goal.returns-in_err-write_whole-2-clause-part
returns-in_err-write_whole-2-clause-part g c =
    let written = g.O.Output.written in
    let n = c.in_err-write_whole-2.field-0.0.written in
    let name = codes "jose: " in
    let text = refusal_text c.args.refusal in
    front_written (report_line c.args.refusal) (name ++ take n text) (drop n text ++ 10 ∷ []) (written c.args.out.now) (written c.write_whole-2.new.out)
    (cut_within name text (10 ∷ []) n)
    (c.in_err-write_whole-2.ensures.part.1 ∙ ap (λ l. l ++ take n c.as_bytes.result.now) c.in_ok-write_whole.ensures.all
    ∙ append_assoc (written c.args.out.now) name (take n c.as_bytes.result.now)
    ∙ ap (λ l. written c.args.out.now ++ (name ++ take n l)) (c.as_bytes.ensures.value ∙ c.text.ensures))
