use Rattle.std.proofs.Common.{rules, codes}
use Rattle.serde_json.specs.View.{view}
use Rattle.octets.specs.Code.Results.{Agrees}
use Rattle.objects.specs.Headers.{header_at}
use Rattle.objects.specs.Texts.{text_at}
use Rattle.objects.specs.Code.Views.{part_view}
use Rattle.tokens.specs.EncryptionTemplate.{template_texts}
use Rattle.tokens.proofs.encrypt.template.template_texts.Goals as goal

pub returns-in_err-unprotected-clause-exact : goal.returns-in_err-unprotected-clause-exact
unfolding template_texts
returns-in_err-unprotected-clause-exact c =
    let first : Agrees part_view c.header_at.result (header_at (codes "protected") (view c.args.value.now)) = c.header_at.ensures.exact in
    let second : Agrees part_view c.header_at-2.result (header_at (codes "unprotected") (view c.args.value.now)) = c.header_at-2.ensures.exact in
    search (rules, first, second)

pub returns-clause-exact : goal.returns-clause-exact
unfolding template_texts
returns-clause-exact c =
    let first : Agrees part_view c.header_at.result (header_at (codes "protected") (view c.args.value.now)) = c.header_at.ensures.exact in
    let second : Agrees part_view c.header_at-2.result (header_at (codes "unprotected") (view c.args.value.now)) = c.header_at-2.ensures.exact in
    let third : Agrees (λ t. t.now) c.text_at.result (text_at (codes "aad") (view c.args.value.now)) = c.text_at.ensures.exact in
    search (rules, first, second, third)
