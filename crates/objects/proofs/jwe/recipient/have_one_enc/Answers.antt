use Rattle.std.proofs.Common.{List, ℕ, ap, sym, ◌∙◌}
use Rattle.std.specs.List.{list_all}
use Rattle.std.specs.Str.{bytes_eq}
use Rattle.objects.specs.Code.Views.{recipient_view}
use Rattle.objects.specs.declared.jwe.recipient.Recipient.{Recipient}
use Rattle.objects.proofs.Recipients.{one_enc}
use Rattle.objects.proofs.jwe.recipient.have_one_enc.Goals as goal

pub returns-in-len1-up : goal.returns-in-len1-up
returns-in-len1-up c =
    let all = λ (enc : List ℕ). list_all (λ (r : Recipient). bytes_eq (recipient_view r).enc enc) c.args.recipients.now in
    c.have_enc.ensures ∙ ap all c.enc.ensures ∙ sym (one_enc c.args.recipients.now c.first-item.result c.in-len1-up.len_at_least c.first-item.is)
