use Rattle.std.proofs.Common.{◌++◌, ap, sym, ◌∙◌}
use Rattle.octets.specs.Base64url.{base64url, whole_groups}
use Rattle.octets.proofs.Groups.{base64url_whole_part}
use Rattle.octets.proofs.writer.B64Writer.finish.Goals as goal

pub returns-clause-text : goal.returns-clause-text
returns-clause-text c fed waits =
    base64url_whole_part fed ∙ ap (λ text. base64url (whole_groups fed) ++ text) (sym (c.encode_onto.ensures.text ∙ ap base64url (c.self.view_is ∙ waits)))
