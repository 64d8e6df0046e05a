use Rattle.std.proofs.Common.{rules, codes}
use Rattle.serde_json.specs.View.{view}
use Rattle.octets.specs.Code.Results.{Agrees}
use Rattle.objects.specs.Jwe.{no_recipient_at, encoded_recipient}
use Rattle.objects.specs.Texts.{text_at}
use Rattle.tools.proofs.object_members.no_recipient_at.Goals as goal

pub returns-in_err-encrypted_key : goal.returns-in_err-encrypted_key
unfolding no_recipient_at encoded_recipient
returns-in_err-encrypted_key c =
    let h : Agrees (λ t. t.now) c.text_at.result (text_at (codes "encrypted_key") (view c.args.value.now)) = c.text_at.ensures.exact in
    search (rules, h)

pub returns-in_err-header : goal.returns-in_err-header
unfolding no_recipient_at encoded_recipient
returns-in_err-header c =
    let h : Agrees (λ t. t.now) c.text_at.result (text_at (codes "encrypted_key") (view c.args.value.now)) = c.text_at.ensures.exact in
    search (rules, h)

pub returns : goal.returns
unfolding no_recipient_at encoded_recipient
returns c =
    let h : Agrees (λ t. t.now) c.text_at.result (text_at (codes "encrypted_key") (view c.args.value.now)) = c.text_at.ensures.exact in
    search (rules, h)
