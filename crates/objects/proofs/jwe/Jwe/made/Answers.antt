use Rattle.std.proofs.Common.{◌≡◌, ◌≤◌, true, length, refl, sym, ◌∙◌, subst, arith}
use Rattle.std.specs.List.{list_all}
use Rattle.ciphers.specs.Algorithms.{encryption_name}
use Rattle.keys.specs.Limits.{limits}
use Rattle.objects.specs.Code.JweMaking.{is_as_read}
use Rattle.objects.specs.Code.Views.{made_jwe_view, made_recipient_view}
use Rattle.objects.proofs.BuiltJwe.{has_whole_numbers, are_as_read, has_few}
use Rattle.objects.proofs.jwe.Jwe.made.Goals as goal

pub made_recipients-requires : goal.made_recipients-requires
made_recipients-requires c =
    let made = c.args.made in
    let named : c.in_ok-enc.enc ≡ encryption_name made.enc = c.in_ok-enc.ensures.text ∙ c.name.ensures.name in
    subst (λ enc. list_all (λ m. is_as_read (made_recipient_view enc m)) made.recipients.items ≡ true) (sym named)
    (are_as_read (made_jwe_view made) (made_recipient_view (encryption_name made.enc)) made.recipients.items refl c.requires)

pub with_whole_numbers-requires : goal.with_whole_numbers-requires
with_whole_numbers-requires c = has_whole_numbers (made_jwe_view c.args.made) c.requires

pub invariant_of-result : goal.invariant_of-result
invariant_of-result c =
    let made = c.args.made in
    let few : length made.recipients.items ≤ limits.recipients =
    has_few (made_jwe_view made) (made_recipient_view (encryption_name made.enc)) made.recipients.items refl c.requires in
    record { few = omega (arith, few, c.in_ok-recipients.ensures.as_many) }
