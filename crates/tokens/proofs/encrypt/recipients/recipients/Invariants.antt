use Rattle.std.proofs.Common.{◌≡◌, ℕ, List, ◌++◌, map}
use Rattle.objects.specs.Code.Views.{made_recipient_view}
use Rattle.tokens.specs.Code.SealedTexts.{made_recipient}
use Rattle.tokens.specs.Code.Views.{given_view, delivery_view}
use Rattle.tokens.proofs.encrypt.recipients.recipients.Given as goal

-- the recipients so far and those of the deliveries that are left are all recipients
abbrev pub invariant-loop-delivery : goal.invariant-loop-delivery
invariant-loop-delivery l =
    (enc : List ℕ) → (let by = made_recipient (given_view l.given) l.alone enc in
    map (made_recipient_view enc) l.list.items ++ map by (map delivery_view l.delivery-iterator.rest.items)
    ≡ map by (map delivery_view l.fn.deliveries.items))
