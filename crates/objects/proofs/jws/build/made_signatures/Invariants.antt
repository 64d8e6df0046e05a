use Rattle.std.proofs.Common.{◌≡◌, ◌++◌, map, true}
use Rattle.std.specs.List.{list_all}
use Rattle.keys.specs.Json.{member_numbers_are_whole}
use Rattle.objects.specs.Code.Views.{made_signature_view, signature_view}
use Rattle.objects.proofs.jws.build.made_signatures.Given as goal

-- the signatures so far and those that are left are all signatures, and the headers of those that are left have whole numbers
abbrev pub invariant-loop-signature : goal.invariant-loop-signature
invariant-loop-signature l =
    (map signature_view l.signatures.items ++ map made_signature_view l.signature-iterator.rest.items ≡ map made_signature_view l.fn.made.items)
    × (list_all (λ m. member_numbers_are_whole (made_signature_view m).header) l.signature-iterator.rest.items ≡ true)
