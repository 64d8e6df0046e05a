use Rattle.std.proofs.Common.{◌≡◌, map, true}
use Rattle.std.specs.List.{list_all}
use Rattle.keys.specs.Json.{member_numbers_are_whole}
use Rattle.objects.specs.Jws.{decoded_part}
use Rattle.objects.specs.Texts.{each}
use Rattle.objects.specs.Code.Views.{signature_parts_view, decoded_signature_view}
use Rattle.objects.proofs.Each.{with_done}
use Rattle.objects.proofs.jws.build.decoded_parts.Given as goal

-- the signatures so far and those that are left are all signatures, and the headers of those that are left have whole numbers
abbrev pub invariant-loop-part : goal.invariant-loop-part
invariant-loop-part l =
    (each decoded_part (map signature_parts_view l.fn.parts.items)
    ≡ with_done decoded_part (map decoded_signature_view l.signatures.items) (map signature_parts_view l.part-iterator.rest.items))
    × (list_all (λ s. member_numbers_are_whole (signature_parts_view s).header) l.part-iterator.rest.items ≡ true)
