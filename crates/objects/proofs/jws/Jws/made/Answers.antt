use Rattle.std.proofs.Common.{◌≤◌, length, map, refl, sym, subst, arith}
use Rattle.keys.specs.Limits.{limits}
use Rattle.objects.specs.Code.Making.{made_object}
use Rattle.objects.specs.Code.Views.{made_signature_view}
use Rattle.objects.proofs.BuiltJws.{has_whole_numbers, has_few}
use Rattle.objects.proofs.jws.Jws.made.Goals as goal

pub made_signatures-requires : goal.made_signatures-requires
made_signatures-requires c =
    has_whole_numbers (made_object c.args.payload.items (map made_signature_view c.args.signatures.items)) made_signature_view c.args.signatures.items refl
    c.requires

pub invariant_of-result : goal.invariant_of-result
invariant_of-result c =
    let few : length c.args.signatures.items ≤ limits.recipients =
    has_few (made_object c.args.payload.items (map made_signature_view c.args.signatures.items)) made_signature_view c.args.signatures.items refl
    c.requires in
    record { few = omega (arith, few, c.in_ok-signatures.ensures.as_many) }
