-- A signed object that is the one of its own members.
use Rattle.std.proofs.Common.{◌≡◌, ◌≤◌, List, length, map, true, nat_le, ap, sym, ◌∙◌, subst, arith}
use Rattle.std.proofs.lemmas.Bool.{leb-true}
use Rattle.std.proofs.lemmas.List.{length-map}
use Rattle.std.proofs.lemmas.List.Folds.{list_all-map}
use Rattle.std.specs.List.{list_all}
use Rattle.octets.specs.declared.refusal.Refusal.TheVariants.{Form, Json, Limit, Number}
use Rattle.octets.specs.Outcomes.{needs}
use Rattle.octets.proofs.Lemmas.{steps, passed}
use Rattle.keys.specs.Json.{member_numbers_are_whole}
use Rattle.keys.specs.Limits.{limits, are_few}
use Rattle.objects.specs.Jws.{Signature, SignedObject, JwsParts, signature_parts_of, parts_of, nest_at_most, have_whole_numbers, built}
use Rattle.objects.specs.Code.Making.{IsBuilt}
use Rattle.objects.specs.Texts.{depth_of_each}

record Stands (o : SignedObject) : Type 0 where
  pub whole : list_all (λ p. member_numbers_are_whole p.header) (map signature_parts_of o.signatures) ≡ true
  pub few : are_few limits (length (map signature_parts_of o.signatures)) ≡ true

stands : (o : SignedObject) → IsBuilt limits o → Stands o
unfolding built
stands o h =
    let parts : JwsParts = parts_of o in
    let shallow = steps (needs (nest_at_most (depth_of_each (length parts.signatures)) parts.signatures) Json) _ o h in
    let whole = steps (needs (have_whole_numbers parts.signatures) Number) _ o shallow.2 in
    let some = steps (needs (nat_le 1 (length parts.signatures)) Form) _ o whole.2 in
    let few = steps (needs (are_few limits (length parts.signatures)) Limit) _ o some.2 in
    record { whole = passed _ Number whole.0 whole.1; few = passed _ Limit few.0 few.1 }

-- The numbers of its unprotected headers are whole, and it has not too many signatures.
pub has_whole_numbers : {A : Type 0} (o : SignedObject) (view : A → Signature) (items : List A) → o.signatures ≡ map view items → IsBuilt limits o
    → list_all (λ x. member_numbers_are_whole (view x).header) items ≡ true
has_whole_numbers o view items are h =
    let test : Signature → _ = λ s. member_numbers_are_whole s.header in
    sym (list_all-map test view items) ∙ ap (list_all test) (sym are) ∙ sym (list_all-map (λ p. member_numbers_are_whole p.header) signature_parts_of o.signatures)
    ∙ (stands o h).whole

pub has_few : {A : Type 0} (o : SignedObject) (view : A → Signature) (items : List A) → o.signatures ≡ map view items → IsBuilt limits o
    → length items ≤ limits.recipients
has_few o view items are h =
    let few = leb-true (length (map signature_parts_of o.signatures)) limits.recipients (stands o h).few in
    let long : length o.signatures ≡ length items = ap length are ∙ length-map items view in
    omega (arith, few, long, length-map o.signatures signature_parts_of)
