-- Building a signed object of members has the same result as reading their JSON text: the same object, or the same refusal.
use Rattle.std.proofs.Common.{◌≡◌, ◌≤◌, ℕ, List, [], ◌∷◌, length, map, Bool, true, false, nat_le, Option, Err, refl, sym, ap, ◌∙◌, subst, true≢false, arith}
use Rattle.std.proofs.lemmas.Bool.{le-leb}
use Rattle.std.proofs.lemmas.List.{length-map}
use Rattle.std.specs.List.{AllByRecursion}
use Rattle.serde_json.specs.Data.{Members, object, depth}
use Rattle.octets.specs.declared.refusal.Refusal.TheVariants.{Json, Form}
use Rattle.octets.specs.Outcomes.{◌>>=◌, needs}
use Rattle.keys.specs.Json.{json_value}
use Rattle.keys.specs.Limits.{Limits}
use Rattle.keys.proofs.Lemmas.{numbers_whole}
use Rattle.objects.specs.Jws.{JwsParts, SignatureParts, encoded_in_json, encoded_in_compact, encoded_jws, decoded_object, jws_of, nest_at_most, have_whole_numbers, built, AreMembers, BuildingIsReading, JsonTextsAreCompact}
use Rattle.objects.specs.Texts.{handed_in, depth_of_each}
use Rattle.objects.proofs.Building.{none_there, Builds, building, read_as_written}
use Rattle.objects.proofs.DetachedContent.{handed_octets}
use Rattle.objects.proofs.EachRead.{all_pass, images_pass}
use Rattle.objects.proofs.JwsWritten.{members_are_written}
use Rattle.objects.proofs.MadeJws.{IsSignature, json_are}
use Rattle.objects.proofs.Members.{put_all}
use Rattle.objects.proofs.ReadJson.{IsShallow}
use Rattle.objects.proofs.Spelling.{object_value}
use Rattle.objects.proofs.SpellingJws.{entries, texts_read, no_texts_read, signature_spelled, parts_spelled, decoding, decoding_is, members_json, object_json}

-- the members of the JSON text
abbrev members_of : Bool → JwsParts → Members
members_of detach parts = put_all (entries detach (parts_spelled parts))

-- If there are signatures, their texts are there.
some_texts : (parts : JwsParts) → nat_le 1 (length parts.signatures) ≡ true → nat_le 1 (length (parts_spelled parts).signatures) ≡ true
some_texts parts some = ap (nat_le 1) (length-map parts.signatures signature_spelled) ∙ some

built_shallow : (limits : Limits) (parts : JwsParts) → AreMembers parts → nest_at_most (depth_of_each (length parts.signatures)) parts.signatures ≡ true
    → built limits parts ≡ (needs (nat_le 1 (length parts.signatures)) Form >>= λ some. decoding limits parts)
unfolding built
built_shallow limits parts members shallow =
    let whole : have_whole_numbers parts.signatures ≡ true =
    all_pass _ _ (λ s is. numbers_whole (object s.header) is.1.0) parts.signatures members.signatures in
    rw (shallow, whole) refl

built_deep : (limits : Limits) (parts : JwsParts) → nest_at_most (depth_of_each (length parts.signatures)) parts.signatures ≡ false
    → built limits parts ≡ Err Json
unfolding built
built_deep limits parts deep = rw deep refl

-- If the whole value nests at most as deep as a text may, no header is too deep.
shallow_nest : (parts : JwsParts) → AreMembers parts → (detach : Bool) → depth (object (members_of detach parts)) ≤ 127 → (ss : List SignatureParts)
    → parts.signatures ≡ ss
    → nest_at_most (depth_of_each (length parts.signatures)) parts.signatures ≡ true
shallow_nest parts members detach h [] is = ap (λ l. nest_at_most (depth_of_each (length l)) l) is
shallow_nest parts members detach h (s ∷ ss) is =
    let t : JwsParts = parts_spelled parts in
    let value : IsShallow 127 (object (members_of detach parts)) = record { json = object_json parts members detach; shallow = h } in
    let some : nat_le 1 (length parts.signatures) ≡ true = ap (λ l. nat_le 1 (length l)) is ∙ le-leb 1 (length (s ∷ ss)) (omega arith) in
    let are = json_are (handed_in detach parts.payload) (handed_octets detach parts.payload members.payload) _ t value
    (texts_read detach parts.payload t refl (some_texts parts some)) in
    let n : ℕ = depth_of_each (length parts.signatures) in
    let all : AllByRecursion (IsSignature n) t.signatures =
    subst (λ k. AllByRecursion (IsSignature (depth_of_each k)) t.signatures) (length-map parts.signatures signature_spelled) are.signatures in
    images_pass (IsSignature n) signature_spelled _ (λ p is. le-leb _ n is.header.shallow) parts.signatures all

builds : (limits : Limits) (parts : JwsParts) → AreMembers parts → (detach : Bool)
    → Builds (encoded_in_json (handed_in detach parts.payload)) (decoded_object limits) (built limits parts) (decoding limits parts)
    (members_of detach parts) (nest_at_most (depth_of_each (length parts.signatures)) parts.signatures) (nat_le 1 (length parts.signatures))
builds limits parts members detach =
    let t : JwsParts = parts_spelled parts in record {
      built_shallow = built_shallow limits parts members;
      value = λ shallow. object_value (entries detach t) (members_json parts members shallow detach);
      read_some = λ some. ap (λ r. r >>= decoded_object limits) (texts_read detach parts.payload t refl (some_texts parts some))
          ∙ decoding_is limits parts members;
      read_none = λ none. no_texts_read detach parts.payload t refl (ap (map signature_spelled) (none_there parts.signatures none));
      built_deep = built_deep limits parts;
      nests = λ h. shallow_nest parts members detach h parts.signatures refl;
      json = object_json parts members detach;
    }

pub building_is_reading : BuildingIsReading
unfolding jws_of encoded_jws
building_is_reading limits parts members detach =
    let detached : Option (List ℕ) = handed_in detach parts.payload in
    building (encoded_in_json detached) (encoded_in_compact detached) (decoded_object limits) _ _ (members_of detach parts) _ _
    (builds limits parts members detach)
    ∙ ap (jws_of limits detached) (sym (members_are_written detach parts))

pub json_texts_are_compact : JsonTextsAreCompact
json_texts_are_compact detach parts value members read =
    let written = members_are_written detach parts in
    written ∙ read_as_written (members_of detach parts) value (object_json parts members detach) (ap json_value (sym written) ∙ read)
