-- Building an encrypted object of members has the same result as reading their JSON text: the same object, or the same refusal.
use Rattle.std.proofs.Common.{◌≡◌, ◌≤◌, ℕ, List, [], ◌∷◌, length, map, codes, Bool, true, false, nat_le, Option, Err, refl, sym, ap, ◌∙◌, subst, true≢false, arith}
use Rattle.std.proofs.lemmas.Bool.{le-leb, and_from}
use Rattle.std.proofs.lemmas.List.{length-map}
use Rattle.std.specs.List.{AllByRecursion}
use Rattle.serde_json.specs.Data.{Members, object, depth}
use Rattle.octets.specs.declared.refusal.Refusal.TheVariants.{Json, Form}
use Rattle.octets.specs.Outcomes.{◌>>=◌, needs}
use Rattle.keys.specs.Json.{json_value}
use Rattle.keys.specs.Limits.{Limits}
use Rattle.keys.proofs.Lemmas.{numbers_whole}
use Rattle.objects.specs.Jwe.{JweParts, RecipientParts, encoded_in_json, encoded_in_compact, encoded_jwe, decoded_object, jwe_of, nest_at_most, headers_are_shallow, have_whole_numbers, built, AreMembers, BuildingIsReading, JsonTextsAreCompact}
use Rattle.objects.specs.Texts.{handed_in, header_depth, depth_of_each}
use Rattle.objects.proofs.Building.{none_there, Builds, building, read_as_written}
use Rattle.objects.proofs.DetachedContent.{handed_octets}
use Rattle.objects.proofs.EachRead.{all_pass, images_pass}
use Rattle.objects.proofs.JweWritten.{members_are_written}
use Rattle.objects.proofs.MadeJwe.{IsRecipient, json_are}
use Rattle.objects.proofs.Members.{put_all}
use Rattle.objects.proofs.ReadJson.{IsShallow, header_shallow}
use Rattle.objects.proofs.Spelling.{object_value}
use Rattle.objects.proofs.SpellingJwe.{entries, unprotected_found, texts_read, no_texts_read, recipient_spelled, parts_spelled, decoding, decoding_is, members_json, object_json}

-- the members of the JSON text
abbrev members_of : Bool → JweParts → Members
members_of detach parts = put_all (entries detach (parts_spelled parts))

-- If there are recipients, their texts are there.
some_texts : (parts : JweParts) → nat_le 1 (length parts.recipients) ≡ true → nat_le 1 (length (parts_spelled parts).recipients) ≡ true
some_texts parts some = ap (nat_le 1) (length-map parts.recipients recipient_spelled) ∙ some

built_shallow : (limits : Limits) (parts : JweParts) → AreMembers parts → headers_are_shallow parts ≡ true
    → built limits parts ≡ (needs (nat_le 1 (length parts.recipients)) Form >>= λ some. decoding limits parts)
unfolding built
built_shallow limits parts members shallow =
    let whole : have_whole_numbers parts ≡ true =
    and_from _ _ (numbers_whole (object parts.unprotected) members.unprotected)
    (all_pass _ _ (λ r is. numbers_whole (object r.header) is.0) parts.recipients members.recipients) in
    rw (shallow, whole) refl

built_deep : (limits : Limits) (parts : JweParts) → headers_are_shallow parts ≡ false → built limits parts ≡ Err Json
unfolding built
built_deep limits parts deep = rw deep refl

-- If the whole value nests at most as deep as a text may, no header is too deep.
recipients_nest : (parts : JweParts) → AreMembers parts → (detach : Bool) → IsShallow 127 (object (members_of detach parts))
    → (rs : List RecipientParts) → parts.recipients ≡ rs
    → nest_at_most (depth_of_each (length parts.recipients)) parts.recipients ≡ true
recipients_nest parts members detach value [] is = ap (λ l. nest_at_most (depth_of_each (length l)) l) is
recipients_nest parts members detach value (r ∷ rs) is =
    let t : JweParts = parts_spelled parts in
    let some : nat_le 1 (length parts.recipients) ≡ true = ap (λ l. nat_le 1 (length l)) is ∙ le-leb 1 (length (r ∷ rs)) (omega arith) in
    let are = json_are (handed_in detach parts.ciphertext) (handed_octets detach parts.ciphertext members.ciphertext) _ t value
    (texts_read detach parts.ciphertext t refl (some_texts parts some)) in
    let n : ℕ = depth_of_each (length parts.recipients) in
    let all : AllByRecursion (IsRecipient n) t.recipients =
    subst (λ k. AllByRecursion (IsRecipient (depth_of_each k)) t.recipients) (length-map parts.recipients recipient_spelled) are.recipients in
    images_pass (IsRecipient n) recipient_spelled _ (λ p is. le-leb _ n is.header.shallow) parts.recipients all

shallow_nest : (parts : JweParts) → AreMembers parts → (detach : Bool) → depth (object (members_of detach parts)) ≤ 127 → headers_are_shallow parts ≡ true
shallow_nest parts members detach h =
    let value : IsShallow 127 (object (members_of detach parts)) = record { json = object_json parts members detach; shallow = h } in
    let unprotected = header_shallow header_depth (codes "unprotected") _ parts.unprotected (omega arith) value
    (unprotected_found detach (parts_spelled parts)) in
    and_from _ _ (le-leb _ header_depth unprotected.shallow) (recipients_nest parts members detach value parts.recipients refl)

builds : (limits : Limits) (parts : JweParts) → AreMembers parts → (detach : Bool)
    → Builds (encoded_in_json (handed_in detach parts.ciphertext)) (decoded_object limits) (built limits parts) (decoding limits parts)
    (members_of detach parts) (headers_are_shallow parts) (nat_le 1 (length parts.recipients))
builds limits parts members detach =
    let t : JweParts = parts_spelled parts in record {
      built_shallow = built_shallow limits parts members;
      value = λ shallow. object_value (entries detach t) (members_json parts members shallow detach);
      read_some = λ some. ap (λ r. r >>= decoded_object limits) (texts_read detach parts.ciphertext t refl (some_texts parts some))
          ∙ decoding_is limits parts members;
      read_none = λ none. no_texts_read detach parts.ciphertext t (ap (map recipient_spelled) (none_there parts.recipients none));
      built_deep = built_deep limits parts;
      nests = shallow_nest parts members detach;
      json = object_json parts members detach;
    }

pub building_is_reading : BuildingIsReading
unfolding jwe_of encoded_jwe
building_is_reading limits parts members detach =
    let detached : Option (List ℕ) = handed_in detach parts.ciphertext in
    building (encoded_in_json detached) (encoded_in_compact detached) (decoded_object limits) _ _ (members_of detach parts) _ _
    (builds limits parts members detach)
    ∙ ap (jwe_of limits detached) (sym (members_are_written detach parts))

pub json_texts_are_compact : JsonTextsAreCompact
json_texts_are_compact detach parts value members read =
    let written = members_are_written detach parts in
    written ∙ read_as_written (members_of detach parts) value (object_json parts members detach) (ap json_value (sym written) ∙ read)
