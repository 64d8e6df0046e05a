-- An encrypted object that is the one of its own members.
use Rattle.std.proofs.Common.{◌≡◌, ◌≤◌, ℕ, List, [], ◌∷◌, length, map, codes, true, nat_le, Ok, sym, ap, ◌∙◌, subst, arith}
use Rattle.std.proofs.lemmas.Bool.{and_from, and_parts, leb-true}
use Rattle.std.proofs.lemmas.List.{length-map}
use Rattle.std.proofs.lemmas.List.Folds.{list_all-map}
use Rattle.std.specs.List.{list_all}
use Rattle.serde_json.specs.Data.{Members}
use Rattle.octets.specs.declared.refusal.Refusal.TheVariants.{Form, Header, Json, Limit, Number, Unsupported}
use Rattle.octets.specs.Base64url.{decoded}
use Rattle.octets.specs.Outcomes.{needs}
use Rattle.octets.proofs.Lemmas.{steps, passed, same_answer}
use Rattle.ciphers.specs.Algorithms.{management_algs, management_alg_of}
use Rattle.keys.specs.Json.{member_numbers_are_whole}
use Rattle.keys.specs.Limits.{limits, are_few}
use Rattle.objects.specs.Headers.{protected_members, joint_header, string_there}
use Rattle.objects.specs.Jwe.{Recipient, RecipientParts, EncryptedObject, JweParts, recipient_parts_of, parts_of, headers_are_shallow, have_whole_numbers, have_no_crit_or_zip, have_one_enc, recipient_by, recipient_of, recipients_of, recipients_of_one_enc, encrypted_object, built}
use Rattle.objects.specs.KeyManagement.{key_management}
use Rattle.objects.specs.Code.JweMaking.{IsBuilt, is_as_read}
use Rattle.objects.specs.Code.KeyManagementView.{is_management_of}
use Rattle.objects.specs.Texts.{each}
use Rattle.objects.proofs.EachRead.{all_passed, all_pass, all_both, first_and_others}
use Rattle.objects.proofs.KeyManagements.{management_is}

-- A recipient that is read has the parameters of its algorithm.
recipient_is : (protected unprotected : Members) (p : RecipientParts) (r : Recipient) → recipient_of management_algs protected unprotected p ≡ Ok r
    → is_management_of (management_alg_of r.alg) r.management ≡ true
unfolding recipient_of recipient_by
recipient_is protected unprotected p r h =
    let header = steps (joint_header protected unprotected p.header) (λ header. recipient_by management_algs header p) r h in
    let alg = steps (string_there (codes "alg") header.0) _ r header.2 in
    let enc = steps (string_there (codes "enc") header.0) _ r alg.2 in
    let management = steps (key_management management_algs alg.0 header.0) _ r enc.2 in
    subst (λ (r : Recipient). is_management_of (management_alg_of r.alg) r.management ≡ true) (same_answer _ r management.2)
    (management_is (management_alg_of alg.0) header.0 management.0 management.1)

recipients_are : (protected unprotected : Members) (parts : List RecipientParts) (rs : List Recipient)
    → recipients_of management_algs protected unprotected parts ≡ Ok rs → list_all (λ r. is_management_of (management_alg_of r.alg) r.management) rs ≡ true
recipients_are protected unprotected [] rs h =
    ap (list_all (λ (r : Recipient). is_management_of (management_alg_of r.alg) r.management)) (sym (same_answer [] rs h))
recipients_are protected unprotected (p ∷ parts) rs h =
    let test = λ (r : Recipient). is_management_of (management_alg_of r.alg) r.management in
    let read = recipient_of management_algs protected unprotected in
    let a = first_and_others (read p) (each read parts) rs h in
    ap (list_all test) (sym a.4)
    ∙ and_from (test a.0) (list_all test a.1) (recipient_is protected unprotected p a.0 a.2) (recipients_are protected unprotected parts a.1 a.3)

-- The recipients of an object have the parameters of their algorithms.
object_is : (octets : List ℕ) (parts : JweParts) (o : EncryptedObject) → encrypted_object management_algs octets parts ≡ Ok o
    → list_all (λ r. is_management_of (management_alg_of r.alg) r.management) o.recipients ≡ true
unfolding encrypted_object recipients_of_one_enc
object_is octets parts o h =
    let test = λ (r : Recipient). is_management_of (management_alg_of r.alg) r.management in
    let header = steps (protected_members octets) _ o h in
    let one = steps (recipients_of_one_enc management_algs header.0 parts.unprotected parts.recipients) _ o header.2 in
    let plain = steps (needs (have_no_crit_or_zip header.0 parts.unprotected parts.recipients) Unsupported) _ o one.2 in
    let read = steps (recipients_of management_algs header.0 parts.unprotected parts.recipients) _ one.0 one.1 in
    let same = steps (needs (have_one_enc read.0) Header) _ one.0 read.2 in
    ap (λ (o : EncryptedObject). list_all test o.recipients) (sym (same_answer _ o plain.2)) ∙ ap (list_all test) (sym (same_answer read.0 one.0 same.2))
    ∙ recipients_are header.0 parts.unprotected parts.recipients read.0 read.1

record Stands (o : EncryptedObject) : Type 0 where
  pub whole : have_whole_numbers (parts_of o) ≡ true
  pub few : are_few limits (length (map recipient_parts_of o.recipients)) ≡ true
  pub managed : list_all (λ r. is_management_of (management_alg_of r.alg) r.management) o.recipients ≡ true

stands : (o : EncryptedObject) → IsBuilt limits o → Stands o
unfolding built
stands o h =
    let parts : JweParts = parts_of o in
    let shallow = steps (needs (headers_are_shallow parts) Json) _ o h in
    let whole = steps (needs (have_whole_numbers parts) Number) _ o shallow.2 in
    let some = steps (needs (nat_le 1 (length parts.recipients)) Form) _ o whole.2 in
    let few = steps (needs (are_few limits (length parts.recipients)) Limit) _ o some.2 in
    let octets = steps (decoded parts.protected) (λ octets. encrypted_object limits.management octets parts) o few.2 in
    record { whole = passed _ Number whole.0 whole.1; few = passed _ Limit few.0 few.1; managed = object_is octets.0 parts o octets.2 }

whole_parts : (o : EncryptedObject) → IsBuilt limits o
    → (member_numbers_are_whole o.unprotected ≡ true) × (list_all (λ p. member_numbers_are_whole p.header) (map recipient_parts_of o.recipients) ≡ true)
whole_parts o h =
    and_parts (member_numbers_are_whole o.unprotected) (list_all (λ p. member_numbers_are_whole p.header) (map recipient_parts_of o.recipients)) (stands o h).whole

-- The numbers of its unprotected header are whole.
pub has_whole_numbers : (o : EncryptedObject) → IsBuilt limits o → member_numbers_are_whole o.unprotected ≡ true
has_whole_numbers o h = (whole_parts o h).0

all_as_read : (o : EncryptedObject) → IsBuilt limits o → list_all is_as_read o.recipients ≡ true
all_as_read o h =
    let whole : list_all (λ r. member_numbers_are_whole r.header) o.recipients ≡ true =
    sym (list_all-map (λ p. member_numbers_are_whole p.header) recipient_parts_of o.recipients) ∙ (whole_parts o h).1 in
    all_pass (λ r. is_as_read r ≡ true) is_as_read (λ r is. is) o.recipients
    (all_both (λ r numbers management. and_from _ _ numbers management) o.recipients
    (all_passed (λ (r : Recipient). member_numbers_are_whole r.header) o.recipients whole)
    (all_passed (λ (r : Recipient). is_management_of (management_alg_of r.alg) r.management) o.recipients (stands o h).managed))

-- Its recipients may have been read, and there are not too many.
pub are_as_read : {A : Type 0} (o : EncryptedObject) (view : A → Recipient) (items : List A) → o.recipients ≡ map view items → IsBuilt limits o
    → list_all (λ x. is_as_read (view x)) items ≡ true
are_as_read o view items are h = sym (list_all-map is_as_read view items) ∙ ap (list_all is_as_read) (sym are) ∙ all_as_read o h

pub has_few : {A : Type 0} (o : EncryptedObject) (view : A → Recipient) (items : List A) → o.recipients ≡ map view items → IsBuilt limits o
    → length items ≤ limits.recipients
has_few o view items are h =
    let few = leb-true (length (map recipient_parts_of o.recipients)) limits.recipients (stands o h).few in
    let long : length o.recipients ≡ length items = ap length are ∙ length-map items view in
    omega (arith, few, long, length-map o.recipients recipient_parts_of)
