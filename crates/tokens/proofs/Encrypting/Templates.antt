-- The content of a template's text: headers that may be written, and the algorithms and the number of iterations that it asks for.
use Rattle.std.proofs.Common.{◌≡◌, ℕ, ◌&&◌, Bool, true, false, List, [], ◌∷◌, codes, Option, Some, None, is_none, option_map, Result, Ok, refl, ◌∙◌, ap, subst}
use Rattle.std.proofs.lemmas.Bool.{not-true, and_parts}
use Rattle.std.specs.Option.{ok_or}
use Rattle.serde_json.specs.Data.{Data, null, boolean, number, string, array, object, Members, no_members}
use Rattle.serde_json.specs.Find.{get, get_member, as_str}
use Rattle.octets.specs.declared.refusal.Refusal.{Refusal}
use Rattle.octets.specs.declared.refusal.Refusal.TheVariants.{Form, Header, Unsupported}
use Rattle.octets.specs.Octets.{IsOctets}
use Rattle.octets.specs.Outcomes.{◌>>=◌, needs, if_there}
use Rattle.octets.specs.Base64url.{decoded}
use Rattle.octets.proofs.Lemmas.{IsOctets-nil, octets_of_meaning, steps, passed, same_answer}
use Rattle.ciphers.specs.Algorithms.{management_name, encryption_name, management_alg_of, encryption_alg_of}
use Rattle.keys.specs.Algorithms.{supported}
use Rattle.keys.specs.Json.{is_object, has_only}
use Rattle.keys.specs.JsonTexts.{IsJson, AreJsonMembers}
use Rattle.keys.proofs.Lemmas.{octets_of_utf8, keep_json}
use Rattle.objects.specs.Headers.{header_at, are_disjoint, all_members, joint_header, parameter_if_there, string_parameter, number_parameter}
use Rattle.objects.specs.Jwe.{has_no_crit_or_zip}
use Rattle.objects.specs.Texts.{text_if_there, text_at}
use Rattle.tokens.specs.EncryptionTemplate.{TemplateTexts, template_texts, AlgorithmsAsked, leaves_parameters, algorithms_asked, EncryptionTemplate, encryption_template}
use Rattle.tokens.proofs.AlgorithmCases.{management_name_is, encryption_name_is}
use Rattle.tokens.proofs.WrittenHeaders.Texts.{members_json}
use Rattle.tokens.proofs.WrittenHeaders.Joint.{plain_parts}
use Rattle.tokens.proofs.Encrypting.Parameters.{as_count}
use Rattle.objects.proofs.Lemmas.{not_there}

-- ---- what the headers ask for

-- The headers have no name in common and no member that is refused. The joint header has the algorithms and the number of iterations that
-- are asked for, and none of the members that encryption writes.
pub record Asks (p u : Members) (asked : AlgorithmsAsked) : Type 0 where
  pub disjoint : are_disjoint p u no_members ≡ true
  pub plain : has_no_crit_or_zip p ≡ true
  pub unprotected_plain : has_no_crit_or_zip u ≡ true
  pub management : parameter_if_there as_str (get_member (codes "alg") (all_members p u no_members)) ≡ Ok (option_map management_name asked.management)
  pub encryption : parameter_if_there as_str (get_member (codes "enc") (all_members p u no_members)) ≡ Ok (option_map encryption_name asked.encryption)
  pub count : parameter_if_there as_count (get_member (codes "p2c") (all_members p u no_members)) ≡ asked.p2c
  pub no_salt : get_member (codes "p2s") (all_members p u no_members) ≡ None
  pub no_iv : get_member (codes "iv") (all_members p u no_members) ≡ None
  pub no_tag : get_member (codes "tag") (all_members p u no_members) ≡ None

-- If an algorithm is asked for, the header has its name.
asked_by : {A : Type 0} (of : List ℕ → Option A) (name_of : A → List ℕ) (name : Option (List ℕ)) (asked : Option A)
    → ((text : List ℕ) (a : A) → of text ≡ Some a → text ≡ name_of a) → if_there (supported of) name ≡ Ok asked → name ≡ option_map name_of asked
asked_by of name_of None asked names h = ap (option_map name_of) (same_answer None asked h)
asked_by of name_of (Some text) asked names h = by_found (of text) refl h
  where
    by_found : (found : Option _) → of text ≡ found → (ok_or found Unsupported >>= λ a. Ok (Some a)) ≡ Ok asked → Some text ≡ option_map name_of asked
    by_found None e h = cc h
    by_found (Some a) e h = ap Some (names text a e) ∙ ap (option_map name_of) (same_answer (Some a) asked h)

-- If a joint header is made, its parts have no name in common.
joined : {B : Type 0} (p u own : Members) (f : Members → Result B Refusal) (y : B) → (joint_header p u own >>= f) ≡ Ok y
    → (are_disjoint p u own ≡ true) × (f (all_members p u own) ≡ Ok y)
unfolding joint_header
joined p u own f y h = by_test (are_disjoint p u own) h
  where
    by_test : (b : Bool) → ((needs b Header >>= λ apart. Ok (all_members p u own)) >>= f) ≡ Ok y → (b ≡ true) × (f (all_members p u own) ≡ Ok y)
    by_test true h = (refl, h)
    by_test false h = cc h

-- A header that leaves the parameters to encryption has no `p2s`, no `iv` and no `tag`.
none_there : (header : Members) → leaves_parameters header ≡ true
    → (get_member (codes "p2s") header ≡ None) × (get_member (codes "iv") header ≡ None) × (get_member (codes "tag") header ≡ None)
none_there header left =
    let first = and_parts (is_none (get_member (codes "p2s") header))
    (is_none (get_member (codes "iv") header) && is_none (get_member (codes "tag") header)) left in
    let second = and_parts (is_none (get_member (codes "iv") header)) (is_none (get_member (codes "tag") header)) first.1 in
    (gone (get_member (codes "p2s") header) first.0, gone (get_member (codes "iv") header) second.0, gone (get_member (codes "tag") header) second.1)
  where
    gone : (o : Option Data) → is_none o ≡ true → o ≡ None
    gone o none = not_there o (not-true _ none)

-- The headers ask for the algorithms that are read from them.
asks : (p u : Members) (asked : AlgorithmsAsked) → algorithms_asked p u ≡ Ok asked → Asks p u asked
unfolding algorithms_asked string_parameter number_parameter
asks p u asked h =
    let header = all_members p u no_members in
    let joint = joined p u no_members _ asked h in
    let alg = steps (string_parameter (codes "alg") header) _ asked joint.1 in
    let enc = steps (string_parameter (codes "enc") header) _ asked alg.2 in
    let left = steps (needs (leaves_parameters header) Header) _ asked enc.2 in
    let plain = steps (needs (has_no_crit_or_zip header) Unsupported) _ asked left.2 in
    let management = steps (if_there (supported management_alg_of) alg.0) _ asked plain.2 in
    let encryption = steps (if_there (supported encryption_alg_of) enc.0) _ asked management.2 in
    let parts = plain_parts p u (passed _ Unsupported plain.0 plain.1) in
    let none = none_there header (passed _ Header left.0 left.1) in
    subst (Asks p u) (same_answer _ asked encryption.2)
    (record {
      disjoint = joint.0;
      plain = parts.0;
      unprotected_plain = parts.1;
      management = alg.1 ∙ ap Ok (asked_by management_alg_of management_name alg.0 management.0 management_name_is management.1);
      encryption = enc.1 ∙ ap Ok (asked_by encryption_alg_of encryption_name enc.0 encryption.0 encryption_name_is encryption.1);
      count = refl;
      no_salt = none.0;
      no_iv = none.1;
      no_tag = none.2;
    })

-- ---- the template

-- The headers of the template are JSON and ask for the algorithms. Its additional data are octets.
pub record IsTemplate (t : EncryptionTemplate) : Type 0 where
  pub protected : AreJsonMembers t.protected
  pub unprotected : AreJsonMembers t.unprotected
  pub aad : IsOctets t.aad
  pub asks : Asks t.protected t.unprotected t.asked

-- A text in JSON is octets.
text_octets : (d : Data) (name text : List ℕ) → IsJson d → text_at name d ≡ Ok text → IsOctets text
unfolding text_at
text_octets d name text json h = by_found (get name d) refl h
  where
    by_value : (v : Data) → IsJson v → ok_or (as_str v) Form ≡ Ok text → IsOctets text
    by_value null j is = cc is
    by_value (boolean b) j is = cc is
    by_value (number n) j is = cc is
    by_value (string s) j is = subst IsOctets (same_answer s text is) (octets_of_utf8 s j)
    by_value (array ds) j is = cc is
    by_value (object ms) j is = cc is

    by_found : (o : Option Data) → get name d ≡ o → text_if_there o ≡ Ok text → IsOctets text
    by_found None e is = subst IsOctets (same_answer [] text is) IsOctets-nil
    by_found (Some v) e is = by_value v (keep_json.found name d v json e).0 is

-- The headers among the texts of a template are JSON, and the additional data are octets.
texts_json : (d : Data) (texts : TemplateTexts) → IsJson d → template_texts d ≡ Ok texts
    → AreJsonMembers texts.protected × AreJsonMembers texts.unprotected × IsOctets texts.aad
unfolding template_texts
texts_json d texts json h =
    let a = steps (needs (is_object d) Form) _ texts h in
    let b = steps (needs (has_only (codes "protected" ∷ codes "unprotected" ∷ codes "aad" ∷ []) d) Form) _ texts a.2 in
    let protected = steps (header_at (codes "protected") d) _ texts b.2 in
    let unprotected = steps (header_at (codes "unprotected") d) _ texts protected.2 in
    let aad = steps (text_at (codes "aad") d) _ texts unprotected.2 in
    subst (λ (t : TemplateTexts). AreJsonMembers t.protected × AreJsonMembers t.unprotected × IsOctets t.aad) (same_answer _ texts aad.2) (
      members_json d (codes "protected") protected.0 json protected.1,
      members_json d (codes "unprotected") unprotected.0 json unprotected.1,
      text_octets d (codes "aad") aad.0 json aad.1,
    )

-- A template that is read from JSON has these properties.
pub is_template : (d : Data) (t : EncryptionTemplate) → IsJson d → encryption_template d ≡ Ok t → IsTemplate t
unfolding encryption_template
is_template d t json h =
    let texts = steps (template_texts d) _ t h in
    let aad = steps (decoded texts.0.aad) _ t texts.2 in
    let asked = steps (algorithms_asked texts.0.protected texts.0.unprotected) _ t aad.2 in
    let all = texts_json d texts.0 json texts.1 in
    subst IsTemplate (same_answer _ t asked.2)
    (record {
      protected = all.0;
      unprotected = all.1;
      aad = octets_of_meaning texts.0.aad aad.0 all.2 aad.1;
      asks = asks texts.0.protected texts.0.unprotected asked.0 asked.1;
    })
