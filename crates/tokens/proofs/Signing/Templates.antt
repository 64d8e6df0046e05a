-- The content of the text of a template for signatures, and the signers that it settles.
use Rattle.std.proofs.Common.{◌≡◌, ℕ, ◌||◌, true, false, List, [], ◌∷◌, length, codes, if◌then◌else◌, Option, Some, None, is_some, is_none, Ok, Ordering, Less, Equal, Greater, nat_cmp, refl, sym, ◌∙◌, ap, subst, arith}
use Rattle.std.proofs.lemmas.Bool.{or_from, or_parts, not-true}
use Rattle.std.specs.Cmp.Lexicographic.{slice_cmp}
use Rattle.std.specs.Option.{option_or, ok_or}
use Rattle.std.specs.Ordering.{match_ordering}
use Rattle.serde_json.specs.Data.{Data, Members, no_members, member, string, put}
use Rattle.serde_json.specs.Find.{get_member, as_str}
use Rattle.serde_json.proofs.Views.{get_member-put, get_member-put_other}
use Rattle.octets.specs.declared.refusal.Refusal.TheVariants.{Form, Header, Unsupported}
use Rattle.octets.specs.Outcomes.{◌>>=◌, needs, if_there}
use Rattle.keys.specs.declared.algorithm.SignatureAlg.{SignatureAlg}
use Rattle.keys.specs.Algorithms.{signature_name, signature_alg_of, supported}
use Rattle.keys.specs.Json.{is_object, has_only}
use Rattle.keys.specs.JsonTexts.{IsJson, AreJsonMembers}
use Rattle.keys.specs.Keys.{OctetKey}
use Rattle.keys.proofs.Lemmas.{keep_json}
use Rattle.objects.specs.Headers.{header_at, overlap, all_members, are_disjoint, joint_header, string_parameter, parameter_if_there, has_no_crit}
use Rattle.objects.proofs.Lemmas.{get_member-all_members, name_is_json}
use Rattle.octets.proofs.Lemmas.{steps, passed, same_answer}
use Rattle.tokens.specs.Template.{SignatureTemplate, template_headers, template_of, named_alg, with_alg}
use Rattle.tokens.specs.Signing.{Signer, chosen_alg, signer_by}
use Rattle.tokens.proofs.AlgorithmCases.{signature_name_is, signature_is_text}
use Rattle.tokens.proofs.WrittenHeaders.Texts.{members_json}
use Rattle.tokens.proofs.WrittenHeaders.Joint.{no_names}

-- ---- the headers of a template

-- Both headers are JSON.
headers_json : (d : Data) (headers : Members × Members) → IsJson d → template_headers d ≡ Ok headers → AreJsonMembers headers.0 × AreJsonMembers headers.1
unfolding template_headers
headers_json d headers json h =
    let a = steps (needs (is_object d) Form) _ headers h in
    let b = steps (needs (has_only (codes "protected" ∷ codes "header" ∷ []) d) Form) _ headers a.2 in
    let c = steps (header_at (codes "protected") d) _ headers b.2 in
    let e = steps (header_at (codes "header") d) _ headers c.2 in
    let both : AreJsonMembers c.0 × AreJsonMembers e.0 = (members_json d (codes "protected") c.0 json c.1, members_json d (codes "header") e.0 json e.1) in
    subst (λ hs. AreJsonMembers hs.0 × AreJsonMembers hs.1) (same_answer (c.0, e.0) headers e.2) both

-- The headers have no name in common and no `crit`. If one of them names an algorithm, it is this one.
pub record Say (p u : Members) (a : Option SignatureAlg) : Type 0 where
  pub disjoint : are_disjoint p no_members u ≡ true
  pub plain : has_no_crit p ≡ true
  pub header_plain : has_no_crit u ≡ true
  pub name : Option (List ℕ)
  pub alg : string_parameter (codes "alg") (all_members p no_members u) ≡ Ok name
  pub is : if_there (supported signature_alg_of) name ≡ Ok a

-- If an alternative of two options is absent, both options are.
neither : (x y : Option Data) → is_none (option_or x y) ≡ true → (is_none x ≡ true) × (is_none y ≡ true)
neither None y h = (refl, h)
neither (Some d) y h = cc h

-- A name that is not in the joint header is in neither header.
in_neither : (name : List ℕ) (p u : Members) → is_none (get_member name (all_members p no_members u)) ≡ true
    → (is_none (get_member name p) ≡ true) × (is_none (get_member name u) ≡ true)
in_neither name p u h = neither (get_member name p) (get_member name u) (ap is_none (sym (get_member-all_members name p no_members u)) ∙ h)

-- If an algorithm is read from the headers, the headers say so.
said : (p u : Members) (a : Option SignatureAlg) → named_alg p u ≡ Ok a → Say p u a
unfolding named_alg joint_header
said p u a h =
    let joint = steps (joint_header p no_members u) _ a h in
    let apart = steps (needs (are_disjoint p no_members u) Header) _ joint.0 joint.1 in
    let name = steps (string_parameter (codes "alg") joint.0) _ a joint.2 in
    let plain = steps (needs (is_none (get_member (codes "crit") joint.0)) Unsupported) _ a name.2 in
    let same : all_members p no_members u ≡ joint.0 = same_answer (all_members p no_members u) joint.0 apart.2 in
    let no_crit = in_neither (codes "crit") p u (ap (λ (ms : Members). is_none (get_member (codes "crit") ms)) same ∙ passed _ Unsupported plain.0 plain.1) in
    record {
      disjoint = passed _ Header apart.0 apart.1;
      plain = no_crit.0;
      header_plain = no_crit.1;
      name = name.0;
      alg = ap (string_parameter (codes "alg")) same ∙ name.1;
      is = plain.2;
    }

-- the headers of the template are JSON and name its algorithm
pub record IsTemplate (t : SignatureTemplate) : Type 0 where
  pub json : AreJsonMembers t.protected
  pub header_json : AreJsonMembers t.per_signature
  pub say : Say t.protected t.per_signature t.alg

-- A template that is read from JSON has these properties.
pub is_template : (value : Data) (t : SignatureTemplate) → IsJson value → template_of value ≡ Ok t → IsTemplate t
unfolding template_of
is_template value t json h =
    let a = steps (template_headers value) _ t h in
    let b = steps (named_alg a.0.0 a.0.1) _ t a.2 in
    let both = headers_json value a.0 json a.1 in
    subst IsTemplate (same_answer (record { protected = a.0.0; per_signature = a.0.1; alg = b.0 }) t b.2)
    (record { json = both.0; header_json = both.1; say = said a.0.0 a.0.1 b.0 b.1 })

-- ---- the algorithm that the headers name

-- If a lookup is supported, an algorithm was found.
supported_is : (found : Option SignatureAlg) (a : Option SignatureAlg) → (ok_or found Unsupported >>= λ x. Ok (Some x)) ≡ Ok a
    → (alg : SignatureAlg) × (found ≡ Some alg) × (a ≡ Some alg)
supported_is None a h = cc h
supported_is (Some alg) a h = (alg, refl, sym (same_answer (Some alg) a h))

-- If an algorithm is supported, the header has its name.
named : (name : Option (List ℕ)) (alg : SignatureAlg) → if_there (supported signature_alg_of) name ≡ Ok (Some alg) → name ≡ Some (signature_name alg)
named None alg h = cc h
named (Some text) alg h =
    let is = supported_is (signature_alg_of text) (Some alg) h in
    let same : alg ≡ is.0 = cc (is.2) in
    ap Some (signature_name_is text is.0 is.1 ∙ ap signature_name (sym same))

-- If no algorithm is named, the header has no name.
not_named : (name : Option (List ℕ)) → if_there (supported signature_alg_of) name ≡ Ok None → name ≡ None
not_named None h = refl
not_named (Some text) h = let is = supported_is (signature_alg_of text) None h in cc (is.2)

-- If no parameter is read, there is no member.
no_member : (o : Option Data) → parameter_if_there as_str o ≡ Ok None → is_none o ≡ true
no_member None h = refl
no_member (Some d) h = by_text (as_str d) h
  where
    by_text : (text : Option (List ℕ)) → (ok_or text Header >>= λ x. Ok (Some x)) ≡ Ok None → false ≡ true
    by_text None e = cc e
    by_text (Some x) e = cc e

-- ---- a parameter that is inserted into the protected header

-- No header overlaps the empty header.
-- If two headers are disjoint, they do not overlap.
apart : (p u : Members) → are_disjoint p no_members u ≡ true → overlap p u ≡ false
apart p u h =
    let all : (overlap p no_members || (overlap p u || overlap no_members u)) ≡ false = not-true _ h in
    (or_parts (overlap p u) false (or_parts (overlap p no_members) (overlap p u || overlap no_members u) all).1).0

disjoint : (p u : Members) → overlap p u ≡ false → are_disjoint p no_members u ≡ true
disjoint p u h = rw (no_names p, h) refl

-- Inserting a name that the other header does not have makes no overlap.
overlap_at : (o : Ordering) (k l : List ℕ) (d e : Data) (ms more other : Members) → is_some (get_member k other) ≡ false → overlap (member l e ms) other ≡ false
    → overlap more other ≡ false
    → overlap (match_ordering o (member k d (member l e ms)) (member l d ms) (member l e more)) other ≡ false
overlap_at Less k l d e ms more other none h later = or_from (is_some (get_member k other)) (overlap (member l e ms) other) none h
overlap_at Equal k l d e ms more other none h later = h
overlap_at Greater k l d e ms more other none h later =
    or_from (is_some (get_member l other)) (overlap more other) (or_parts (is_some (get_member l other)) (overlap ms other) h).0 later

overlap-put : (k : List ℕ) (d : Data) (ms other : Members) → is_some (get_member k other) ≡ false → overlap ms other ≡ false
    → overlap (put k d ms) other ≡ false
overlap-put k d no_members other none h = or_from (is_some (get_member k other)) false none refl
overlap-put k d (member l e ms) other none h =
    overlap_at (slice_cmp nat_cmp k l) k l d e ms (put k d ms) other none h
    (overlap-put k d ms other none (or_parts (is_some (get_member l other)) (overlap ms other) h).1)

-- An absent option is not there.
is_absent : (o : Option Data) → is_none o ≡ true → is_some o ≡ false
is_absent None h = refl
is_absent (Some d) h = cc h

-- The parameter that was inserted is read from the joint header.
put_parameter : (name text : List ℕ) (p u : Members) → string_parameter name (all_members (put name (string text) p) no_members u) ≡ Ok (Some text)
unfolding string_parameter
put_parameter name text p u =
    ap (parameter_if_there as_str)
    (get_member-all_members name (put name (string text) p) no_members u
    ∙ ap (λ o. option_or o (option_or None (get_member name u))) (get_member-put name (string text) p))

-- The name `crit` is not the name `alg`.
crit_is_not_alg : codes "crit" ≡ codes "alg" → ⊥
crit_is_not_alg e = absurd (omega (arith, ap length e))

-- ---- the signers

-- The joint header of the signer's signature is valid and names its algorithm.
pub record IsSettled (header : Members) (s : Signer) : Type 0 where
  pub json : AreJsonMembers s.protected
  pub disjoint : are_disjoint s.protected no_members header ≡ true
  pub plain : has_no_crit s.protected ≡ true
  pub alg : string_parameter (codes "alg") (all_members s.protected no_members header) ≡ Ok (Some (signature_name s.alg))

-- The signer with the chosen algorithm is settled. The algorithm is inserted if the template names none.
settled_by : (p u : Members) (asked : Option SignatureAlg) (key : OctetKey) (alg : SignatureAlg) → AreJsonMembers p → Say p u asked
    → chosen_alg asked key ≡ Ok alg
    → IsSettled u (record { key = key; alg = alg; protected = if is_some asked then p else put (codes "alg") (string (signature_name alg)) p })
unfolding string_parameter
settled_by p u (Some a) key alg json say chosen =
    let same : a ≡ alg = same_answer a alg chosen in
    record {
      json = json;
      disjoint = say.disjoint;
      plain = say.plain;
      alg = say.alg ∙ ap Ok (named say.name a say.is) ∙ ap (λ alg. Ok (Some (signature_name alg))) same;
    }
settled_by p u None key alg json say chosen =
    let none : is_none (get_member (codes "alg") (all_members p no_members u)) ≡ true = no_member _ (say.alg ∙ ap Ok (not_named say.name say.is)) in
    let absent : is_some (get_member (codes "alg") u) ≡ false = is_absent _ (in_neither (codes "alg") p u none).1 in
    let value : Data = string (signature_name alg) in
    record {
      json = (keep_json.put_in (codes "alg") value p (name_is_json (codes "alg") refl) (signature_is_text alg) json).0;
      disjoint = disjoint (put (codes "alg") value p) u (overlap-put (codes "alg") value p u absent (apart p u say.disjoint));
      plain = ap is_none (get_member-put_other (codes "crit") (codes "alg") value p crit_is_not_alg) ∙ say.plain;
      alg = put_parameter (codes "alg") (signature_name alg) p u;
    }

-- The signer of each key is settled.
pub settled_signer : (t : SignatureTemplate) (key : OctetKey) (s : Signer) → IsTemplate t → signer_by t key ≡ Ok s → IsSettled t.per_signature s
unfolding signer_by
settled_signer t key s is h =
    let a = steps (chosen_alg t.alg key) _ s h in
    subst (IsSettled t.per_signature) (same_answer (record { key = key; alg = a.0; protected = with_alg t a.0 }) s a.2)
    (settled_by t.protected t.per_signature t.alg key a.0 is.json is.say a.1)

-- The signer of a key has this key.
pub key_is : (t : SignatureTemplate) (key : OctetKey) (s : Signer) → signer_by t key ≡ Ok s → s.key ≡ key
unfolding signer_by
key_is t key s h =
    let a = steps (chosen_alg t.alg key) _ s h in
    ap (λ (s : Signer). s.key) (sym (same_answer _ s a.2))
