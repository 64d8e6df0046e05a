-- The text of a signed object with a detached payload is read the same with every payload.
use Rattle.std.proofs.Common.{◌≡◌, ℕ, List, [], ◌∷◌, Bool, true, false, not, if◌then◌else◌, codes, length, Some, Result, Ok, Err, refl, sym, ap, ◌∙◌}
use Rattle.serde_json.specs.Data.{Data, Items, no_members}
use Rattle.octets.specs.declared.refusal.Refusal.{Refusal}
use Rattle.octets.specs.declared.refusal.Refusal.TheVariants.{Form, Limit}
use Rattle.octets.specs.Base64url.{base64url, decoded}
use Rattle.octets.specs.LineEnds.{without_line_end}
use Rattle.octets.specs.Octets.{IsOctets}
use Rattle.octets.specs.Outcomes.{◌>>=◌, needs}
use Rattle.octets.proofs.Lemmas.{IsOctets-nil, decodes_exactly}
use Rattle.keys.specs.Json.{json_value}
use Rattle.keys.specs.Limits.{Limits, are_few}
use Rattle.objects.specs.HandedIn.{PayloadIsHandedIn, with_payload}
use Rattle.objects.specs.Jws.{SignatureParts, JwsParts, Signature, DecodedSignature, SignedObject, encoded_signature, signature_objects, encoded_in_json, encoded_in_compact, encoded_jws, decoded_signature, signatures_of, signed_object, decoded_object, jws_of}
use Rattle.objects.specs.Texts.{each, each_item, is_json_form, three_parts, text_at, content_by, has_text}

-- ---- the members of a text, except the content

-- the signatures of a JSON text, which has no text of a content of its own
abbrev listed : Result (List ℕ) Refusal → Result Items Refusal → Result (List SignatureParts) Refusal
listed own objects = do
  text ← own
  empty ← needs (not (has_text text)) Form
  items ← objects
  each_item encoded_signature items

abbrev in_parts : Result (List ℕ × List ℕ × List ℕ) Refusal → Result (List SignatureParts) Refusal
in_parts parts = do
  three ← parts
  empty ← needs (not (has_text three.1)) Form
  Ok (record { protected = three.0; header = no_members; signature = three.2 } ∷ [])

abbrev signatures_in : Bool → List ℕ → Result (List SignatureParts) Refusal
signatures_in json text =
    if json then (json_value text >>= λ value. listed (text_at (codes "payload") value) (signature_objects value)) else in_parts
    (three_parts (without_line_end text))

-- the texts of an object: the text of the content and the signatures
abbrev beside : List ℕ → Result (List SignatureParts) Refusal → Result JwsParts Refusal
beside content signatures = signatures >>= λ list. Ok (record { payload = base64url content; signatures = list })

in_json : (content : List ℕ) (own : Result (List ℕ) Refusal) (objects : Result Items Refusal)
    → ((own >>= content_by (Some content)) >>= λ payload. objects >>= λ items. each_item encoded_signature items
    >>= λ list. Ok (record { payload = payload; signatures = list })) ≡ beside content (listed own objects)
in_json content (Err r) objects = refl
in_json content (Ok text) objects = by_test (not (has_text text)) objects
  where
    by_list : (list : Result (List SignatureParts) Refusal)
        → (list >>= λ list. Ok (record { payload = base64url content; signatures = list })) ≡ beside content list
    by_list (Err r) = refl
    by_list (Ok list) = refl

    by_test : (test : Bool) (objects : Result Items Refusal)
        → ((needs test Form >>= λ empty. Ok (base64url content)) >>= λ payload. objects >>= λ items. each_item encoded_signature items
        >>= λ list. Ok (record { payload = payload; signatures = list }))
        ≡ beside content (needs test Form >>= λ empty. objects >>= λ items. each_item encoded_signature items)
    by_test false objects = refl
    by_test true (Err r) = refl
    by_test true (Ok items) = by_list (each_item encoded_signature items)

in_compact : (content : List ℕ) (parts : Result (List ℕ × List ℕ × List ℕ) Refusal)
    → (parts >>= λ three. content_by (Some content) three.1
    >>= λ payload. Ok (record { payload = payload; signatures = record { protected = three.0; header = no_members; signature = three.2 } ∷ [] }))
    ≡ beside content (in_parts parts)
in_compact content (Err r) = refl
in_compact content (Ok three) = by_test (not (has_text three.1))
  where
    by_test : (test : Bool)
        → ((needs test Form >>= λ empty. Ok (base64url content))
        >>= λ payload. Ok (record { payload = payload; signatures = record { protected = three.0; header = no_members; signature = three.2 } ∷ [] }))
        ≡ beside content (needs test Form >>= λ empty. Ok (record { protected = three.0; header = no_members; signature = three.2 } ∷ []))
    by_test false = refl
    by_test true = refl

in_text : (content text : List ℕ) → encoded_jws (Some content) text ≡ beside content (signatures_in (is_json_form text) text)
unfolding encoded_jws encoded_in_json encoded_in_compact
in_text content text = by_form (is_json_form text)
  where
    by_value : (value : Result Data Refusal) → (value >>= encoded_in_json (Some content))
        ≡ beside content (value >>= λ value. listed (text_at (codes "payload") value) (signature_objects value))
    by_value (Err r) = refl
    by_value (Ok value) = in_json content (text_at (codes "payload") value) (signature_objects value)

    by_form : (json : Bool) → (if json then (json_value text >>= encoded_in_json (Some content)) else encoded_in_compact (Some content) (without_line_end text))
        ≡ beside content (signatures_in json text)
    by_form true = by_value (json_value text)
    by_form false = in_compact content (three_parts (without_line_end text))

-- ---- the object

-- the object that is made of the signatures
abbrev of_list : Limits → List ℕ → List SignatureParts → Result SignedObject Refusal
of_list limits content list = do
  few ← needs (are_few limits (length list)) Limit
  decoded ← each decoded_signature list
  signed_object limits.management content decoded

decoded_list : (limits : Limits) (content : List ℕ) (list : List SignatureParts) → IsOctets content
    → decoded_object limits (record { payload = base64url content; signatures = list }) ≡ of_list limits content list
unfolding decoded_object
decoded_list limits content list is =
    ap (λ octets. needs (are_few limits (length list)) Limit >>= λ few. octets >>= λ payload. each decoded_signature list
    >>= λ d. signed_object limits.management payload d) (decodes_exactly.round_trip content is)

jws_list : (limits : Limits) (content : List ℕ) (list : Result (List SignatureParts) Refusal) → IsOctets content
    → (beside content list >>= decoded_object limits) ≡ (list >>= of_list limits content)
jws_list limits content (Err r) is = refl
jws_list limits content (Ok list) is = decoded_list limits content list is

by_list : (limits : Limits) (content text : List ℕ) → IsOctets content
    → jws_of limits (Some content) text ≡ (signatures_in (is_json_form text) text >>= of_list limits content)
unfolding jws_of
by_list limits content text is =
    ap (λ texts. texts >>= decoded_object limits) (in_text content text) ∙ jws_list limits content (signatures_in (is_json_form text) text) is

-- With another payload, the object differs only in its payload.
other_payload : (limits : Limits) (content : List ℕ) (list : Result (List SignatureParts) Refusal)
    → (list >>= of_list limits content) ≡ ((list >>= of_list limits []) >>= λ o. Ok (with_payload content o))
unfolding signed_object
other_payload limits content (Err r) = refl
other_payload limits content (Ok list) = by_few (are_few limits (length list)) (each decoded_signature list)
  where
    by_signatures : (signatures : Result (List Signature) Refusal)
        → (signatures >>= λ s. Ok (record { payload = content; signatures = s }))
        ≡ ((signatures >>= λ s. Ok (record { payload = []; signatures = s })) >>= λ o. Ok (with_payload content o))
    by_signatures (Err r) = refl
    by_signatures (Ok signatures) = refl

    by_few : (few : Bool) (decoded : Result (List DecodedSignature) Refusal)
        → (needs few Limit >>= λ u. decoded >>= signed_object limits.management content)
        ≡ ((needs few Limit >>= λ u. decoded >>= signed_object limits.management []) >>= λ o. Ok (with_payload content o))
    by_few false decoded = refl
    by_few true (Err r) = refl
    by_few true (Ok decoded) = by_signatures (signatures_of limits.management decoded)

pub payload_is_handed_in : PayloadIsHandedIn
payload_is_handed_in limits payload text is =
    let list = signatures_in (is_json_form text) text in
    by_list limits payload text is ∙ other_payload limits payload list
    ∙ ap (λ object. object >>= λ o. Ok (with_payload payload o)) (sym (by_list limits [] text IsOctets-nil))
