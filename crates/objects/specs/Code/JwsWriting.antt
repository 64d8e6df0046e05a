-- How the code writes the text of a signed object, with its payload and signatures or with places left for them. Without places it is the
-- text that specs/Jws.antt defines.
use Rattle.std.specs.Prelude.{ℕ, Bool, true, false, List, [], ◌∷◌, codes, Option, None, Result, Ok}
use Rattle.octets.specs.declared.refusal.Refusal.{Refusal}
use Rattle.octets.specs.declared.refusal.Refusal.TheVariants.{NotCompact}
use Rattle.octets.specs.Outcomes.{◌>>=◌, needs}
use Rattle.objects.specs.Jws.{SignatureParts, JwsParts, SignedObject, parts_of, is_compact}
use Rattle.objects.specs.Code.Writing.{Written, nothing_written, pushed, opened, closed, with_text, with_header, with_place, with_content, inside, with_list, with_place_part, with_content_part}

-- a signature, and the payload if it is next to it (RFC 7515 section 7.2)
abbrev pub with_signature : Option (List ℕ) → SignatureParts → Written → Written
with_signature payload s w =
    with_place (codes "signature") s.signature (
    with_text (codes "protected") s.protected (
    with_content (codes "payload") payload (
    with_header (codes "header") s.header w)))

-- the payload, and a list of signatures (section 7.2.1)
abbrev pub with_general : Option (List ℕ) → List SignatureParts → Written → Written
with_general payload signatures w = with_list (codes "signatures") (with_signature None) signatures (with_content (codes "payload") payload w)

-- one signature is next to the payload (section 7.2.2); several, or none, are a list
abbrev pub with_signatures : Option (List ℕ) → List SignatureParts → Written → Written
with_signatures payload [] w = with_general payload [] w
with_signatures payload (s ∷ []) w = with_signature payload s w
with_signatures payload (s ∷ (other ∷ rest)) w = with_general payload (s ∷ (other ∷ rest)) w

-- The JSON text of members, in byte order of their names: flattened if there is one signature, and else general. A detached payload is not
-- in it.
abbrev pub jws_json : Bool → Bool → JwsParts → Written
jws_json places detach parts = closed (codes "}") (with_signatures (inside detach parts.payload) parts.signatures (opened (codes "{") (nothing_written places)))

-- the parts of a compact text (RFC 7515 section 7.1), with those of the first signature
abbrev pub with_compact : Option (List ℕ) → List SignatureParts → Written → Written
with_compact payload [] w = w
with_compact payload (s ∷ rest) w = with_place_part s.signature (with_content_part payload (pushed s.protected w))

-- the compact text, if it can hold the object, or the JSON text (RFC 7515 section 7)
abbrev pub jws_written : Bool → Bool → Bool → SignedObject → Result Written Refusal
jws_written places true detach o = do
  fits ← needs (is_compact o.signatures) NotCompact
  Ok (with_compact (inside detach o.payload) (parts_of o).signatures (nothing_written places))
jws_written places false detach o = Ok (jws_json places detach (parts_of o))
