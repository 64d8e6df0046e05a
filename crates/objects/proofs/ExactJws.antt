-- If a signed object is read from a compact text, this text without its line end is the compact text of the object.
use Rattle.std.proofs.Common.{◌≡◌, ℕ, List, [], ◌∷◌, ◌++◌, length, Bool, map, Option, Ok, is_some, refl, sym, ap, ◌∙◌, subst}
use Rattle.std.specs.List.{AllByRecursion}
use Rattle.octets.specs.declared.refusal.Refusal.TheVariants.{Limit}
use Rattle.octets.specs.Base64url.{base64url, decoded}
use Rattle.octets.specs.LineEnds.{without_line_end}
use Rattle.octets.specs.Octets.{IsOctets}
use Rattle.octets.specs.Outcomes.{◌>>=◌, needs}
use Rattle.keys.specs.Limits.{Limits, are_few}
use Rattle.serde_json.specs.Data.{no_members}
use Rattle.objects.specs.Jws.{signature_parts_of, SignatureParts, JwsParts, DecodedSignature, SignedObject, encoded_in_compact, encoded_jws, decoded_signature, decoded_object, jws_of, compact_parts, jws_compact_text, CompactTextsAreExact}
use Rattle.objects.specs.Texts.{each, three_parts, content_by, AreOctetsHandedIn, depth_of_each, kept}
use Rattle.objects.proofs.DetachedContent.{part_is}
use Rattle.objects.proofs.EachRead.{one_read, one_kept}
use Rattle.objects.proofs.Joined.{joined_of_three, three_octets}
use Rattle.objects.proofs.MadeJws.{IsSignature, compact_are, signature_spelled}
use Rattle.objects.proofs.MadeOf.{signed_is}
use Rattle.octets.proofs.Lemmas.{steps, same_answer, IsOctets-without_line_end, text_of_meaning}

-- the texts of a compact text: one signature without an unprotected header, and the part from which the payload is read
pub record IsCompact (detached : Option (List ℕ)) (text : List ℕ) (t : JwsParts) : Type 0 where
  pub signature : SignatureParts
  pub alone : t.signatures ≡ signature ∷ []
  pub header : signature.header ≡ no_members
  pub part : List ℕ
  pub octets : IsOctets part
  pub payload : content_by detached part ≡ Ok t.payload
  pub between_dots : text ≡ signature.protected ++ 46 ∷ (part ++ 46 ∷ signature.signature)

texts_of_compact : (detached : Option (List ℕ)) (text : List ℕ) (t : JwsParts) → IsOctets text → encoded_in_compact detached text ≡ Ok t
    → IsCompact detached text t
unfolding encoded_in_compact
texts_of_compact detached text t octets h =
    let a = steps (three_parts text) _ t h in
    let b = steps (content_by detached a.0.1) _ t a.2 in
    subst (IsCompact detached text) (same_answer _ t b.2)
    (record {
      signature = record { protected = a.0.0; header = no_members; signature = a.0.2 };
      alone = refl;
      header = refl;
      part = a.0.1;
      octets = (three_octets text a.0 octets a.1).1;
      payload = b.1;
      between_dots = joined_of_three text a.0 a.1;
    })

-- the object has the payload and the signatures that its texts spell
pub record IsSpelled (t : JwsParts) (o : SignedObject) : Type 0 where
  pub payload : decoded t.payload ≡ Ok o.payload
  pub decoded_signatures : List DecodedSignature
  pub decodes : each decoded_signature t.signatures ≡ Ok decoded_signatures
  pub signatures : map signature_parts_of o.signatures ≡ map (λ (s : DecodedSignature). s.parts) decoded_signatures

object_spelled : (limits : Limits) (t : JwsParts) (o : SignedObject) → decoded_object limits t ≡ Ok o → IsSpelled t o
unfolding decoded_object
object_spelled limits t o h =
    let a = steps (needs (are_few limits (length t.signatures)) Limit) _ o h in
    let b = steps (decoded t.payload) _ o a.2 in
    let c = steps (each decoded_signature t.signatures) _ o b.2 in
    let is = signed_is limits.management b.0 c.0 o c.2 in
    record { payload = b.1 ∙ ap Ok (sym is.payload); decoded_signatures = c.0; decodes = c.1; signatures = is.signatures }

-- An object has a compact text if it has one signature without an unprotected header.
pub compact_text_is : (detach : Bool) (o : SignedObject) (s : SignatureParts) → map signature_parts_of o.signatures ≡ s ∷ [] → s.header ≡ no_members
    → jws_compact_text detach o ≡ Ok (s.protected ++ 46 ∷ (kept detach (base64url o.payload) ++ 46 ∷ base64url s.signature))
unfolding jws_compact_text
compact_text_is detach o s alone header =
    let one = one_kept signature_parts_of o.signatures s alone in
    let no_header : one.0.header ≡ no_members = ap (λ (s : SignatureParts). s.header) one.2 ∙ header in
    rw (one.1, no_header)
    (ap Ok (ap (λ s. compact_parts detach o.payload (s ∷ [])) one.2))

-- The parts with dots between them are this text.
joined_is : (a b c part : List ℕ) (s : SignatureParts) → s.protected ≡ a → b ≡ part → c ≡ base64url s.signature
    → s.protected ++ 46 ∷ (part ++ 46 ∷ base64url s.signature) ≡ a ++ 46 ∷ (b ++ 46 ∷ c)
joined_is a b c part s protected same signature = rw (protected, same, signature) refl

exact : (limits : Limits) (detached : Option (List ℕ)) (line : List ℕ) (t : JwsParts) (o : SignedObject) → AreOctetsHandedIn detached → IsOctets line
    → encoded_in_compact detached line ≡ Ok t → decoded_object limits t ≡ Ok o → jws_compact_text (is_some detached) o ≡ Ok line
exact limits detached line t o handed octets split h =
    let is = texts_of_compact detached line t octets split in
    let are = compact_are detached handed line t octets split in
    let spelled = object_spelled limits t o h in
    let one = one_read decoded_signature is.signature spelled.decoded_signatures (ap (each decoded_signature) (sym is.alone) ∙ spelled.decodes) in
    let s = signature_spelled is.signature one.0 one.1 in
    let texts = subst (AllByRecursion (IsSignature (depth_of_each (length t.signatures)))) is.alone are.signatures in
    let part = part_is detached is.part t.payload o.payload is.octets is.payload spelled.payload in
    let signature = text_of_meaning is.signature.signature one.0.parts.signature texts.0.signature s.signature in
    compact_text_is (is_some detached) o one.0.parts (spelled.signatures ∙ ap (map (λ (s : DecodedSignature). s.parts)) one.2) (s.header ∙ is.header)
    ∙ ap Ok (joined_is is.signature.protected is.part is.signature.signature (kept (is_some detached) (base64url o.payload)) one.0.parts s.protected part
    signature ∙ sym is.between_dots)

pub compact_texts_are_exact : CompactTextsAreExact
unfolding jws_of encoded_jws
compact_texts_are_exact limits detached text o handed octets form h =
    let line : List ℕ = without_line_end text in
    let read : (encoded_in_compact detached line >>= decoded_object limits) ≡ Ok o = rw form at h in
    let a = steps (encoded_in_compact detached line) (decoded_object limits) o read in
    exact limits detached line a.0 o handed (IsOctets-without_line_end text octets) a.1 a.2
