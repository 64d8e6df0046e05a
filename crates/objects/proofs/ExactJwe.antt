-- If an encrypted object is read from a compact text, this text without its line end is the compact text of the object.
use Rattle.std.proofs.Common.{◌≡◌, ℕ, List, [], ◌∷◌, ◌++◌, length, Bool, true, map, Option, Ok, is_some, refl, sym, ap, ◌∙◌, subst}
use Rattle.std.specs.List.{AllByRecursion}
use Rattle.octets.specs.declared.refusal.Refusal.TheVariants.{Limit}
use Rattle.octets.specs.Base64url.{base64url, decoded}
use Rattle.octets.specs.LineEnds.{without_line_end}
use Rattle.octets.specs.Octets.{IsOctets}
use Rattle.octets.specs.Outcomes.{◌>>=◌, needs}
use Rattle.octets.proofs.Lemmas.{decoded-nil, steps, same_answer, IsOctets-without_line_end, text_of_meaning}
use Rattle.keys.specs.Limits.{Limits, are_few}
use Rattle.serde_json.specs.Data.{no_members}
use Rattle.objects.specs.Jwe.{recipient_parts_of, parts_of, RecipientParts, JweParts, EncryptedObject, compact_members, encoded_in_compact, encoded_jwe, decoded_recipient, decoded_members, decoded_object, jwe_of, key_of_first, is_compact, jwe_compact_text, CompactTextsAreExact}
use Rattle.objects.specs.Texts.{each, split_at_dot, three_parts, content_by, AreOctetsHandedIn, depth_of_each, kept}
use Rattle.objects.proofs.DetachedContent.{part_is}
use Rattle.objects.proofs.EachRead.{one_read, one_kept}
use Rattle.objects.proofs.Joined.{joined_of_split, joined_of_three, split_octets, three_octets}
use Rattle.objects.proofs.MadeJwe.{IsRecipient, AreSpelled, compact_are, recipient_spelled, parts_spelled}
use Rattle.objects.proofs.MadeOf.{object_is}

-- the texts of a compact text: one recipient, only a protected header, and the part from which the ciphertext is read
pub record IsCompact (detached : Option (List ℕ)) (text : List ℕ) (t : JweParts) : Type 0 where
  pub unprotected : t.unprotected ≡ no_members
  pub aad : t.aad ≡ []
  pub recipient : RecipientParts
  pub alone : t.recipients ≡ recipient ∷ []
  pub header : recipient.header ≡ no_members
  pub part : List ℕ
  pub octets : IsOctets part
  pub ciphertext : content_by detached part ≡ Ok t.ciphertext
  pub between_dots : text ≡ t.protected ++ 46 ∷ (recipient.encrypted_key ++ 46 ∷ (t.iv ++ 46 ∷ (part ++ 46 ∷ t.tag)))

-- The texts are those of a compact text, if the text is their parts joined.
of_parts : (detached : Option (List ℕ)) (text protected key iv part ciphertext tag : List ℕ) → IsOctets part → content_by detached part ≡ Ok ciphertext
    → text ≡ protected ++ 46 ∷ (key ++ 46 ∷ (iv ++ 46 ∷ (part ++ 46 ∷ tag))) → IsCompact detached text (compact_members protected key iv ciphertext tag)
of_parts detached text protected key iv part ciphertext tag octets read whole = record {
  unprotected = refl;
  aad = refl;
  recipient = record { header = no_members; encrypted_key = key };
  alone = refl;
  header = refl;
  part = part;
  octets = octets;
  ciphertext = read;
  between_dots = whole;
}

-- A text that is split into five parts is these parts with dots between them.
joined_of_five : (text : List ℕ) (first second : List ℕ × List ℕ) (others : List ℕ × List ℕ × List ℕ) → split_at_dot text ≡ Ok first
    → split_at_dot first.1 ≡ Ok second
    → three_parts second.1 ≡ Ok others → text ≡ first.0 ++ 46 ∷ (second.0 ++ 46 ∷ (others.0 ++ 46 ∷ (others.1 ++ 46 ∷ others.2)))
joined_of_five text first second others a b c =
    let behind = joined_of_split first.1 second b ∙ ap (λ rest. second.0 ++ 46 ∷ rest) (joined_of_three second.1 others c) in
    joined_of_split text first a ∙ ap (λ rest. first.0 ++ 46 ∷ rest) behind

texts_of_compact : (detached : Option (List ℕ)) (text : List ℕ) (t : JweParts) → IsOctets text → encoded_in_compact detached text ≡ Ok t
    → IsCompact detached text t
unfolding encoded_in_compact
texts_of_compact detached text t octets h =
    let a = steps (split_at_dot text) _ t h in
    let b = steps (split_at_dot a.0.1) _ t a.2 in
    let c = steps (three_parts b.0.1) _ t b.2 in
    let d = steps (content_by detached c.0.1) (λ ciphertext. Ok (compact_members a.0.0 b.0.0 c.0.0 ciphertext c.0.2)) t c.2 in
    let behind = split_octets a.0.1 b.0 (split_octets text a.0 octets a.1).1 b.1 in
    let others = three_octets b.0.1 c.0 behind.1 c.1 in
    let texts : JweParts = compact_members a.0.0 b.0.0 c.0.0 d.0 c.0.2 in
    subst (IsCompact detached text) {x = texts} (same_answer texts t d.2)
    (of_parts detached text a.0.0 b.0.0 c.0.0 c.0.1 d.0 c.0.2 others.1 d.1 (joined_of_five text a.0 b.0 c.0 a.1 b.1 c.1))

-- An object that is read has the members that its texts spell.
object_spelled : (limits : Limits) (t : JweParts) (o : EncryptedObject) → decoded_object limits t ≡ Ok o → AreSpelled t (parts_of o)
unfolding decoded_object
object_spelled limits t o h =
    let a = steps (needs (are_few limits (length t.recipients)) Limit) _ o h in
    let b = steps (decoded t.protected) _ o a.2 in
    let c = steps (decoded_members t) _ o b.2 in
    parts_spelled t (parts_of o) (c.1 ∙ ap Ok (sym (object_is limits.management b.0 c.0 o c.2)))

-- An object has a compact text if it has one recipient without a header, and no shared header and no additional data.
pub compact_text_is : (detach : Bool) (o : EncryptedObject) (r : RecipientParts) → map recipient_parts_of o.recipients ≡ r ∷ [] → o.unprotected ≡ no_members
    → r.header ≡ no_members → o.aad ≡ []
    → jwe_compact_text detach o ≡ Ok (o.protected ++ 46
    ∷ (base64url r.encrypted_key ++ 46 ∷ (base64url o.iv ++ 46 ∷ (kept detach (base64url o.ciphertext) ++ 46 ∷ base64url o.tag))))
unfolding jwe_compact_text
compact_text_is detach o r alone unprotected header aad =
    let one = one_kept recipient_parts_of o.recipients r alone in
    let no_header : one.0.header ≡ no_members = ap (λ (r : RecipientParts). r.header) one.2 ∙ header in
    let key : key_of_first (parts_of o).recipients ≡ r.encrypted_key = ap key_of_first alone in
    let fits : is_compact o o.recipients ≡ true = rw (one.1, unprotected, no_header, aad) refl in
    rw fits (ap Ok (ap (λ key. o.protected ++ 46 ∷ (base64url key ++ 46
    ∷ (base64url o.iv ++ 46 ∷ (kept detach (base64url o.ciphertext) ++ 46 ∷ base64url o.tag)))) key))

-- The parts with dots between them are this text.
joined_is : (a b c d e part : List ℕ) (o : EncryptedObject) (r : RecipientParts) → o.protected ≡ a → b ≡ base64url r.encrypted_key → c ≡ base64url o.iv
    → d ≡ part → e ≡ base64url o.tag
    → o.protected ++ 46 ∷ (base64url r.encrypted_key ++ 46 ∷ (base64url o.iv ++ 46 ∷ (part ++ 46 ∷ base64url o.tag)))
    ≡ a ++ 46 ∷ (b ++ 46 ∷ (c ++ 46 ∷ (d ++ 46 ∷ e)))
joined_is a b c d e part o r protected key iv same tag = rw (protected, key, iv, same, tag) refl

exact : (limits : Limits) (detached : Option (List ℕ)) (line : List ℕ) (t : JweParts) (o : EncryptedObject) → AreOctetsHandedIn detached → IsOctets line
    → encoded_in_compact detached line ≡ Ok t → decoded_object limits t ≡ Ok o → jwe_compact_text (is_some detached) o ≡ Ok line
exact limits detached line t o handed octets split h =
    let is = texts_of_compact detached line t octets split in
    let are = compact_are detached handed line t octets split in
    let spelled = object_spelled limits t o h in
    let one = one_read decoded_recipient is.recipient (map recipient_parts_of o.recipients) (ap (each decoded_recipient) (sym is.alone) ∙ spelled.recipients) in
    let recipient = recipient_spelled is.recipient one.0 one.1 in
    let texts = subst (AllByRecursion (IsRecipient (depth_of_each (length t.recipients)))) is.alone are.recipients in
    let key = text_of_meaning is.recipient.encrypted_key one.0.encrypted_key texts.0.encrypted_key recipient.encrypted_key in
    let iv = text_of_meaning t.iv o.iv are.iv spelled.iv in
    let part = part_is detached is.part t.ciphertext o.ciphertext is.octets is.ciphertext spelled.ciphertext in
    let tag = text_of_meaning t.tag o.tag are.tag spelled.tag in
    let no_aad : o.aad ≡ [] = same_answer o.aad [] (sym spelled.aad ∙ ap decoded is.aad ∙ decoded-nil) in
    compact_text_is (is_some detached) o one.0 one.2 (spelled.unprotected ∙ is.unprotected) (recipient.header ∙ is.header) no_aad
    ∙ ap Ok (joined_is t.protected is.recipient.encrypted_key t.iv is.part t.tag
    (kept (is_some detached) (base64url o.ciphertext)) o one.0 spelled.protected key iv part tag ∙ sym is.between_dots)

pub compact_texts_are_exact : CompactTextsAreExact
unfolding jwe_of encoded_jwe
compact_texts_are_exact limits detached text o handed octets form h =
    let line : List ℕ = without_line_end text in
    let read : (encoded_in_compact detached line >>= decoded_object limits) ≡ Ok o = rw form at h in
    let a = steps (encoded_in_compact detached line) (decoded_object limits) o read in
    exact limits detached line a.0 o handed (IsOctets-without_line_end text octets) a.1 a.2
