-- If keys and a template settle an encryption, every plaintext that is not too long has an object, and this object has texts.
use Rattle.std.proofs.Common.{◌≡◌, ℕ, ◌≤◌, ◌&&◌, ◌==◌, Bool, true, false, not, List, [], ◌∷◌, length, map, take, Ok, IfErr, refl, sym, ap, ◌∙◌, subst, arith}
use Rattle.std.proofs.lemmas.Bool.{and_parts, leb-true, not-false}
use Rattle.std.proofs.lemmas.List.{length-map}
use Rattle.std.proofs.lemmas.Result.{IfErr-weaker}
use Rattle.octets.specs.declared.refusal.Refusal.TheVariants.{Limit}
use Rattle.octets.specs.Outcomes.{◌>>=◌, needs}
use Rattle.octets.specs.Plan.{OutputTexts, Plan}
use Rattle.octets.proofs.Lemmas.{IsOctets-take}
use Rattle.ciphers.specs.Openings.{is_longer}
use Rattle.ciphers.specs.Sealing.{Sealed, IsTooLong}
use Rattle.ciphers.proofs.Lemmas.{longer_decided}
use Rattle.keys.specs.Keys.{OctetKey}
use Rattle.keys.specs.Limits.{limits, are_few}
use Rattle.objects.specs.Jwe.{EncryptedObject, built, parts_of, compact_parts, is_compact, json_text, jwe_compact_text, jwe_text}
use Rattle.objects.specs.Texts.{has_members}
use Rattle.tokens.specs.Choosing.{RecipientKey, is_alone, EncryptionPlan, read_encryption}
use Rattle.tokens.specs.Encrypting.{random_len, for_recipients, cek_by, sealing_by, sealed_by, parts_by, encrypted, written_of, plan_by, EncryptingMakesTexts}
use Rattle.tokens.specs.Template.{is_empty}
use Rattle.tokens.proofs.Encrypting.Deliver.{drawn_by_each, as_many_drawn}
use Rattle.tokens.proofs.Encrypting.Recipients.{OctetLaws, Writes, writes, made_by}
use Rattle.tokens.proofs.Encrypting.Objects.{object_by, built_is, plan_is}
use Rattle.tokens.proofs.Encrypting.SoundLimits.{these_are_sound}
use Rattle.tokens.proofs.Encrypting.Settle.{Settles, holds_no_more, settles, stands_alone}
use Rattle.tokens.proofs.WrittenHeaders.Members.{no_members_there}

-- An empty header has no members.
-- An object with one recipient fits into compact form, if it has no unprotected header and no additional data.
fits : (e : EncryptionPlan) (cek : List ℕ) (o : EncryptedObject) (xs : List (RecipientKey × List ℕ)) → is_alone e.recipient_keys ≡ true
    → length xs ≡ length e.recipient_keys → 1 ≤ length e.recipient_keys
    → not (has_members o.unprotected) ≡ true → (length o.aad == 0) ≡ true → is_compact o (map (made_by e cek) xs) ≡ true
fits e cek o [] alone long some unprotected aad = absurd (omega (arith, long))
fits e cek o (x ∷ []) alone long some unprotected aad = rw (unprotected, alone, aad) refl
fits e cek o (x ∷ (other ∷ rest)) alone long some unprotected aad = absurd (omega (arith, long, leb-true (length e.recipient_keys) 1 alone))

-- The object has a text.
pub has_text : (compact detach : Bool) (e : EncryptionPlan) (random : List ℕ) (s : Sealed) → holds_no_more compact e ≡ true → 1 ≤ length e.recipient_keys
    → (text : List ℕ) × (jwe_text compact detach (object_by e random s) ≡ Ok text)
unfolding jwe_compact_text
has_text true detach e random s alone some =
    let o : EncryptedObject = object_by e random s in
    let first = and_parts (is_alone e.recipient_keys) (is_empty e.unprotected && (length e.aad == 0)) alone in
    let second = and_parts (is_empty e.unprotected) (length e.aad == 0) first.1 in
    let held : is_compact o o.recipients ≡ true =
    fits e (cek_by e random) o (drawn_by_each e random) first.0 (as_many_drawn e.recipient_keys (for_recipients e random)) some
    (no_members_there e.unprotected second.0) second.1 in
    (compact_parts detach (parts_of o), rw held refl)
has_text false detach e random s alone some = (json_text detach (object_by e random s), refl)

-- A plaintext is refused only with Limit, and only if it is too long.
whole_text : (compact detach : Bool) (keys : List OctetKey) (e : EncryptionPlan) (random plaintext : List ℕ) → Settles keys e → Writes e random
    → are_few limits (length e.recipient_keys) ≡ true
    → holds_no_more compact e ≡ true
    → IfErr ((plan_by limits compact detach e random).whole plaintext) (λ refusal. (refusal ≡ Limit) × IsTooLong (sealing_by e random) plaintext)
unfolding encrypted sealed_by
whole_text compact detach keys e random plaintext by w few alone = by_test (not (is_longer (length plaintext) (sealing_by e random).longest)) refl
  where
    by_test : (short : Bool) → not (is_longer (length plaintext) (sealing_by e random).longest) ≡ short
        → IfErr (((needs short Limit >>= λ passed. Ok ((sealing_by e random).sealed plaintext)) >>= λ s. built limits (parts_by e random s))
        >>= written_of compact detach)
        (λ refusal. (refusal ≡ Limit) × IsTooLong (sealing_by e random) plaintext)
    by_test false long = (refl, (longer_decided (length plaintext) (sealing_by e random).longest).0 (not-false _ long))
    by_test true short =
        let s : Sealed = (sealing_by e random).sealed plaintext in
        rw (built_is limits refl keys e random s by w few, (has_text compact detach e random s alone by.some).1) tt

-- This holds of every plan that keys and a template settle.
pub encrypting_makes_texts : OctetLaws → EncryptingMakesTexts
encrypting_makes_texts laws compact detach keys template random plaintext plan few key_octets octets h =
    let is = plan_is limits compact detach keys template random plan h in
    let e : EncryptionPlan = is.0 in
    let by = settles limits these_are_sound compact keys template e is.1 in
    let long : length e.recipient_keys ≡ length keys = sym (length-map e.recipient_keys (λ r. r.key)) ∙ ap length by.keys_are in
    let w = writes laws keys e (take (random_len e) random) by key_octets (IsOctets-take (random_len e) random octets) is.2 in
    let drawn = take (random_len e) random in
    let only = whole_text compact detach keys e drawn plaintext by w (ap (λ n. are_few limits n) long ∙ few)
    (stands_alone limits these_are_sound compact keys template e is.1) in
    subst (λ (p : Plan OutputTexts). IfErr (p.whole plaintext) (λ refusal. (refusal ≡ Limit)
    × ((e : EncryptionPlan) × (read_encryption limits compact keys template ≡ Ok e) × IsTooLong (sealing_by e (take (random_len e) random)) plaintext))) is.3
    (IfErr-weaker ((plan_by limits compact detach e drawn).whole plaintext) _ _ (λ refusal h. (h.0, (e, is.1, h.1))) only)
