-- The promises of the commands together follow from the laws of the crates below.
use Rattle.std.proofs.Common.{◌≡◌, ◌↔◌, ℕ, suc, nat_le, Bool, true, false, not, ◌==◌, ◌||◌, if◌then◌else◌, List, [], ◌∷◌, ◌++◌, length, take, drop, is_some, Option, Result, Ok, Err, refl, sym, ap, ◌∙◌, subst, drop-cons}
use Rattle.std.proofs.lemmas.Bool.{and_parts, and_from, or_right}
use Rattle.std.proofs.lemmas.List.{take-append-drop}
use Rattle.std.specs.List.{AllByRecursion, Contains, list_any, list_all}
use Rattle.octets.specs.declared.refusal.Refusal.{Refusal}
use Rattle.octets.specs.declared.refusal.Refusal.TheVariants.{Key, Limit, Unsupported, KeyDoesNotFit, NotOpened, NotCompact}
use Rattle.octets.specs.Octets.{IsOctets}
use Rattle.octets.specs.Outcomes.{◌>>=◌, needs}
use Rattle.octets.specs.Plan.{OutputTexts, plan_from, planned}
use Rattle.keys.specs.declared.operation.Operation.TheVariants.{Verify}
use Rattle.keys.specs.Algorithms.{signature_alg_of}
use Rattle.keys.specs.Json.{json_value}
use Rattle.keys.specs.Keys.{OctetKey, allows}
use Rattle.keys.specs.KeySets.{items_count, key_objects, octet_keys, value_keys, key_set, KeysHaveOctets}
use Rattle.keys.specs.Limits.{Limits, limits}
use Rattle.octets.proofs.Lemmas.{steps, passed, same_answer}
use Rattle.objects.specs.CompactForm.{HasText, HasOnlySignature, JwsCompactFormIsExact, HasOnlyRecipient, JweCompactFormIsExact}
use Rattle.objects.specs.Jwe as jwe
use Rattle.objects.specs.Jws as jws
use Rattle.objects.specs.Texts.{handed_in, handed_out, AreOctetsHandedIn}
use Rattle.objects.proofs.Lemmas.{all_then}
use Rattle.tokens.specs.Decrypting.{decrypted}
use Rattle.tokens.specs.Encrypting as encrypting
use Rattle.tokens.specs.Signing as signing
use Rattle.tokens.specs.Verifying.{may_verify, verifies, are_verified, verified_payload, verifying_by, SignedVerifies}
use Rattle.tokens.proofs.Lemmas.{handed_back}
use Rattle.jose.specs.Headline.{EncryptedIsDecrypted, SignedIsVerified, GoesToCompactForm, FormatsGoBack}
use Rattle.tokens.specs.Jwe.{jwe_fmt_answer}
use Rattle.tokens.specs.Jws.{jws_fmt_answer}

-- ---- encrypted texts are decrypted

-- If texts are encrypted, they are encrypted to the keys of a set.
encrypted_to : (limits : Limits) (compact detach : Bool) (template random plaintext : List ℕ) (texts : OutputTexts) (keys : Result (List OctetKey) Refusal)
    → planned (plan_from (keys >>= λ set. encrypting.enc_plan limits compact detach set template) random) plaintext ≡ Ok texts
    → (set : List OctetKey) × ((keys ≡ Ok set) × (planned (plan_from (encrypting.enc_plan limits compact detach set template) random) plaintext ≡ Ok texts))
encrypted_to limits compact detach template random plaintext texts (Ok set) h = (set, (refl, h))
encrypted_to limits compact detach template random plaintext texts (Err e) h = cc h

-- Every object that is read and decrypted under the limits of writing is read and decrypted the same under those of reading.
pub record ReadsAlike (writing reading : Limits) : Type 0 where
  pub read : (detached : Option (List ℕ)) (text : List ℕ) (o : jwe.EncryptedObject) → jwe.jwe_of writing detached text ≡ Ok o
      → jwe.jwe_of reading detached text ≡ Ok o
  pub decrypts : (keys : List OctetKey) (o : jwe.EncryptedObject) (plaintext : List ℕ) → decrypted writing keys o ≡ Ok plaintext
      → decrypted reading keys o ≡ Ok plaintext

-- Every object is read and decrypted the same under the same limits.
pub alike : (limits : Limits) → ReadsAlike limits limits
alike limits = record { read = λ detached text o h. h; decrypts = λ keys o plaintext h. h }

pub encrypted_is_decrypted : KeysHaveOctets → (writing reading : Limits) → encrypting.EncryptedDecrypts writing → ReadsAlike writing reading
    → EncryptedIsDecrypted writing reading
encrypted_is_decrypted octets writing reading decrypts stays compact detach keys template random plaintext texts random_octets plaintext_octets h =
    let to = encrypted_to writing compact detach template random plaintext texts (key_set writing keys true) h in
    let set : List OctetKey = to.0 in
    let o = decrypts compact detach set template random plaintext texts (octets writing keys true set to.1.0) random_octets plaintext_octets to.1.1 in (
      o.0,
      (
        stays.read (handed_in detach texts.content) texts.text o.0 o.1.0,
        λ before after key key_text detached text among alone may only read.
            let same : set ≡ before ++ key ∷ after = same_answer set (before ++ key ∷ after) (sym to.1.0 ∙ among) in
            let may_decrypt : encrypting.MayDecrypt writing compact set key template =
            subst (λ set. encrypting.MayDecrypt writing compact set key template) (sym same) may in
            ap (λ keys. keys >>= λ set. jwe.jwe_of reading detached text >>= decrypted reading set) alone
            ∙ ap (λ o. o >>= decrypted reading (key ∷ [])) read
            ∙ stays.decrypts (key ∷ []) o.0 plaintext (o.1.1 before after key same may_decrypt only),
      ),
    )

-- ---- signed texts are verified

-- A key set has a key.
some_key : (text : List ℕ) (strict : Bool) (keys : List OctetKey) → key_set limits text strict ≡ Ok keys
    → (key : OctetKey) × (rest : List OctetKey) × (keys ≡ key ∷ rest)
unfolding key_set value_keys
some_key text strict keys h =
    let good : List OctetKey → Result (List OctetKey) Refusal = λ keys. needs (not (length keys == 0)) Key >>= λ _. Ok keys in
    let value = steps (json_value text) (λ value. value_keys limits value strict) keys h in
    let objects = steps (key_objects value.0) (λ objects. needs (nat_le (items_count objects) limits.keys) Limit >>= λ _. octet_keys limits strict objects
    >>= good) keys value.2 in
    let few = steps (needs (nat_le (items_count objects.0) limits.keys) Limit) (λ _. octet_keys limits strict objects.0 >>= good) keys objects.2 in
    let found = steps (octet_keys limits strict objects.0) good keys few.2 in
    let some = steps (needs (not (length found.0 == 0)) Key) (λ _. Ok found.0) keys found.2 in
    of_some found.0 (passed (not (length found.0 == 0)) Key some.0 some.1) (same_answer found.0 keys some.2)
  where
    of_some : (found : List OctetKey) → not (length found == 0) ≡ true → found ≡ keys → (key : OctetKey) × (rest : List OctetKey) × (keys ≡ key ∷ rest)
    of_some [] some same = cc some
    of_some (key ∷ rest) some same = (key, rest, sym same)

-- A key of a list is between the keys before it and those after it.
key_between : (keys : List OctetKey) (key : OctetKey) → Contains keys key → (before : List OctetKey) × (after : List OctetKey) × (keys ≡ before ++ key ∷ after)
key_between keys key is = (
  take is.0 keys,
  drop (suc is.0) keys,
  sym (take-append-drop is.0 keys) ∙ ap (λ rest. take is.0 keys ++ rest) (drop-cons keys is.0 key is.1 ∙ ap (λ k. k ∷ drop (suc is.0) keys) is.2),
)

-- this key alone verifies the object, which has this payload
record VerifiesAlone (o : jws.SignedObject) (payload : List ℕ) (key : OctetKey) : Type 0 where
  supported : list_any (λ s. is_some (signature_alg_of s.alg)) o.signatures ≡ true
  may : list_any (λ s. list_any (may_verify s) (key ∷ [])) o.signatures ≡ true
  some : list_any (λ s. list_any (verifies o.payload s) (key ∷ [])) o.signatures ≡ true
  each : list_any (λ s. verifies o.payload s key) o.signatures ≡ true
  payload_is : o.payload ≡ payload

-- This holds if the object is verified with this key alone.
verifies_alone : (key : OctetKey) (o : jws.SignedObject) (payload : List ℕ) → ((all : Bool) → verifying_by all true (key ∷ []) o ≡ Ok payload)
    → VerifiesAlone o payload key
unfolding verifying_by verified_payload
verifies_alone key o payload h =
    let any = tests false (h false) in
    let all = tests true (h true) in
    record {
      supported = any.0;
      may = any.1;
      some = any.2;
      each = (and_parts (list_any (λ s. verifies o.payload s key) o.signatures) true all.2).0;
      payload_is = any.3;
    }
  where
    tests : (all : Bool) → verifying_by all true (key ∷ []) o ≡ Ok payload
        → (list_any (λ s. is_some (signature_alg_of s.alg)) o.signatures ≡ true) × (list_any (λ s. list_any (may_verify s) (key ∷ [])) o.signatures ≡ true)
        × (are_verified all (key ∷ []) o ≡ true) × (o.payload ≡ payload)
    tests all h =
        let supports : Bool = list_any (λ s. is_some (signature_alg_of s.alg)) o.signatures in
        let may : Bool = list_any (λ s. list_any (may_verify s) (key ∷ [])) o.signatures in
        let verified : Unit {0} → Result (List ℕ) Refusal = λ _. needs (are_verified all (key ∷ []) o) NotOpened >>= λ _. Ok o.payload in
        let found = steps (verified_payload all (key ∷ []) o) (λ payload. Ok payload) payload h in
        let a = steps (needs supports Unsupported) (λ _. needs may KeyDoesNotFit >>= verified) found.0 found.1 in
        let b = steps (needs may KeyDoesNotFit) verified found.0 a.2 in
        let c = steps (needs (are_verified all (key ∷ []) o) NotOpened) (λ _. Ok o.payload) found.0 b.2 in
        let is : o.payload ≡ payload = same_answer o.payload found.0 c.2 ∙ same_answer found.0 payload found.2 in
        (passed supports Unsupported a.0 a.1, passed may KeyDoesNotFit b.0 b.1, passed (are_verified all (key ∷ []) o) NotOpened c.0 c.1, is)

-- If some element passes a test with a key, some element passes it with more keys.
with_more : {X : Type 0} (test : X → OctetKey → Bool) (key : OctetKey) (rest : List OctetKey) (xs : List X)
    → list_any (λ x. list_any (test x) (key ∷ [])) xs ≡ true
    → list_any (λ x. list_any (test x) (key ∷ rest)) xs ≡ true
with_more test key rest [] h = cc h
with_more test key rest (x ∷ xs) h = by_test (test x key) _ _ _ h (with_more test key rest xs)
  where
    by_test : (a b c d : Bool) → ((a || false) || c) ≡ true → (c ≡ true → d ≡ true) → ((a || b) || d) ≡ true
    by_test true b c d h later = refl
    by_test false b c d h later = or_right b d (later h)

-- So several keys verify the object together if each of them verifies it alone.
verified_with : (all wanted : Bool) (key : OctetKey) (rest : List OctetKey) (o : jws.SignedObject) (payload : List ℕ)
    → AllByRecursion (VerifiesAlone o payload) (key ∷ rest)
    → verifying_by all wanted (key ∷ rest) o ≡ Ok (if wanted then payload else [])
unfolding verifying_by verified_payload
verified_with all wanted key rest o payload is =
    let first = is.0 in
    rw (first.supported, with_more may_verify key rest o.signatures first.may, by_all all)
    (ap (λ payload. Ok (if wanted then payload else [])) first.payload_is)
  where
    each : (keys : List OctetKey) → AllByRecursion (VerifiesAlone o payload) keys
        → list_all (λ key. list_any (λ s. verifies o.payload s key) o.signatures) keys ≡ true
    each [] is = refl
    each (key ∷ rest) is = and_from (list_any (λ s. verifies o.payload s key) o.signatures) _ is.0.each (each rest is.1)

    by_all : (all : Bool) → are_verified all (key ∷ rest) o ≡ true
    by_all true = each (key ∷ rest) is
    by_all false = with_more (verifies o.payload) key rest o.signatures is.0.some

-- If texts are signed, they are signed with the keys of a set.
signed_by : (compact detach : Bool) (template payload : List ℕ) (texts : OutputTexts) (keys : Result (List OctetKey) Refusal)
    → planned (keys >>= λ set. signing.sig_plan limits compact detach set template) payload ≡ Ok texts
    → (set : List OctetKey) × ((keys ≡ Ok set) × (planned (signing.sig_plan limits compact detach set template) payload ≡ Ok texts))
signed_by compact detach template payload texts (Ok set) h = (set, (refl, h))
signed_by compact detach template payload texts (Err e) h = cc h

pub signed_is_verified : SignedVerifies → SignedIsVerified
signed_is_verified verifies compact detach keys template payload texts octets h =
    let by = signed_by compact detach template payload texts (key_set limits keys true) h in
    let o = verifies compact detach by.0 template payload texts octets by.1.1 in (
      o.0,
      (
        o.1.0,
        λ signers all wanted key_text detached text among held read.
            let same : by.0 ≡ signers = same_answer by.0 signers (sym by.1.0 ∙ among) in
            let each : AllByRecursion (VerifiesAlone o.0 payload) held.0 =
            all_then (λ key. Contains signers key × (allows key Verify ≡ true)) (VerifiesAlone o.0 payload) (λ key is.
            let place = key_between signers key is.0 in
            verifies_alone key o.0 payload (λ all. o.1.1 all place.0 place.1 key (same ∙ place.2) is.1)) held.0 held.1.1 in
            let some = some_key key_text false held.0 held.1.0 in
            let verified : verifying_by all wanted held.0 o.0 ≡ Ok (if wanted then payload else []) =
            subst (λ keys. verifying_by all wanted keys o.0 ≡ Ok (if wanted then payload else [])) (sym some.2)
            (verified_with all wanted some.0 some.1 o.0 payload (subst (AllByRecursion (VerifiesAlone o.0 payload)) some.2 each)) in
            ap (λ keys. keys >>= λ set. jws.jws_of limits detached text >>= verifying_by all wanted set) held.1.0
            ∙ ap (λ o. o >>= verifying_by all wanted held.0) read
            ∙ verified,
      ),
    )

-- ---- objects go to compact form

-- If a command writes the compact text of the object that it reads, it does so exactly if the object has one.
goes_there : {O : Type 0} (read : Option (List ℕ) → List ℕ → Result O Refusal) (compact_text : Bool → O → Result (List ℕ) Refusal)
    (content : O → List ℕ) (Fits : O → Type 0)
    → ((detach : Bool) (o : O) → HasText (compact_text detach o) ↔ Fits o) → ((detach : Bool) (o : O) → ¬ Fits o → compact_text detach o ≡ Err NotCompact)
    → (fmt : Bool → Bool → Option (List ℕ) → List ℕ → Result OutputTexts Refusal)
    → ((detach : Bool) (detached : Option (List ℕ)) (text : List ℕ)
    → fmt true detach detached text ≡ (read detached text >>= λ o. compact_text detach o
    >>= λ text. Ok (record { text = text; content = handed_out detach (content o) })))
    → GoesToCompactForm read Fits fmt
goes_there {O} read compact_text content Fits exists refused fmt is detach detached text o h =
    let with_content : List ℕ → Result OutputTexts Refusal = λ text. Ok (record { text = text; content = handed_out detach (content o) }) in
    let written : fmt true detach detached text ≡ (compact_text detach o >>= with_content) =
    is detach detached text ∙ ap (λ r. r >>= λ o. compact_text detach o >>= λ text. Ok (record { text = text; content = handed_out detach (content o) })) h in (
      (
        λ compact. let found = steps (compact_text detach o) with_content compact.0 (sym written ∙ compact.1) in (exists detach o).0 (found.0, found.1),
        λ fits. let found = (exists detach o).1 fits in (
          record { text = found.0; content = handed_out detach (content o) },
          written
              ∙ ap (λ r. r >>= with_content) found.1,
        ),
      ),
      λ none. written ∙ ap (λ r. r >>= with_content) (refused detach o none),
    )

pub signed_objects_go_there : JwsCompactFormIsExact → GoesToCompactForm (jws.jws_of limits) HasOnlySignature (jws_fmt_answer limits)
unfolding jws_fmt_answer
signed_objects_go_there exact = goes_there (jws.jws_of limits) jws.jws_compact_text (λ o. o.payload) HasOnlySignature exact.exists exact.refused
    (jws_fmt_answer limits) (λ detach detached text. refl)

pub encrypted_objects_go_there : JweCompactFormIsExact → GoesToCompactForm (jwe.jwe_of limits) HasOnlyRecipient (jwe_fmt_answer limits)
unfolding jwe_fmt_answer
encrypted_objects_go_there exact = goes_there (jwe.jwe_of limits) jwe.jwe_compact_text (λ o. o.ciphertext) HasOnlyRecipient exact.exists exact.refused
    (jwe_fmt_answer limits) (λ detach detached text. refl)

-- ---- objects come back from compact form

-- objects that are read from each of their texts, with the content inside or detached
module _ {O : Type 0} (read : Option (List ℕ) → List ℕ → Result O Refusal) (json_text : Bool → O → List ℕ)
    (compact_text : Bool → O → Result (List ℕ) Refusal) (content : O → List ℕ)
    (spelled : (detached : Option (List ℕ)) (text : List ℕ) (o : O) → AreOctetsHandedIn detached → IsOctets text → read detached text ≡ Ok o → (detach : Bool)
    → (read (handed_in detach (content o)) (json_text detach o) ≡ Ok o)
    × ((text : List ℕ) → compact_text detach o ≡ Ok text → read (handed_in detach (content o)) text ≡ Ok o)) where
  abbrev text_of : Bool → Bool → O → Result (List ℕ) Refusal
  text_of true detach o = compact_text detach o
  text_of false detach o = Ok (json_text detach o)

  abbrev written : Bool → Bool → O → Result OutputTexts Refusal
  written compact detach o = text_of compact detach o >>= λ text. Ok (record { text = text; content = handed_out detach (content o) })

  -- So the texts that are written of an object that was read are read as this object.
  written_is_read : (detached : Option (List ℕ)) (text : List ℕ) (o : O) → AreOctetsHandedIn detached → IsOctets text → read detached text ≡ Ok o
      → (compact detach : Bool) (texts : OutputTexts) → written compact detach o ≡ Ok texts → read (handed_in detach texts.content) texts.text ≡ Ok o
  written_is_read detached text o handed octets is compact detach texts h =
      let form = steps (text_of compact detach o) (λ text. Ok (record { text = text; content = handed_out detach (content o) })) texts h in
      let same = same_answer (record { text = form.0; content = handed_out detach (content o) }) texts form.2 in
      subst (λ (t : OutputTexts). read (handed_in detach t.content) t.text ≡ Ok o) same
      (ap (λ detached. read detached form.0) (handed_back detach (content o)) ∙ by_form compact form.0 form.1)
    where
      by_form : (compact : Bool) (text : List ℕ) → text_of compact detach o ≡ Ok text → read (handed_in detach (content o)) text ≡ Ok o
      by_form true text h = (spelled detached _ o handed octets is detach).1 text h
      by_form false text h = ap (read (handed_in detach (content o))) (sym (same_answer (json_text detach o) text h))
          ∙ (spelled detached _ o handed octets is detach).0

  goes_back : (Fits : O → Type 0) → ((detach : Bool) (o : O) → HasText (compact_text detach o) ↔ Fits o)
      → FormatsGoBack read Fits (λ compact detach detached text. read detached text >>= written compact detach)
  goes_back Fits exists beside_json beside_compact detached text o handed octets is fits =
      let form = (exists beside_compact o).1 fits in
      let json : OutputTexts = record { text = json_text beside_json o; content = handed_out beside_json (content o) } in
      let compact : OutputTexts = record { text = form.0; content = handed_out beside_compact (content o) } in
      let in_compact : written true beside_compact o ≡ Ok compact =
      ap (λ r. r >>= λ text. Ok (record { text = text; content = handed_out beside_compact (content o) })) form.1 in
      let read_back = written_is_read detached text o handed octets is in (
        json,
        (
          compact,
          (
            ap (λ r. r >>= written false beside_json) is,
            (
              ap (λ r. r >>= written true beside_compact) (read_back false beside_json json refl) ∙ in_compact,
              ap (λ r. r >>= written false beside_json) (read_back true beside_compact compact in_compact),
            ),
          ),
        ),
      )

pub signed_objects_go_back : JwsCompactFormIsExact → jws.ObjectsAreMade → jws.TextsSpellObjects
    → FormatsGoBack (jws.jws_of limits) HasOnlySignature (jws_fmt_answer limits)
unfolding jws_fmt_answer
signed_objects_go_back exact made spells =
    goes_back (jws.jws_of limits) jws.json_text jws.jws_compact_text (λ o. o.payload)
    (λ detached text o handed octets read. let m = made limits detached text o handed octets read in spells limits m.0 o m.1.0 m.1.1)
    HasOnlySignature exact.exists

pub encrypted_objects_go_back : JweCompactFormIsExact → jwe.ObjectsAreMade → jwe.TextsSpellObjects
    → FormatsGoBack (jwe.jwe_of limits) HasOnlyRecipient (jwe_fmt_answer limits)
unfolding jwe_fmt_answer
encrypted_objects_go_back exact made spells =
    goes_back (jwe.jwe_of limits) jwe.json_text jwe.jwe_compact_text (λ o. o.ciphertext)
    (λ detached text o handed octets read. let m = made limits detached text o handed octets read in spells limits m.0 o m.1.0 m.1.1)
    HasOnlyRecipient exact.exists
