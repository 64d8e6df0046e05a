-- The content encryption key, and its delivery to each recipient with the octets that are drawn for it.
use Rattle.std.proofs.Common.{◌≡◌, ℕ, suc, ◌+◌, ◌≤◌, ◌||◌, Bool, true, false, not, List, [], ◌∷◌, length, take, drop, map, if◌then◌else◌, Some, None, refl, sym, ap, ◌∙◌, subst, arith, length-drop}
use Rattle.std.proofs.lemmas.List.{length-take-le}
use Rattle.std.proofs.lemmas.Bool.{lt-leb, not-true, or_parts}
use Rattle.std.specs.List.{AllByRecursion, list_any}
use Rattle.std.specs.Option.{unwrap_or}
use Rattle.octets.specs.Octets.{IsOctets}
use Rattle.ciphers.specs.Delivery.{IsDelivered}
use Rattle.octets.proofs.Lemmas.{IsOctets-take, IsOctets-drop}
use Rattle.ciphers.specs.Sealing.{cek_len, iv_len}
use Rattle.keys.specs.declared.algorithm.Algorithm.TheVariants.{Encryption as EncryptionWith}
use Rattle.ciphers.specs.declared.content_alg.ContentAlg.{ContentAlg}
use Rattle.keys.specs.Keys.{OctetKey, AreOctetKeys, fits}
use Rattle.objects.proofs.Lemmas.{all_then, all_both}
use Rattle.tokens.specs.Algorithms.{parameters_by}
use Rattle.tokens.specs.Choosing.{RecipientKey, is_direct, is_alone, direct_key_is_alone, EncryptionPlan}
use Rattle.tokens.specs.Delivering.{drawn_for, drawn_for_all, Delivery, delivery_to, deliveries_to}
use Rattle.tokens.specs.Encrypting.{direct_key, drawn_cek, cek_drawn, random_len, for_recipients, after_recipients, cek_by}
use Rattle.tokens.proofs.AlgorithmCases.{direct_key_fits, iv_is_octets, is_delivered}
use Rattle.tokens.proofs.Encrypting.Settle.{Receives, Settles}

-- ---- the recipients with the octets that are drawn for them

-- each recipient with its octets, in order
abbrev pub with_drawn : List RecipientKey → List ℕ → List (RecipientKey × List ℕ)
with_drawn [] drawn = []
with_drawn (r ∷ rest) drawn = (r, take (drawn_for r) drawn) ∷ with_drawn rest (drop (drawn_for r) drawn)

-- a fact about the recipient, and as many octets as are drawn for it
pub record IsDrawn (P : RecipientKey → Type 0) (x : RecipientKey × List ℕ) : Type 0 where
  pub holds : P x.0
  pub octets : IsOctets x.1
  pub long : length x.1 ≡ drawn_for x.0

-- If a fact holds of each recipient and enough octets are drawn, each recipient has its octets.
pub all_drawn : (P : RecipientKey → Type 0) (recipient_keys : List RecipientKey) (drawn : List ℕ) → AllByRecursion P recipient_keys → IsOctets drawn
    → length drawn ≡ drawn_for_all recipient_keys
    → AllByRecursion (IsDrawn P) (with_drawn recipient_keys drawn)
all_drawn P [] drawn all octets long = tt
all_drawn P (r ∷ rest) drawn all octets long =
    let n : ℕ = drawn_for r in
    let here : length (take n drawn) ≡ n = length-take-le n drawn (omega (arith, long)) in
    let later : length (drop n drawn) ≡ drawn_for_all rest = length-drop n drawn ∙ omega (arith, long) in (
      record { holds = all.0; octets = IsOctets-take n drawn octets; long = here },
      all_drawn P rest (drop n drawn) all.1 (IsOctets-drop n drawn octets) later,
    )

-- There are as many recipients with octets as recipients.
pub as_many_drawn : (recipient_keys : List RecipientKey) (drawn : List ℕ) → length (with_drawn recipient_keys drawn) ≡ length recipient_keys
as_many_drawn [] drawn = refl
as_many_drawn (r ∷ rest) drawn = ap suc (as_many_drawn rest (drop (drawn_for r) drawn))

-- the delivery to a recipient
abbrev pub delivery : EncryptionPlan → List ℕ → RecipientKey × List ℕ → Delivery
delivery e cek x = delivery_to e cek x.0 x.1

-- The deliveries are those to the recipients with their octets.
pub deliveries_are : (e : EncryptionPlan) (cek : List ℕ) (recipient_keys : List RecipientKey) (drawn : List ℕ)
    → deliveries_to e cek recipient_keys drawn ≡ map (delivery e cek) (with_drawn recipient_keys drawn)
deliveries_are e cek [] drawn = refl
deliveries_are e cek (r ∷ rest) drawn = ap (λ others. delivery_to e cek r (take (drawn_for r) drawn) ∷ others)
    (deliveries_are e cek rest (drop (drawn_for r) drawn))

-- ---- a key that is used directly or drawn

-- The content encryption key has the right length. If a key is used directly, it is this key.
pub record IsCek (enc : ContentAlg) (recipient_keys : List RecipientKey) (cek : List ℕ) : Type 0 where
  pub octets : IsOctets cek
  pub fits : length cek ≡ cek_len enc
  pub direct : AllByRecursion (λ r. is_direct r.management ≡ true → cek ≡ r.key.octets) recipient_keys

-- For a single recipient, the direct key or the drawn octets are the content encryption key.
cek_of_one : (enc : ContentAlg) (r : RecipientKey) (drawn : List ℕ) (direct : Bool) → is_direct r.management ≡ direct
    → fits r.key (EncryptionWith r.management enc) ≡ true
    → IsOctets r.key.octets → IsOctets drawn → length drawn ≡ drawn_cek (if direct then Some r.key.octets else None) (cek_len enc)
    → IsCek enc (r ∷ []) (unwrap_or (if direct then Some r.key.octets else None) drawn)
cek_of_one enc r drawn true is fit octets random long = record {
  octets = octets;
  fits = direct_key_fits r.management enc r.key is fit;
  direct = (λ e. refl, tt);
}
cek_of_one enc r drawn false is fit octets random long = record { octets = random; fits = long; direct = (λ e. cc (is, e), tt) }

-- If no recipient uses its key directly, this is true of each of them.
none_direct : (recipient_keys : List RecipientKey) → list_any (λ r. is_direct r.management) recipient_keys ≡ false
    → AllByRecursion (λ r. is_direct r.management ≡ false) recipient_keys
none_direct [] h = tt
none_direct (r ∷ rest) h = let both = or_parts (is_direct r.management) (list_any (λ r. is_direct r.management) rest) h in (both.0, none_direct rest both.1)

-- The direct key or the drawn octets are the content encryption key of all recipients.
pub cek_is : (enc : ContentAlg) (recipient_keys : List RecipientKey) (drawn : List ℕ) → direct_key_is_alone recipient_keys ≡ true
    → 1 ≤ length recipient_keys
    → AllByRecursion (λ r. fits r.key (EncryptionWith r.management enc) ≡ true) recipient_keys
    → AllByRecursion (λ r. IsOctets r.key.octets) recipient_keys → IsOctets drawn
    → length drawn ≡ drawn_cek (direct_key recipient_keys) (cek_len enc) → IsCek enc recipient_keys (unwrap_or (direct_key recipient_keys) drawn)
cek_is enc [] drawn together some fit octets random long = absurd (omega arith)
cek_is enc (r ∷ []) drawn together some fit octets random long = cek_of_one enc r drawn (is_direct r.management) refl fit.0 octets.0 random long
cek_is enc (r ∷ (other ∷ rest)) drawn together some fit octets random long =
    let all : List RecipientKey = r ∷ (other ∷ rest) in
    let several : is_alone all ≡ false = lt-leb (suc (suc (length rest))) 1 (omega arith) in
    let wrap : not (list_any (λ r. is_direct r.management) all) ≡ true =
    subst (λ alone. (alone || not (list_any (λ r. is_direct r.management) all)) ≡ true) several together in
    let none = none_direct all (not-true _ wrap) in
    let made : IsCek enc all drawn = record {
      octets = random;
      fits = long ∙ ap (λ direct. drawn_cek (if direct then Some r.key.octets else None) (cek_len enc)) none.0;
      direct = all_then (λ r. is_direct r.management ≡ false) _ (λ r is e. cc (is, e)) all none;
    } in
    subst (λ direct. IsCek enc all (unwrap_or (if direct then Some r.key.octets else None) drawn)) (sym none.0) made

-- ---- how the key is delivered

-- The recipient is delivered the content encryption key. Its key and its initialization vector are octets.
pub record Delivers (e : EncryptionPlan) (cek : List ℕ) (x : RecipientKey × List ℕ) : Type 0 where
  pub key : IsOctets x.0.key.octets
  pub iv : IsOctets (parameters_by (delivery e cek x).management).iv
  pub delivers : IsDelivered x.0.management e.encryption x.0.key.octets (parameters_by (delivery e cek x).management)
      (delivery e cek x).encrypted_key cek

-- A recipient is delivered every content encryption key that has the right length and is its direct key, if it uses one.
delivered_to : (e : EncryptionPlan) (cek : List ℕ) (x : RecipientKey × List ℕ) → IsOctets cek → length cek ≡ cek_len e.encryption
    → IsOctets x.0.key.octets
    → (is_direct x.0.management ≡ true → cek ≡ x.0.key.octets) → IsOctets x.1 → length x.1 ≡ drawn_for x.0 → Delivers e cek x
delivered_to e cek x octets fits key direct drawn long =
    let alg = x.0.management in
    record {
      key = key;
      iv = iv_is_octets e.encryption x.0.key.octets x.1 e.p2c cek alg _ drawn;
      delivers = record {
        octets = octets;
        is_delivered = is_delivered e.encryption x.0.key.octets x.1 e.p2c cek alg fits direct long;
      };
    }

-- ---- with the octets that are drawn

-- If the keys are octets, so are the keys of the recipients.
octet_keys : (recipient_keys : List RecipientKey) (keys : List OctetKey) → map (λ r. r.key) recipient_keys ≡ keys → AreOctetKeys keys
    → AllByRecursion (λ r. IsOctets r.key.octets) recipient_keys
octet_keys recipient_keys keys same octets = of_images recipient_keys (subst AreOctetKeys (sym same) octets)
  where
    of_images : (recipient_keys : List RecipientKey) → AreOctetKeys (map (λ r. r.key) recipient_keys)
        → AllByRecursion (λ r. IsOctets r.key.octets) recipient_keys
    of_images [] all = tt
    of_images (r ∷ rest) all = (all.0, of_images rest all.1)

-- After the octets for the recipients, there are enough for the content encryption key and the initialization vector.
pub after_long : (e : EncryptionPlan) (random : List ℕ) → length random ≡ random_len e
    → length (after_recipients e random) ≡ cek_drawn e + iv_len e.encryption
after_long e random long = length-drop (drawn_for_all e.recipient_keys) random ∙ omega (arith, long)

-- The content encryption key fits the recipients.
pub cek_by_is : (keys : List OctetKey) (e : EncryptionPlan) (random : List ℕ) → Settles keys e → AreOctetKeys keys → IsOctets random
    → length random ≡ random_len e
    → IsCek e.encryption e.recipient_keys (cek_by e random)
cek_by_is keys e random by key_octets octets long =
    let later : List ℕ = after_recipients e random in
    cek_is e.encryption e.recipient_keys (take (cek_drawn e) later) by.together by.some (all_then (Receives e) _ (λ r is. is.fit) e.recipient_keys by.receive)
    (octet_keys e.recipient_keys keys by.keys_are key_octets) (IsOctets-take (cek_drawn e) later (IsOctets-drop (drawn_for_all e.recipient_keys) random octets))
    (length-take-le (cek_drawn e) later (omega (arith, after_long e random long)))

-- the recipients with the octets that are drawn for each
abbrev pub drawn_by_each : EncryptionPlan → List ℕ → List (RecipientKey × List ℕ)
drawn_by_each e random = with_drawn e.recipient_keys (for_recipients e random)

-- Each recipient has its octets.
pub each_drawn : (P : RecipientKey → Type 0) (e : EncryptionPlan) (random : List ℕ) → AllByRecursion P e.recipient_keys → IsOctets random
    → length random ≡ random_len e
    → AllByRecursion (IsDrawn P) (drawn_by_each e random)
each_drawn P e random all octets long =
    let n : ℕ = drawn_for_all e.recipient_keys in
    all_drawn P e.recipient_keys (for_recipients e random) all (IsOctets-take n random octets) (length-take-le n random (omega (arith, long)))

-- Each recipient is delivered the content encryption key.
pub each_delivered : (keys : List OctetKey) (e : EncryptionPlan) (random : List ℕ) → Settles keys e → AreOctetKeys keys → IsOctets random
    → length random ≡ random_len e
    → AllByRecursion (Delivers e (cek_by e random)) (drawn_by_each e random)
each_delivered keys e random by key_octets octets long =
    let cek : List ℕ = cek_by e random in
    let is : IsCek e.encryption e.recipient_keys cek = cek_by_is keys e random by key_octets octets long in
    let P : RecipientKey → Type 0 = λ r. IsOctets r.key.octets × (is_direct r.management ≡ true → cek ≡ r.key.octets) in
    let each_key : AllByRecursion P e.recipient_keys =
    all_both (λ r key direct. (key, direct)) e.recipient_keys (octet_keys e.recipient_keys keys by.keys_are key_octets) is.direct in
    all_then (IsDrawn P) (Delivers e cek) (λ x d. delivered_to e cek x is.octets is.fits d.holds.0 d.holds.1 d.octets d.long) (drawn_by_each e random)
    (each_drawn P e random each_key octets long)
