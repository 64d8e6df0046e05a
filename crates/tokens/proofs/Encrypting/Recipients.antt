-- The headers that are written for the deliveries to the recipients, and the recipients that are read from them.
use Rattle.std.proofs.Common.{◌≡◌, ℕ, suc, ◌≤◌, true, false, List, [], ◌∷◌, length, take, map, Ok, sym, ◌∙◌, ap, subst, arith}
use Rattle.std.proofs.lemmas.Bool.{lt-leb}
use Rattle.std.proofs.lemmas.Simd.{map-map}
use Rattle.std.specs.List.{AllByRecursion}
use Rattle.serde_json.specs.Data.{Members, no_members}
use Rattle.octets.specs.Octets.{IsOctets}
use Rattle.ciphers.specs.Delivery.{Parameters, key_tag_of, IsDelivered}
use Rattle.ciphers.specs.Sealing.{IsOpening}
use Rattle.ciphers.specs.declared.content_alg.ContentAlg.{ContentAlg}
use Rattle.ciphers.specs.declared.key_alg.KeyAlg.{KeyAlg}
use Rattle.ciphers.specs.Algorithms.{management_algs}
use Rattle.keys.specs.Keys.{OctetKey, AreOctetKeys}
use Rattle.objects.specs.Headers.{are_disjoint}
use Rattle.objects.specs.Jwe.{RecipientParts, Recipient, recipient_of}
use Rattle.objects.specs.Texts.{each}
use Rattle.objects.proofs.Lemmas.{all_then, all_both, Entries}
use Rattle.tokens.specs.Algorithms.{parameters_by}
use Rattle.tokens.specs.Choosing.{RecipientKey, is_alone, EncryptionPlan}
use Rattle.tokens.specs.Delivering.{drawn_for, parameters_with, Delivery, deliveries_to}
use Rattle.tokens.specs.Encrypting.{random_len, for_recipients, cek_by, with_parameters, protected_header, per_recipient_header, header_of, recipient_parts_by, recipients_by}
use Rattle.tokens.proofs.AlgorithmCases.{tag_alike}
use Rattle.tokens.proofs.Encrypting.Deliver.{with_drawn, IsDrawn, delivery, deliveries_are, Delivers, drawn_by_each, each_drawn, each_delivered}
use Rattle.tokens.proofs.WrittenHeaders.Texts.{ReadsBack, read_back}
use Rattle.tokens.proofs.WrittenHeaders.Joint.{AreFree, IsJoint, into_protected, into_own, IsHeader, empty_header}
use Rattle.tokens.proofs.Encrypting.Parameters.{parameters_of, with_parameters_is, awaits_management, free_names, AreParameters, are_parameters, header_with, recipient, recipient_is_read}
use Rattle.tokens.proofs.Each.{each_made}
use Rattle.tokens.proofs.Encrypting.Settle.{joint_of, Receives, Settles}

-- laws of the ciphers that say which values are octets
pub record OctetLaws : Type 0 where
  pub opened : (alg : ContentAlg) (cek iv aad c tag p : List ℕ) → IsOctets cek → IsOctets iv → IsOpening alg cek iv aad c tag p → IsOctets c × IsOctets tag
  pub delivering : (alg : KeyAlg) (enc : ContentAlg) (key : List ℕ) (p : Parameters) (encrypted cek : List ℕ) → IsOctets key → IsOctets p.iv
      → IsDelivered alg enc key p encrypted cek → IsOctets encrypted × IsOctets (key_tag_of alg key p cek)

-- ---- the parameters

-- the parameters of the delivery to a recipient
abbrev pub parameters_for : EncryptionPlan → List ℕ → RecipientKey × List ℕ → Entries
parameters_for e cek x = parameters_of e.given (delivery e cek x)

-- A recipient is delivered the content encryption key with the octets that are drawn for it. The encrypted key and the parameters are
-- octets.
pub record IsReady (e : EncryptionPlan) (cek : List ℕ) (x : RecipientKey × List ℕ) : Type 0 where
  pub receives : Receives e x.0
  pub delivers : Delivers e cek x
  pub parameters : AreParameters (delivery e cek x).management
  pub encrypted : IsOctets (delivery e cek x).encrypted_key

-- If the laws of the ciphers hold, each recipient that receives and is delivered the key is ready.
ready : OctetLaws → (e : EncryptionPlan) (cek : List ℕ) (x : RecipientKey × List ℕ) → IsDrawn (Receives e) x → Delivers e cek x → IsReady e cek x
ready laws e cek x drawn delivers =
    let alg = x.0.management in
    let tag : List ℕ = key_tag_of alg x.0.key.octets (parameters_with x.1 e.p2c) cek in
    let both = laws.delivering alg e.encryption x.0.key.octets (parameters_by (delivery e cek x).management)
    (delivery e cek x).encrypted_key cek
    delivers.key delivers.iv delivers.delivers in
    let tag_octets : IsOctets tag = subst IsOctets (tag_alike e.encryption x.0.key.octets x.1 e.p2c cek alg tag) both.1 in
    record {
      receives = drawn.holds;
      delivers = delivers;
      parameters = are_parameters alg x.1 e.p2c tag drawn.octets drawn.long
          (λ password. let count = drawn.holds.awaits.count password in (count.some, count.whole)) tag_octets;
      encrypted = both.0;
    }

-- ---- the headers

-- The header of the recipient may be written, and with it the joint header has the parameters.
pub record IsHeaded (e : EncryptionPlan) (cek : List ℕ) (header own : Members) (x : RecipientKey × List ℕ) : Type 0 where
  pub joint : IsJoint header e.unprotected own (parameters_for e cek x) (joint_of e)
  pub written : IsHeader own

-- No name of the parameters is used in the joint header.
free : (e : EncryptionPlan) (cek : List ℕ) (x : RecipientKey × List ℕ) → IsReady e cek x → AreFree (joint_of e) (parameters_for e cek x)
free e cek x is =
    let awaits = is.receives.awaits in
    free_names e.given.alg e.given.p2c _ (delivery e cek x).management (joint_of e) awaits.alg_there
    (awaits_management e.given.alg e.given.p2c x.0.management x.1 e.p2c _ (joint_of e) awaits)

-- If there is one recipient, its parameters are in the protected header.
headed_one : (e : EncryptionPlan) (cek : List ℕ) (x : RecipientKey × List ℕ) → IsReady e cek x → are_disjoint e.protected e.unprotected no_members ≡ true
    → IsHeaded e cek (with_parameters e.given (delivery e cek x) e.protected) no_members x
headed_one e cek x is disjoint = record {
  joint = rw with_parameters_is (into_protected e.protected e.unprotected (parameters_for e cek x) disjoint (free e cek x is));
  written = empty_header;
}

-- If there are several recipients, the parameters of each are in its own header.
headed_among : (e : EncryptionPlan) (cek : List ℕ) (x : RecipientKey × List ℕ) → are_disjoint e.protected e.unprotected no_members ≡ true → IsReady e cek x
    → IsHeaded e cek e.protected (with_parameters e.given (delivery e cek x) no_members) x
headed_among e cek x disjoint is = record {
  joint = rw with_parameters_is (into_own e.protected e.unprotected (parameters_for e cek x) disjoint (free e cek x is));
  written = header_with e.given (delivery e cek x) no_members empty_header is.parameters;
}

-- The protected header and the headers of the recipients may be written, and the joint headers have the parameters.
headed : (e : EncryptionPlan) (cek : List ℕ) (recipient_keys : List RecipientKey) (drawn : List ℕ) → IsHeader e.protected
    → are_disjoint e.protected e.unprotected no_members ≡ true → 1 ≤ length recipient_keys
    → AllByRecursion (IsReady e cek) (with_drawn recipient_keys drawn)
    → (let header = protected_header e.given (is_alone recipient_keys) (deliveries_to e cek recipient_keys drawn) e.protected in
    IsHeader header × AllByRecursion (λ x. IsHeaded e cek header (per_recipient_header e.given (is_alone recipient_keys) (delivery e cek x)) x)
    (with_drawn recipient_keys drawn))
headed e cek [] drawn may disjoint some all = absurd (omega arith)
headed e cek (r ∷ []) drawn may disjoint some all =
    let x : RecipientKey × List ℕ = (r, take (drawn_for r) drawn) in
    (header_with e.given (delivery e cek x) e.protected may all.0.parameters, (headed_one e cek x all.0 disjoint, tt))
headed e cek (r ∷ (other ∷ rest)) drawn may disjoint some all =
    let several : is_alone (r ∷ (other ∷ rest)) ≡ false = lt-leb (suc (suc (length rest))) 1 (omega arith) in
    let xs : List (RecipientKey × List ℕ) = with_drawn (r ∷ (other ∷ rest)) drawn in
    let each_headed : AllByRecursion (λ x. IsHeaded e cek e.protected (per_recipient_header e.given false (delivery e cek x)) x) xs =
    all_then (IsReady e cek) _ (λ x is. headed_among e cek x disjoint is) xs all in
    subst (λ alone. let header = protected_header e.given alone (deliveries_to e cek (r ∷ (other ∷ rest)) drawn) e.protected in
    IsHeader header × AllByRecursion (λ x. IsHeaded e cek header (per_recipient_header e.given alone (delivery e cek x)) x) xs) (sym several) (may, each_headed)

-- ---- what is written with random octets

-- the recipient is delivered the content encryption key and has its headers
pub record IsWritten (e : EncryptionPlan) (random : List ℕ) (x : RecipientKey × List ℕ) : Type 0 where
  pub ready : IsReady e (cek_by e random) x
  pub headed : IsHeaded e (cek_by e random) (header_of e random) (per_recipient_header e.given (is_alone e.recipient_keys) (delivery e (cek_by e random) x)) x

-- The protected header may be written and reads back, and each recipient is written.
pub record Writes (e : EncryptionPlan) (random : List ℕ) : Type 0 where
  pub header : IsHeader (header_of e random)
  pub back : ReadsBack (header_of e random)
  pub each_written : AllByRecursion (IsWritten e random) (drawn_by_each e random)

-- If exactly as many random octets are drawn as needed, every plan that is settled is written.
pub writes : OctetLaws → (keys : List OctetKey) (e : EncryptionPlan) (random : List ℕ) → Settles keys e → AreOctetKeys keys → IsOctets random
    → length random ≡ random_len e → Writes e random
writes laws keys e random by key_octets octets long =
    let cek : List ℕ = cek_by e random in
    let all : AllByRecursion (IsReady e cek) (drawn_by_each e random) =
    all_both (λ x drawn delivers. ready laws e cek x drawn delivers) (drawn_by_each e random) (each_drawn (Receives e) e random by.receive octets long)
    (each_delivered keys e random by key_octets octets long) in
    let headers = headed e cek e.recipient_keys (for_recipients e random) by.protected by.disjoint by.some all in
    record {
      header = headers.0;
      back = read_back (header_of e random) headers.0.json headers.0.shallow;
      each_written = all_both (λ x ready headed. record { ready = ready; headed = headed }) (drawn_by_each e random) all headers.1;
    }

-- ---- the recipients

-- the parts that are passed on for a recipient
abbrev pub given_by : EncryptionPlan → List ℕ → RecipientKey × List ℕ → RecipientParts
given_by e cek x = recipient_parts_by e.given (is_alone e.recipient_keys) (delivery e cek x)

-- the recipient that is made of these parts
abbrev pub made_by : EncryptionPlan → List ℕ → RecipientKey × List ℕ → Recipient
made_by e cek x = recipient (per_recipient_header e.given (is_alone e.recipient_keys) (delivery e cek x)) (delivery e cek x) e.encryption

-- The parts of the recipients are those of the recipient keys with their octets.
pub recipients_are : (e : EncryptionPlan) (random : List ℕ) → recipients_by e random ≡ map (given_by e (cek_by e random)) (drawn_by_each e random)
recipients_are e random =
    let cek : List ℕ = cek_by e random in
    let by : Delivery → RecipientParts = recipient_parts_by e.given (is_alone e.recipient_keys) in
    ap (map by) (deliveries_are e cek e.recipient_keys (for_recipients e random)) ∙ map-map by (delivery e cek) (drawn_by_each e random)

-- The recipients are read from these parts.
pub recipients_are_read : (keys : List OctetKey) (e : EncryptionPlan) (random : List ℕ) → Settles keys e → Writes e random
    → each (recipient_of management_algs (header_of e random) e.unprotected) (map (given_by e (cek_by e random)) (drawn_by_each e random))
    ≡ Ok (map (made_by e (cek_by e random)) (drawn_by_each e random))
recipients_are_read keys e random by is =
    let cek : List ℕ = cek_by e random in
    each_made {P = IsWritten e random} (recipient_of management_algs (header_of e random) e.unprotected) (given_by e cek) (made_by e cek)
    (λ x written.
    recipient_is_read e.given x.0.management x.1 e.p2c _ _ e.encryption (header_of e random) e.unprotected
    (per_recipient_header e.given (is_alone e.recipient_keys) (delivery e cek x)) (joint_of e)
    written.headed.joint written.ready.receives.awaits by.enc written.ready.parameters)
    (drawn_by_each e random) is.each_written
