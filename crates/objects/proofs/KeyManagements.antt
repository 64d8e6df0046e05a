-- The key management that is read from a header fits its algorithm.
use Rattle.std.proofs.Common.{◌≡◌, ℕ, Bool, true, false, nat_le, List, length, codes, if◌then◌else◌, Option, Some, None, Result, Ok, Err, refl, sym, ap, ◌∙◌}
use Rattle.std.proofs.lemmas.Bool.{and_from}
use Rattle.std.specs.Option.{ok_or}
use Rattle.serde_json.specs.Data.{Members}
use Rattle.octets.specs.declared.refusal.Refusal.{Refusal}
use Rattle.octets.specs.declared.refusal.Refusal.TheVariants.{Header}
use Rattle.octets.specs.Base64url.{decoded}
use Rattle.octets.specs.Outcomes.{needs, as_refusal, if_there}
use Rattle.ciphers.specs.declared.key_alg.KeyAlg.{KeyAlg}
use Rattle.ciphers.specs.declared.key_alg.KeyManagementMode.{KeyManagementMode}
use Rattle.ciphers.specs.declared.key_alg.KeyManagementMode.TheVariants as mode
use Rattle.ciphers.specs.Algorithms.{mode_of}
use Rattle.objects.specs.Headers.{string_parameter, number_parameter, salt_octets, salt_parameter, octets_parameter}
use Rattle.objects.specs.KeyManagement.{KeyManagement, Unknown, Direct, KeyWrap, Password, GcmKeyWrap, password_management, gcm_management, management_in, management_by}
use Rattle.objects.specs.Code.KeyManagementView.{are_password_parameters, is_management_in, is_management_of}
use Rattle.octets.proofs.Lemmas.{steps, passed, same_answer, is_there}

-- A salt that is read has at least 8 octets.
salt_is_long : (header : Members) (p2s : List ℕ) → salt_parameter (codes "p2s") header ≡ Ok (Some p2s) → nat_le 8 (length p2s) ≡ true
unfolding salt_parameter
salt_is_long header p2s h =
    let text = steps (string_parameter (codes "p2s") header) (if_there salt_octets) (Some p2s) h in
    by_text text.0 text.2
  where
    by_text : (found : Option (List ℕ)) → if_there salt_octets found ≡ Ok (Some p2s) → nat_le 8 (length p2s) ≡ true
    by_text None h = cc h
    by_text (Some text) h =
        let found = steps (salt_octets text) (λ octets. Ok (Some octets)) (Some p2s) h in
        let octets = steps (as_refusal Header (decoded text)) _ found.0 found.1 in
        let long = steps (needs (nat_le 8 (length octets.0)) Header) (λ _. Ok octets.0) found.0 octets.2 in
        let same : found.0 ≡ p2s = cc found.2 in
        ap (λ (s : List ℕ). nat_le 8 (length s)) (sym (same_answer octets.0 found.0 long.2 ∙ same)) ∙ passed _ Header long.0 long.1

-- The parameters of a password that are read are valid.
password_is : (header : Members) (m : KeyManagement) → password_management header ≡ Ok m
    → (p2s : List ℕ) × (p2c : ℕ) × (are_password_parameters p2s p2c ≡ true) × (Password p2s p2c ≡ m)
unfolding password_management
password_is header m h =
    let salt = steps (salt_parameter (codes "p2s") header) _ m h in
    let p2s = steps (ok_or salt.0 Header) _ m salt.2 in
    let count = steps (number_parameter (codes "p2c") header) _ m p2s.2 in
    let p2c = steps (ok_or count.0 Header) _ m count.2 in
    let some = steps (needs (nat_le 1 p2c.0) Header) _ m p2c.2 in
    let there : salt_parameter (codes "p2s") header ≡ Ok (Some p2s.0) = salt.1 ∙ ap Ok (is_there salt.0 Header p2s.0 p2s.1) in (
      p2s.0,
      p2c.0,
      and_from (nat_le 8 (length p2s.0)) (nat_le 1 p2c.0) (salt_is_long header p2s.0 there) (passed _ Header some.0 some.1),
      same_answer _ m some.2,
    )

gcm_is : (header : Members) (m : KeyManagement) → gcm_management header ≡ Ok m → (iv : List ℕ) × (tag : List ℕ) × (GcmKeyWrap iv tag ≡ m)
unfolding gcm_management
gcm_is header m h =
    let iv_there = steps (octets_parameter (codes "iv") header) _ m h in
    let iv = steps (ok_or iv_there.0 Header) _ m iv_there.2 in
    let tag_there = steps (octets_parameter (codes "tag") header) _ m iv.2 in
    let tag = steps (ok_or tag_there.0 Header) _ m tag_there.2 in
    (iv.0, tag.0, same_answer _ m tag.2)

is_in : (m : KeyManagementMode) (header : Members) (k : KeyManagement) → management_in m header ≡ Ok k → is_management_in m k ≡ true
is_in mode.Direct header k h = let same : Direct ≡ k = cc h in rw (sym same) refl
is_in mode.KeyWrap header k h = let same : KeyWrap ≡ k = cc h in rw (sym same) refl
is_in mode.Password header k h = let is = password_is header k h in rw (sym is.3) is.2
is_in mode.GcmKeyWrap header k h = let is = gcm_is header k h in rw (sym is.2) refl

pub management_is : (alg : Option KeyAlg) (header : Members) (m : KeyManagement) → management_by alg header ≡ Ok m → is_management_of alg m ≡ true
management_is None header m h = let same : Unknown ≡ m = cc h in rw (sym same) refl
management_is (Some alg) header m h = is_in (mode_of alg) header m h
