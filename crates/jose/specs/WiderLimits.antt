-- Under wider limits the answers of `jwe dec`, `jws ver`, `jws fmt`, `jwe fmt` and `jwe enc` that are not Limit stay the same, except that
-- of `jwe enc` if it leaves the number of iterations to the limits.
use Rattle.std.specs.Prelude.{◌≡◌, ◌≢◌, ◌||◌, ◌==◌, ℕ, ◌≤◌, Bool, true, List, Option, Result, Ok, Err}
use Rattle.serde_json.specs.Data.{Data}
use Rattle.octets.specs.declared.refusal.Refusal.{Refusal}
use Rattle.octets.specs.declared.refusal.Refusal.TheVariants.{Limit}
use Rattle.octets.specs.Plan.{drawn_of, plan_from, planned}
use Rattle.keys.specs.Json.{json_value}
use Rattle.keys.specs.Keys.{OctetKey}
use Rattle.keys.specs.KeySets.{key_set}
use Rattle.keys.specs.Limits.{Limits}
use Rattle.objects.specs.Texts.{each}
use Rattle.tokens.specs.Choosing.{RecipientKey, recipient_key_by, password_count, is_given}
use Rattle.tokens.specs.EncryptionTemplate.{EncryptionTemplate, encryption_template}
use Rattle.tokens.specs.Jwe.{enc_answer, dec_answer, jwe_fmt_answer}
use Rattle.tokens.specs.Jws.{ver_answer, jws_fmt_answer}

-- ---- the limits (docs/SPECIFICATION.md "Keys", "Objects", "Encrypting" and "Decrypting")

-- The second limits allow everything that the first allow. The limits of keys and of depth and the algorithms are the same.
pub record AreWider (narrower wider : Limits) : Type 0 where
  pub keys : wider.keys ≡ narrower.keys
  pub key_octets : wider.key_octets ≡ narrower.key_octets
  pub depth : wider.depth ≡ narrower.depth
  pub recipients : narrower.recipients ≤ wider.recipients
  pub greatest_p2c_read : narrower.greatest_p2c_read ≤ wider.greatest_p2c_read
  pub least_p2c : wider.least_p2c ≤ narrower.least_p2c
  pub greatest_p2c : narrower.greatest_p2c ≤ wider.greatest_p2c
  pub p2c_sum : narrower.p2c_sum ≤ wider.p2c_sum
  pub management : wider.management ≡ narrower.management

-- ---- what stays the same under wider limits (docs/SPECIFICATION.md "Refusals")

-- an answer other than Limit stays the same
abbrev pub StaysUnlessLimit : {X : Type 0} → Result X Refusal → Result X Refusal → Type 0
StaysUnlessLimit narrower wider = narrower ≢ Err Limit → wider ≡ narrower

-- For all keys and objects, the answers of `jwe dec`, `jws ver` and both `fmt` stay the same unless they are Limit.
pub record ReadsAsBefore (narrower wider : Limits) : Type 0 where
  pub dec : (keys : List ℕ) (detached : Option (List ℕ)) (text : List ℕ)
      → StaysUnlessLimit (dec_answer narrower keys detached text) (dec_answer wider keys detached text)
  pub ver : (all wanted : Bool) (keys : List ℕ) (detached : Option (List ℕ)) (text : List ℕ)
      → StaysUnlessLimit (ver_answer narrower all wanted keys detached text) (ver_answer wider all wanted keys detached text)
  pub jws_fmt : (compact detach : Bool) (detached : Option (List ℕ)) (text : List ℕ)
      → StaysUnlessLimit (jws_fmt_answer narrower compact detach detached text) (jws_fmt_answer wider compact detach detached text)
  pub jwe_fmt : (compact detach : Bool) (detached : Option (List ℕ)) (text : List ℕ)
      → StaysUnlessLimit (jwe_fmt_answer narrower compact detach detached text) (jwe_fmt_answer wider compact detach detached text)

-- no recipient key is a password, or the template has the number of iterations
abbrev pub IsCounted : List OctetKey → List ℕ → Type 0
IsCounted keys text =
    (value : Data) (template : EncryptionTemplate) (recipient_keys : List RecipientKey) → json_value text ≡ Ok value → encryption_template value ≡ Ok template
    → each (recipient_key_by template.asked.management) keys ≡ Ok recipient_keys → (password_count recipient_keys == 0 || is_given template.asked.p2c) ≡ true

-- Suppose that the number of iterations is in the template if there is a password. Then the answer of `jwe enc` stays the same unless it is
-- Limit. So does the number of random octets that it draws, unless its draft is Limit.
abbrev pub EncryptsAsBefore : Limits → Limits → Type 0
EncryptsAsBefore narrower wider =
    (compact detach : Bool) (keys : List ℕ) (template random plaintext : List ℕ)
    → ((set : List OctetKey) → key_set narrower keys true ≡ Ok set → IsCounted set template)
    → StaysUnlessLimit (planned (plan_from (enc_answer narrower compact detach keys template) random) plaintext)
    (planned (plan_from (enc_answer wider compact detach keys template) random) plaintext)
    × ((enc_answer narrower compact detach keys template ≢ Err Limit)
    → drawn_of (enc_answer wider compact detach keys template) ≡ drawn_of (enc_answer narrower compact detach keys template))
