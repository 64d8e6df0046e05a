-- What a beginning of the content fixes for the output of the content.
use Rattle.std.proofs.Common.{◌≡◌, ℕ, Bool, true, false, nat_le, take, List, [], length, Result, Ok, Err, refl}
use Rattle.octets.specs.declared.refusal.Refusal.{Refusal}
use Rattle.octets.specs.declared.refusal.Refusal.TheVariants.{Random}
use Rattle.octets.specs.Code.Streams.{fixed_by}
use Rattle.octets.specs.Outcomes.{◌>>=◌, needs}
use Rattle.octets.specs.Plan.{plan_from}
use Rattle.keys.specs.Keys.{OctetKey}
use Rattle.keys.specs.Limits.{limits}
use Rattle.tokens.specs.Choosing.{EncryptionPlan, read_encryption}
use Rattle.tokens.specs.Encrypting.{random_len, plan_by as encrypting, enc_plan}
use Rattle.tokens.specs.Signing.{Signing, plan_by as signing, read_signing, sig_plan}

-- A payload that is inside the text is not written to the other output.
pub signed_inside : (compact : Bool) (keys : List OctetKey) (template q : List ℕ) → (fixed_by (sig_plan limits compact false keys template) q).content ≡ []
unfolding sig_plan
signed_inside compact keys template q = by_answer (read_signing limits compact keys template)
  where
    by_answer : (a : Result Signing Refusal) → (fixed_by (a >>= λ s. Ok (signing limits compact false s)) q).content ≡ []
    by_answer (Ok s) = refl
    by_answer (Err r) = refl

-- A ciphertext that is inside the text is not written to the other output.
pub encrypted_inside : (compact : Bool) (keys : List OctetKey) (template random q : List ℕ)
    → (fixed_by (plan_from (enc_plan limits compact false keys template) random) q).content ≡ []
unfolding enc_plan
encrypted_inside compact keys template random q = by_answer (read_encryption limits compact keys template)
  where
    by_room : (e : EncryptionPlan) (enough : Bool) → (fixed_by
        (needs enough Random >>= λ _. Ok (encrypting limits compact false e (take (random_len e) random))) q).content ≡ []
    by_room e true = refl
    by_room e false = refl

    by_answer : (a : Result EncryptionPlan Refusal)
        → (fixed_by (plan_from (a >>= λ e. Ok (record { drawn = random_len e; plan = encrypting limits compact false e })) random) q).content ≡ []
    by_answer (Ok e) = by_room e (nat_le (random_len e) (length random))
    by_answer (Err r) = refl
