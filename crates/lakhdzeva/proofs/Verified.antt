-- Verifying, whether the payload is written or not.
use Rattle.std.proofs.Common.{◌≡◌, ◌∙◌, ℕ, Bool, false, if◌then◌else◌, List, [], Result, Ok, Err, ap, sym}
use Rattle.std.specs.Result.{IsErrAnd}
use Rattle.octets.specs.declared.refusal.Refusal.{Refusal}
use Rattle.octets.specs.Outcomes.{◌>>=◌, GivesUnlessExternal, is_external}
use Rattle.keys.specs.Keys.{OctetKey}
use Rattle.objects.specs.Jws.{SignedObject}
use Rattle.tokens.specs.Verifying.{verified_payload, verifying_by}

-- Whether the payload is written changes no refusal.
pub refused_alike : (all wanted other : Bool) (keys : List OctetKey) (o : SignedObject) (refusal : Refusal)
    → verifying_by all wanted keys o ≡ Err refusal → verifying_by all other keys o ≡ Err refusal
unfolding verifying_by
refused_alike all wanted other keys o refusal is = by_payload (verified_payload all keys o) is
  where
    by_payload : (r : Result (List ℕ) Refusal) → (r >>= λ payload. Ok (if wanted then payload else [])) ≡ Err refusal
        → (r >>= λ payload. Ok (if other then payload else [])) ≡ Err refusal
    by_payload (Ok payload) is = cc
    by_payload (Err e) is = cc is

-- A result that passes a refusal on gives an answer with this refusal, unless memory or a device failed.
pub passes_on : {X Y : Type 0} (view : X → Y) (r : Result X Refusal) (refusal : Refusal) (answer : Result Y Refusal) → IsErrAnd r (λ e. e ≡ refusal)
    → (is_external refusal ≡ false → answer ≡ Err refusal) → GivesUnlessExternal view r answer
passes_on view (Ok x) refusal answer same is = absurd same
passes_on view (Err e) refusal answer same is = λ inside. is (ap is_external (sym same) ∙ inside) ∙ ap Err (sym same)
