-- The answers about signed objects: to sign, to verify, and to write in another form.
use Rattle.std.specs.Prelude.{◌≡◌, ℕ, Bool, true, false, List, Option, Result}
use Rattle.octets.specs.declared.refusal.Refusal.{Refusal}
use Rattle.octets.specs.declared.refusal.Refusal.TheVariants.{Key}
use Rattle.octets.specs.Plan.{OutputTexts, Plan}
use Rattle.octets.specs.Outcomes.{◌>>=◌, needs}
use Rattle.keys.specs.KeySets.{key_set}
use Rattle.keys.specs.Limits.{Limits}
use Rattle.objects.specs.Jws.{jws_of}
use Rattle.tokens.specs.Signing.{sig_plan, written_of}
use Rattle.tokens.specs.Verifying.{verifying_by, verifying_by_least}
use Rattle.tokens.specs.Signers.{are_signers}

-- the plan by which `jws sig` signs a payload with the keys as the template asks, with the payload inside the text or detached
-- (docs/SPECIFICATION.md "Signing")
abbrev pub sig_answer : Limits → Bool → Bool → List ℕ → List ℕ → Result (Plan OutputTexts) Refusal
sig_answer limits compact detach keys template = do
  set ← key_set limits keys true
  sig_plan limits compact detach set template

-- the octets that are written if the object, whose payload may have been handed in, is verified: the payload if it is asked for, and
-- otherwise none (docs/SPECIFICATION.md "Verifying")
abbrev pub ver_answer : Limits → Bool → Bool → List ℕ → Option (List ℕ) → List ℕ → Result (List ℕ) Refusal
ver_answer limits all wanted keys detached text = do
  set ← key_set limits keys false
  jws ← jws_of limits detached text
  verifying_by all wanted set jws

-- The same if each of so many signers signed. The keys must all be good, as many as the signers, and no two of them may sign alike
-- (docs/SPECIFICATION.md "Calls for C" 7).
abbrev pub ver_all_answer : Limits → ℕ → Bool → List ℕ → Option (List ℕ) → List ℕ → Result (List ℕ) Refusal
ver_all_answer limits signers wanted keys detached text = do
  set ← key_set limits keys true
  own ← needs (are_signers signers set) Key
  jws ← jws_of limits detached text
  verifying_by true wanted set jws

-- The same if at least so many of the signers signed (docs/SPECIFICATION.md "Tools").
abbrev pub ver_least_answer : Limits → ℕ → ℕ → Bool → List ℕ → Option (List ℕ) → List ℕ → Result (List ℕ) Refusal
ver_least_answer limits least signers wanted keys detached text = do
  set ← key_set limits keys true
  own ← needs (are_signers signers set) Key
  jws ← jws_of limits detached text
  verifying_by_least least wanted set jws

-- If as many have to sign as there are, each has to (docs/SPECIFICATION.md "Tools").
abbrev pub LeastIsEachSigner : Type 0
LeastIsEachSigner = (limits : Limits) (signers : ℕ) (wanted : Bool) (keys : List ℕ) (detached : Option (List ℕ)) (text : List ℕ)
    → ver_least_answer limits signers signers wanted keys detached text ≡ ver_all_answer limits signers wanted keys detached text

-- the text of the object in JSON form or in compact form, with the payload inside it or detached (docs/SPECIFICATION.md "Objects" 5)
unfoldable pub jws_fmt_answer : Limits → Bool → Bool → Option (List ℕ) → List ℕ → Result OutputTexts Refusal
jws_fmt_answer limits compact detach detached text = do
  jws ← jws_of limits detached text
  written_of compact detach jws
