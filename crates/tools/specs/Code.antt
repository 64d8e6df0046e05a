-- What contracts say of calls of the code.
use Rattle.std.specs.Prelude.{ℕ, Bool, true, List, Option, Result, Ok, Err}
use Rattle.octets.specs.declared.refusal.Refusal.{Refusal}
use Rattle.octets.specs.declared.refusal.Refusal.TheVariants.{Key}
use Rattle.octets.specs.Outcomes.{◌>>=◌, needs}
use Rattle.keys.specs.Keys.{OctetKey}
use Rattle.serde_json.specs.Data.{Items}
use Rattle.keys.specs.Json.{json_value}
use Rattle.keys.specs.KeySets.{key_objects, key_set}
use Rattle.keys.specs.Limits.{limits}
use Rattle.objects.specs.Jws.{jws_of}
use Rattle.tokens.specs.Signers.{are_signers}
use Rattle.tokens.specs.Verifying.{verifying_by_least}
use Rattle.tools.specs.declared.cause.Cause.{Cause}
use Rattle.tools.specs.declared.cause.Cause.TheVariants.{Refused}

-- the key objects of the text
abbrev pub objects_of : List ℕ → Result Items Refusal
objects_of text = json_value text >>= key_objects

-- the keys of the text, if they are so many signers
abbrev pub signers_of : ℕ → List ℕ → Result (List OctetKey) Refusal
signers_of number keys = do
  set ← key_set limits keys true
  own ← needs (are_signers number set) Key
  Ok set

-- what is written if the object verifies with at least so many of the keys
abbrev pub verified_by_some : ℕ → Bool → List OctetKey → Option (List ℕ) → List ℕ → Result (List ℕ) Refusal
verified_by_some least wanted set detached text = do
  jws ← jws_of limits detached text
  verifying_by_least least wanted set jws

-- a result whose refusal is not about the keys
abbrev pub caused : Result (Unit {0}) Refusal → Result (Unit {0}) Cause
caused (Ok done) = Ok done
caused (Err refusal) = Err (Refused refusal)
