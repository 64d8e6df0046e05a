-- The answers about encrypted objects: to encrypt, to decrypt, and to write in another form.
use Rattle.std.specs.Prelude.{ℕ, Bool, true, false, List, Option, Result}
use Rattle.octets.specs.declared.refusal.Refusal.{Refusal}
use Rattle.octets.specs.Plan.{OutputTexts, Draft}
use Rattle.octets.specs.Outcomes.{◌>>=◌}
use Rattle.keys.specs.KeySets.{key_set}
use Rattle.keys.specs.Limits.{Limits}
use Rattle.objects.specs.Jwe.{jwe_of}
use Rattle.tokens.specs.Encrypting.{enc_plan, written_of}
use Rattle.tokens.specs.Decrypting.{with_iterations, decrypted}

-- the draft by which `jwe enc` encrypts a plaintext to the keys as the template asks, with octets of the random input, and with the
-- ciphertext inside the text or detached (docs/SPECIFICATION.md "Encrypting")
abbrev pub enc_answer : Limits → Bool → Bool → List ℕ → List ℕ → Result (Draft OutputTexts) Refusal
enc_answer limits compact detach keys template = do
  set ← key_set limits keys true
  enc_plan limits compact detach set template

-- the plaintext of the object, whose ciphertext may have been handed in (docs/SPECIFICATION.md "Decrypting")
abbrev pub dec_answer : Limits → List ℕ → Option (List ℕ) → List ℕ → Result (List ℕ) Refusal
dec_answer limits keys detached text = do
  set ← key_set limits keys false
  jwe ← jwe_of limits detached text
  decrypted limits set jwe

-- the same for a caller who allows so many iterations of PBKDF2 in all (docs/SPECIFICATION.md "Calls for C" 6)
abbrev pub dec_answer_within : ℕ → Limits → List ℕ → Option (List ℕ) → List ℕ → Result (List ℕ) Refusal
dec_answer_within most limits keys detached text = do
  set ← key_set limits keys false
  jwe ← jwe_of limits detached text
  decrypted (with_iterations most limits) set jwe

-- the text of the object in JSON form or in compact form, with the ciphertext inside it or detached (docs/SPECIFICATION.md "Objects" 5)
unfoldable pub jwe_fmt_answer : Limits → Bool → Bool → Option (List ℕ) → List ℕ → Result OutputTexts Refusal
jwe_fmt_answer limits compact detach detached text = do
  jwe ← jwe_of limits detached text
  written_of compact detach jwe
