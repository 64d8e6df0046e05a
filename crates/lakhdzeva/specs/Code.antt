-- Values of the code, as its contracts see them.
use Rattle.std.specs.Prelude.{ℕ, Bool, List, Option, Result}
use Rattle.octets.specs.declared.refusal.Refusal.{Refusal}
use Rattle.octets.specs.Outcomes.{◌>>=◌}
use Rattle.octets.specs.Plan.{OutputTexts}
use Rattle.keys.specs.Keys.{OctetKey}
use Rattle.keys.specs.Limits.{Limits}
use Rattle.objects.specs.Code.Views.{jws_view}
use Rattle.objects.specs.Jws.{jws_of}
use Rattle.objects.specs.declared.jws.Jws as jws
use Rattle.tokens.specs.Verifying.{verifying_by}
use Rattle.lakhdzeva.specs.Answers.{SignedPayload}
use Rattle.lakhdzeva.specs.declared.answers.Both.{Both}

-- the text and the content
abbrev pub both : Both → OutputTexts
both made = record { text = made.text.items; content = made.content.items }

-- the payload of the object
abbrev pub payload_of_object : jws.Jws → List ℕ
payload_of_object object = (jws_view object).payload

-- the payload of the object, and the place of its signer
abbrev pub signed_view : (jws.Jws × ℕ) → SignedPayload
signed_view signed = record { payload = (jws_view signed.0).payload; signer = signed.1 }

-- what `ver_answer` and `ver_all_answer` give once the keys are read
abbrev pub verified_by : Limits → Bool → Bool → List OctetKey → Option (List ℕ) → List ℕ → Result (List ℕ) Refusal
verified_by limits all wanted keys detached text = do
  jws ← jws_of limits detached text
  verifying_by all wanted keys jws
