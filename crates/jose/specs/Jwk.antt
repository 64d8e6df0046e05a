-- The command `jwk gen`. `Rattle.keys.specs.Generating` defines the text that it writes.
use Rattle.std.specs.Prelude.{ℕ, List, Result, Ok}
use Rattle.octets.specs.declared.refusal.Refusal.{Refusal}
use Rattle.octets.specs.Plan.{OutputTexts, Draft, without_content}
use Rattle.octets.specs.Outcomes.{◌>>=◌}
use Rattle.keys.specs.Generating.{made_key, key_text}
use Rattle.keys.specs.Limits.{limits}
use Rattle.jose.specs.Ports.{as_text}

-- the draft of the key that a template's text asks for, made of the octets that are drawn for it (docs/SPECIFICATION.md "Making keys")
abbrev pub making : List ℕ → Result (Draft OutputTexts) Refusal
making template = do
  made ← made_key limits template
  Ok (record { drawn = made.len; plan = λ octets. without_content (as_text (key_text made octets)) })
