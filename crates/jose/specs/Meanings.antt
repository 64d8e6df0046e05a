-- The meaning of each command, in one equation each.
use Rattle.std.specs.Prelude.{ℕ, Bool, true, false, List, is_some, Option, Some, None, Result, Ok}
use Rattle.std.specs.Option.{ok_or}
use Rattle.std.specs.Str.{byte}
use Rattle.octets.specs.declared.refusal.Refusal.{Refusal}
use Rattle.octets.specs.declared.refusal.Refusal.TheVariants.{Usage}
use Rattle.octets.specs.Outcomes.{◌>>=◌}
use Rattle.octets.specs.Plan.{OutputTexts, nothing, Draft, plan_map, without_random, by_plan, by_text}
use Rattle.octets.specs.Encoding.{encoding, decoding}
use Rattle.keys.specs.Limits.{limits}
use Rattle.jose.specs.declared.words.table.Command.{Command}
use Rattle.jose.specs.declared.words.table.Command.TheVariants.{JwkGen, JwkThp, B64Enc, B64Dec, JwsSig, JwsVer, JwsFmt, JweEnc, JweDec, JweFmt}
use Rattle.jose.specs.Invocations.{Settings, value_at, hash_asked}
use Rattle.jose.specs.Ports.{as_text, as_content, on_text, on_content}
use Rattle.jose.specs.Jwk.{making}
use Rattle.keys.specs.Thumbprints.{thp_answer}
use Rattle.tokens.specs.Jwe.{enc_answer, dec_answer, jwe_fmt_answer}
use Rattle.tokens.specs.Jws.{sig_answer, ver_answer, jws_fmt_answer}

-- ---- the options (docs/SPECIFICATION.md "Commands")

-- `-I` was given
abbrev pub is_content_given : Settings → Bool
is_content_given settings = is_some (value_at (byte "I") settings)

-- `-O` was given
abbrev pub is_content_wanted : Settings → Bool
is_content_wanted settings = is_some (value_at (byte "O") settings)

-- `-c` was given
abbrev pub is_compact_asked : Settings → Bool
is_compact_asked settings = is_some (value_at (byte "c") settings)

-- `-a` was given
abbrev pub is_all_asked : Settings → Bool
is_all_asked settings = is_some (value_at (byte "a") settings)

-- ---- the commands (docs/SPECIFICATION.md "Commands")

-- The draft of an answer about an object, which is written as a whole. If the content is handed in, the answer depends on it too.
abbrev pub of_object : Bool → (Option (List ℕ) → Result OutputTexts Refusal) → Result (Draft OutputTexts) Refusal
of_object true answer = Ok (without_random (record { whole = λ content. answer (Some content); fixed = λ front. nothing }))
of_object false answer = by_text (answer None)

-- The draft that the settings, the text and the keys give, or the first refusal. Those of `b64` depend on none of these: the text of
-- `b64 dec` is its content.
abbrev pub draft_for : Command → Settings → List ℕ → List ℕ → Result (Draft OutputTexts) Refusal
draft_for JwkGen settings text keys = making text
draft_for JwkThp settings text keys = by_text (ok_or (hash_asked settings) Usage >>= λ hash. on_text (thp_answer hash text))
draft_for B64Enc settings text keys = by_plan (Ok (plan_map as_text encoding))
draft_for B64Dec settings text keys = by_plan (Ok (plan_map as_content decoding))
draft_for JwsSig settings text keys = by_plan (sig_answer limits (is_compact_asked settings) (is_content_wanted settings) keys text)
draft_for JwsVer settings text keys = of_object (is_content_given settings)
    (λ detached. on_content (ver_answer limits (is_all_asked settings) (is_content_wanted settings) keys detached text))
draft_for JwsFmt settings text keys = of_object (is_content_given settings)
    (λ detached. jws_fmt_answer limits (is_compact_asked settings) (is_content_wanted settings) detached text)
draft_for JweEnc settings text keys = enc_answer limits (is_compact_asked settings) (is_content_wanted settings) keys text
draft_for JweDec settings text keys = of_object (is_content_given settings) (λ detached. on_content (dec_answer limits keys detached text))
draft_for JweFmt settings text keys = of_object (is_content_given settings)
    (λ detached. jwe_fmt_answer limits (is_compact_asked settings) (is_content_wanted settings) detached text)
