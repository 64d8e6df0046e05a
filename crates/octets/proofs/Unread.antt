-- A content of which nothing could be read.
use Rattle.std.proofs.Common.{◌≡◌, ◌≢◌, Bool, true, false, List, [], length, take, take_all, ℕ, Result, Ok, Err, OnErr, IfErr, refl, ap, subst, sym, ◌∙◌, append-nil}
use Rattle.std.specs.Result.{result_unwrap_or}
use Rattle.base64.proofs.EngineFacts.{encode_of-nil}
use Rattle.base64.specs.Engines.{url_safe_no_pad}
use Rattle.octets.specs.declared.refusal.Refusal.{Refusal}
use Rattle.octets.specs.declared.refusal.Refusal.TheVariants.{Write}
use Rattle.octets.specs.Devices.{Observed, AppendsPrefixOf}
use Rattle.octets.specs.Encoding.{encoding, decoding, octets_of_groups}
use Rattle.octets.specs.LineEnds.{without_line_end}
use Rattle.octets.specs.Plan.{Plan, beginning_of}
use Rattle.octets.specs.Base64url.{base64url}
use Rattle.octets.proofs.Decoded.{decoded-nil}
use Rattle.octets.proofs.Groups.{base64url-nil}

-- the plan fixes nothing for the empty content
abbrev pub FixesNothing : Plan (List ℕ) → Type 0
FixesNothing plan = (ended : Bool) → beginning_of plan (record { octets = []; ended = ended }) ≡ []

pub encoding_fixes_nothing : FixesNothing encoding
unfolding base64url
encoding_fixes_nothing true = encode_of-nil url_safe_no_pad
encoding_fixes_nothing false = base64url-nil

pub decoding_fixes_nothing : FixesNothing decoding
unfolding without_line_end octets_of_groups
decoding_fixes_nothing true = ap (λ answer. result_unwrap_or answer []) decoded-nil
decoding_fixes_nothing false = refl

-- If a beginning of the empty text was appended, nothing was.
appended_nothing : (old new : List ℕ) → AppendsPrefixOf [] old new → new ≡ old
appended_nothing old new part =
    sym part.1 ∙ ap (take (length new)) (append-nil old) ∙ take_all (length new) old part.0

-- If nothing could be read, every refusal except Write leaves the output untouched.
pub unread_untouched : {D : Type 0} (written : D → List ℕ) (old new : D) (plan : Plan (List ℕ)) (seen : Observed) (r : Result (Unit {0}) Refusal)
    → FixesNothing plan
    → OnErr r (AppendsPrefixOf (beginning_of plan seen) (written old) (written new))
    → IfErr r (λ refusal. refusal ≢ Write → written new ≡ written old → new ≡ old)
    → IfErr r (λ refusal. seen.octets ≡ [] → refusal ≢ Write → new ≡ old)
unread_untouched written old new plan seen (Ok done) none part uncut = tt
unread_untouched written old new plan seen (Err e) none part uncut =
    λ nothing other. uncut other (appended_nothing (written old) (written new)
    (subst (λ text. AppendsPrefixOf text (written old) (written new)) (is nothing) part))
  where
    is : seen.octets ≡ [] → beginning_of plan seen ≡ []
    is nothing = ap (λ octets. beginning_of plan (record { octets = octets; ended = seen.ended })) nothing ∙ none seen.ended
