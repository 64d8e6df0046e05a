-- Texts and the octets that they mean.
use Rattle.std.proofs.Common.{◌≡◌, ℕ, List, Result, Ok, Err, refl, sym, ◌∙◌, ap}
use Rattle.base64.specs.Engines.{url_safe_no_pad}
use Rattle.base64.specs.GeneralPurpose.{decode_of}
use Rattle.base64.specs.declared.decode.DecodeError.{DecodeError}
use Rattle.base64.proofs.EngineFacts.{decode_of_strict, decode_of-encode_of}
use Rattle.octets.specs.declared.refusal.Refusal.{Refusal}
use Rattle.octets.specs.declared.refusal.Refusal.TheVariants.{Base64}
use Rattle.octets.specs.Octets.{IsOctets}
use Rattle.octets.specs.Base64url.{base64url, decoded, or_base64, TextsAreDistinct, DecodesExactly}

ok_of : (r : Result (List ℕ) DecodeError) (x : List ℕ) → or_base64 r ≡ Ok x → r ≡ Ok x
ok_of (Ok y) x h = ap Ok (cc h)
ok_of (Err e) x h = cc h

refused_by : (r : Result (List ℕ) DecodeError) (e : Refusal) → or_base64 r ≡ Err e → e ≡ Base64
refused_by (Ok y) e h = cc h
refused_by (Err d) e h = cc h

-- A text that decodes is the text of the octets that it means.
pub text_of_meaning : (text x : List ℕ) → IsOctets text → decoded text ≡ Ok x → text ≡ base64url x
unfolding decoded base64url
text_of_meaning text x octets h = decode_of_strict url_safe_no_pad text x (refl, refl) octets (ok_of (decode_of url_safe_no_pad text) x h)

-- The text of octets decodes to these octets.
pub meaning_of_text : (x : List ℕ) → IsOctets x → decoded (base64url x) ≡ Ok x
unfolding decoded base64url
meaning_of_text x octets = ap or_base64 (decode_of-encode_of url_safe_no_pad x refl octets)

refusal_is : (text : List ℕ) (e : Refusal) → decoded text ≡ Err e → e ≡ Base64
unfolding decoded
refusal_is text e h = refused_by (decode_of url_safe_no_pad text) e h

pub texts_are_distinct : TextsAreDistinct
texts_are_distinct x y hx hy e =
    let both : Ok x ≡ Ok y = sym (meaning_of_text x hx) ∙ ap decoded e ∙ meaning_of_text y hy in
    cc

pub decodes_exactly : DecodesExactly
decodes_exactly = record {
  round_trip = meaning_of_text;
  meaning = λ text x ht hx. (text_of_meaning text x ht, λ e. ap decoded e ∙ meaning_of_text x hx);
  refusal = refusal_is;
}
