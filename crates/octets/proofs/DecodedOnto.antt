-- Decoding a text onto a place that has room for its octets.
use Rattle.std.proofs.Common.{◌≡◌, ◌≤◌, ℕ, ◌*◌, ◌/◌, nat_lt, false, List, [], length, Option, None, Result, Ok, Err, IsOk, refl, ap, ◌∙◌, arith, if◌then◌else◌}
use Rattle.std.specs.Result.{result_unwrap_or}
use Rattle.std.proofs.lemmas.Bool.{le-ltb}
use Rattle.base64.specs.declared.decode.DecodeError.{DecodeError}
use Rattle.base64.specs.declared.decode.DecodeSliceError.TheVariants.{OutputSliceTooSmall}
use Rattle.base64.specs.Decode.{or_else, or_error, bytes_fit, groups_before_last, groups_error, lone_error, suffix_error}
use Rattle.base64.specs.Engines.{url_safe_no_pad}
use Rattle.base64.specs.GeneralPurpose.{decoded_bytes_of, decode_slice_of}
use Rattle.octets.specs.declared.refusal.Refusal.{Refusal}
use Rattle.octets.specs.Octets.{IsOctets}
use Rattle.octets.specs.Base64url.{decoded}
use Rattle.octets.proofs.Decoded.{outcome_ok, both_none}
use Rattle.octets.proofs.Groups.{length-base64url}
use Rattle.octets.proofs.Meanings.{text_of_meaning}

-- The octets fit if there is room for them and for the groups before the last.
fit : (first rest : Option DecodeError) (groups n room : ℕ) → first ≡ None → rest ≡ None → nat_lt (room / 3) groups ≡ false → nat_lt room n ≡ false
    → or_error first (if nat_lt (room / 3) groups then Err OutputSliceTooSmall else or_error rest (bytes_fit n room)) ≡ Ok n
fit first rest groups n room no_first no_rest before all = rw (no_first, no_rest, before, all)

-- A text that decodes to octets decodes to them onto a place that has room for them.
pub decodes_onto : (text octets : List ℕ) (room : ℕ) → IsOctets text → decoded text ≡ Ok octets → length octets ≤ room
    → (decode_slice_of url_safe_no_pad text room ≡ Ok (length octets)) × (decoded_bytes_of url_safe_no_pad text ≡ octets)
unfolding decoded
decodes_onto text octets room bytes is fits =
    let e = url_safe_no_pad in
    let q : ℕ = groups_before_last (length text) in
    let last = suffix_error e.decode_table e.padding.value e.config.decode_allow_trailing_bits e.config.decode_padding_mode (4 * q) text in
    let long = length-base64url octets in
    let whole = ap length (text_of_meaning text octets bytes is) in
    let none = outcome_ok _ _ octets is in
    let first = both_none (lone_error e.decode_table e.padding.value text) (or_else (groups_error e.decode_table text q) last) none.0 in
    let same : length (decoded_bytes_of e text) ≡ length octets = ap length none.1 in
    let before : q ≤ room / 3 = omega (arith, long, whole) in
    let within : length (decoded_bytes_of e text) ≤ room = omega (arith, same, fits) in
    (fit _ _ q _ room first.0 first.1 (le-ltb _ _ before) (le-ltb _ _ within) ∙ ap Ok same, none.1)

-- A text that decodes decodes to its meaning.
pub decodes : (r : Result (List ℕ) Refusal) → IsOk r → r ≡ Ok (result_unwrap_or r [])
decodes (Ok octets) h = refl
decodes (Err e) h = cc h
