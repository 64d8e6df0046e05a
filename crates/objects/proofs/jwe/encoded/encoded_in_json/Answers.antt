use Rattle.std.proofs.Common.{◌≡◌, ℕ, List, rules, codes, option_map, Option, Ok, refl}
use Rattle.serde_json.specs.Data.{Data}
use Rattle.serde_json.specs.View.{view}
use Rattle.octets.specs.Code.Results.{Agrees}
use Rattle.objects.specs.Headers.{header_at}
use Rattle.objects.specs.Jwe.{encoded_in_json}
use Rattle.objects.specs.Texts.{text_at, content_text}
use Rattle.objects.specs.Code.Views.{content_text_view}
use Rattle.objects.proofs.jwe.encoded.encoded_in_json.Goals as goal

pub returns-in_err-unprotected : goal.returns-in_err-unprotected
unfolding encoded_in_json text_at header_at
returns-in_err-unprotected c =
    let h : Agrees (λ t. t.now) c.text_at.result (text_at (codes "protected") (view c.args.value.now)) = c.text_at.ensures.exact in
    search (rules, h)

pub returns : goal.returns
unfolding encoded_in_json
returns c =
    let value : Data = view c.args.value.now in
    let detached : Option (List ℕ) = option_map (λ c. c.items) c.args.detached in
    let protected : text_at (codes "protected") value ≡ Ok c.in_ok-protected.protected.now = c.in_ok-protected.ensures.exact in
    let aad : text_at (codes "aad") value ≡ Ok c.in_ok-aad.aad.now = c.in_ok-aad.ensures.exact in
    let iv : text_at (codes "iv") value ≡ Ok c.in_ok-iv.iv.now = c.in_ok-iv.ensures.exact in
    let ciphertext : content_text detached (codes "ciphertext") value ≡ Ok (content_text_view c.in_ok-ciphertext.ciphertext) =
    c.in_ok-ciphertext.ensures in
    let tag : text_at (codes "tag") value ≡ Ok c.in_ok-tag.tag.now = c.in_ok-tag.ensures.exact in
    rw (protected, c.in_ok-unprotected.ensures, aad, c.in_ok-objects.ensures.exact, c.in_ok-recipients.ensures, iv, ciphertext, tag) refl
