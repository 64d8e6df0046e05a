-- If keys and a template settle a signing, every payload has an object, and this object has texts.
use Rattle.std.proofs.Common.{◌≡◌, ℕ, suc, ◌≤◌, ◌&&◌, nat_le, Bool, true, false, List, [], ◌∷◌, length, map, Ok, refl, sym, ap, ◌∙◌, arith}
use Rattle.std.proofs.lemmas.Bool.{and_parts, leb-true}
use Rattle.serde_json.specs.Data.{Members}
use Rattle.octets.specs.Outcomes.{◌>>=◌}
use Rattle.octets.specs.Plan.{OutputTexts, Plan}
use Rattle.keys.specs.Limits.{limits, are_few}
use Rattle.objects.specs.Jws.{SignedObject, parts_of, compact_parts, is_compact, json_text, jws_compact_text, jws_text}
use Rattle.objects.specs.Texts.{handed_out}
use Rattle.objects.proofs.Lemmas.{as_many}
use Rattle.octets.proofs.Lemmas.{steps, same_answer}
use Rattle.tokens.specs.Signing.{Signer, Signing, signer_by, compact_has_room, read_signing, signed, written_of, plan_by, sig_plan, SigningMakesTexts}
use Rattle.tokens.specs.Template.{is_empty}
use Rattle.tokens.proofs.Signing.Objects.{is_signing, made_by, object_by, signed_is, is_written}
use Rattle.tokens.proofs.WrittenHeaders.Members.{no_members_there}

-- An empty header has no members.
fits : (header : Members) (payload : List ℕ) (signers : List Signer) → (nat_le (length signers) 1 && is_empty header) ≡ true → nat_le 1 (length signers) ≡ true
    → is_compact (map (made_by header payload) signers) ≡ true
fits header payload [] alone some = cc some
fits header payload (s ∷ []) alone some = no_members_there header (and_parts (nat_le 1 1) (is_empty header) alone).1
fits header payload (s ∷ (other ∷ rest)) alone some =
    let few : suc (suc (length rest)) ≤ 1 = leb-true (suc (suc (length rest))) 1 (and_parts (nat_le (suc (suc (length rest))) 1) (is_empty header) alone).0 in
    absurd (omega arith)

-- The object has a text.
has_text : (compact detach : Bool) (s : Signing) (payload : List ℕ) → compact_has_room compact s ≡ true → nat_le 1 (length s.signers) ≡ true
    → (text : List ℕ) × (jws_text compact detach (object_by s payload) ≡ Ok text)
unfolding jws_compact_text
has_text true detach s payload alone some =
    let o : SignedObject = object_by s payload in
    (compact_parts detach o.payload (parts_of o).signatures, rw (fits s.header payload s.signers alone some) refl)
has_text false detach s payload alone some = (json_text detach (object_by s payload), refl)

pub signing_makes_texts : SigningMakesTexts
unfolding sig_plan
signing_makes_texts compact detach keys template payload plan some few h =
    let s = steps (read_signing limits compact keys template) _ plan h in
    let is = is_signing compact keys template s.0 s.1 in
    let long : length s.0.signers ≡ length keys = as_many (signer_by is.template) keys s.0.signers is.by_keys in
    let some_signers : nat_le 1 (length s.0.signers) ≡ true = ap (nat_le 1) long ∙ some in
    let few_signers : are_few limits (length s.0.signers) ≡ true = ap (λ n. are_few limits n) long ∙ few in
    let made = signed_is compact keys s.0 payload is some_signers few_signers in
    let text = has_text compact detach s.0 payload is.alone some_signers in
    let planned : plan.whole payload ≡ (signed limits s.0 payload >>= written_of compact detach) =
    ap (λ (p : Plan OutputTexts). p.whole payload) (sym (same_answer (plan_by limits compact detach s.0) plan s.2)) in
    let written = is_written compact detach (object_by s.0 payload) text.0 text.1 in
    (record { text = text.0; content = handed_out detach payload }, planned ∙ ap (λ r. r >>= written_of compact detach) made ∙ written)
