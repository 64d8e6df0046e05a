-- Feeding the base64url text of octets, in pieces, to a value that absorbs text, for example an HMAC.
use Rattle.std.proofs.Common.{◌≡◌, ℕ, List, [], ◌++◌, length, sym, ap, subst, ◌∙◌, append_assoc, append-nil}
use Rattle.std.proofs.lemmas.List.{nil_from_length}
use Rattle.octets.specs.Base64url.{base64url, whole_groups}
use Rattle.octets.specs.Code.Streams.{part_group}
use Rattle.octets.proofs.Lemmas.{base64url-nil}

-- Everything but the rest was fed. The value has absorbed the text of the whole groups, and the octets after them are waiting.
pub record IsEncoded {M K : Type 0} (holds : M → K → List ℕ → Type 0) (old new : M) (waiting all rest : List ℕ) : Type 0 where
  pub front : List ℕ
  pub parts : front ++ rest ≡ all
  pub waits : waiting ≡ part_group front
  pub text : (key : K) (before : List ℕ) → holds old key before → holds new key (before ++ base64url (whole_groups front))

-- At the start nothing is fed.
pub nothing_encoded : {M K : Type 0} {holds : M → K → List ℕ → Type 0} {m : M} {waiting all rest : List ℕ}
    → rest ≡ all → waiting ≡ part_group [] → IsEncoded holds m m waiting all rest
nothing_encoded {holds = holds} {m = m} begin waits = record {
  front = [];
  parts = begin;
  waits = waits;
  text = λ key before h. subst (holds m key) (sym (ap (λ t. before ++ t) base64url-nil ∙ append-nil before)) h;
}

module _ {M K : Type 0} {holds : M → K → List ℕ → Type 0} {old new : M} {waiting all rest : List ℕ} (k : IsEncoded holds old new waiting all rest) where
  -- Absorbing one more text continues the text.
  with_text : {newer : M} (more text : List ℕ) → text ≡ base64url (whole_groups k.front) ++ more
      → ((key : K) (before : List ℕ) → holds new key before → holds newer key (before ++ more))
      → (key : K) (before : List ℕ) → holds old key before → holds newer key (before ++ text)
  with_text {newer = newer} more text is takes key before h =
      let all_before = base64url (whole_groups k.front) in
      subst (holds newer key) (append_assoc before all_before more ∙ ap (λ t. before ++ t) (sym is)) (takes key (before ++ all_before) (k.text key before h))

  -- A piece is fed after the pieces before it.
  pub piece_encoded : {newer : M} {waiting_then left : List ℕ} (piece more : List ℕ) → rest ≡ piece ++ left → waiting_then ≡ part_group (k.front ++ piece)
      → base64url (whole_groups (k.front ++ piece)) ≡ base64url (whole_groups k.front) ++ more
      → ((key : K) (before : List ℕ) → holds new key before → holds newer key (before ++ more))
      → IsEncoded holds old newer waiting_then all left
  piece_encoded {left = left} piece more parts waits text takes = record {
    front = k.front ++ piece;
    parts = append_assoc k.front piece left ∙ ap (λ t. k.front ++ t) (sym parts) ∙ k.parts;
    waits = waits;
    text = with_text more (base64url (whole_groups (k.front ++ piece))) text takes;
  }

  -- If nothing is left and the last text is absorbed, the text of all octets was absorbed.
  pub all_encoded : {last : M} (more : List ℕ) → length rest ≡ 0 → base64url k.front ≡ base64url (whole_groups k.front) ++ more
      → ((key : K) (before : List ℕ) → holds new key before → holds last key (before ++ more))
      → (key : K) (before : List ℕ) → holds old key before → holds last key (before ++ base64url all)
  all_encoded more none text takes =
      let whole = sym (append-nil k.front) ∙ ap (λ t. k.front ++ t) (sym (nil_from_length rest none)) ∙ k.parts in
      with_text more (base64url all) (ap base64url (sym whole) ∙ text) takes
