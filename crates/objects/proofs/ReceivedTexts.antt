-- Decoding a base64url text in pieces, up to a place or to its end.
use Rattle.std.proofs.Common.{◌≡◌, ◌==◌, false, ℕ, zero, suc, ◌≤◌, List, [], ◌∷◌, ◌++◌, length, take, Result, Ok, Err, refl, sym, ap, subst, ◌∙◌, arith, append_assoc, append-nil, length-append}
use Rattle.std.proofs.lemmas.List.{nil_from_length, length-take}
use Rattle.std.specs.Result.{result_unwrap_or}
use Rattle.octets.specs.declared.refusal.Refusal.{Refusal}
use Rattle.octets.specs.declared.refusal.Refusal.TheVariants.{Base64}
use Rattle.octets.specs.Base64url.{base64url, decoded}
use Rattle.octets.specs.Code.Streams.{settled, unsettled, settling, RefusesFrom}
use Rattle.octets.specs.Devices.{AppendsPrefixOf}
use Rattle.octets.specs.Encoding.{octets_of_groups}
use Rattle.octets.specs.LineEnds.{without_line_end}
use Rattle.octets.specs.Octets.{IsOctets}
use Rattle.octets.proofs.Lemmas.{IsOctets-front, AppendsPrefixOf-front, cut, reading_starts, settling_grows, decodes_exactly, has_url_characters, octets_of_meaning, text_of_meaning}
use Rattle.objects.specs.Code.Meaning.{meaning}
use Rattle.objects.proofs.Characters.{joined_characters, no_line_end}

-- ---- line ends

-- If a text is as long without its line end, it has none.
pub as_long : (text : List ℕ) → length (without_line_end text) ≡ length text → without_line_end text ≡ text
as_long text h =
    let c = cut text in
    let long : length text ≤ c.0 = omega (arith, h, ap length c.1, length-take c.0 text) in
    c.1 ∙ all_taken c.0 text long
  where
    all_taken : (n : ℕ) (xs : List ℕ) → length xs ≤ n → take n xs ≡ xs
    all_taken zero [] h = refl
    all_taken (suc n) [] h = refl
    all_taken (suc n) (x ∷ xs) h = ap (λ l. x ∷ l) (all_taken n xs (omega (arith, h)))
    all_taken zero (x ∷ xs) h = absurd (omega (arith, h))

-- The text of octets has no line end.
pub octets_end_so : (x : List ℕ) → IsOctets x → without_line_end (base64url x) ≡ base64url x
octets_end_so x h = no_line_end (base64url x) (joined_characters (base64url x ∷ []) (has_url_characters x h, tt))

-- A text with a line end does not decode.
pub none_with_line_end : (text : List ℕ) → IsOctets text → (length (without_line_end text) == length text) ≡ false → decoded text ≡ Err Base64
none_with_line_end text octets longer = by_meaning (decoded text) refl
  where
    differs : (n : ℕ) → (n == n) ≡ false → ⊥
    differs n h = grind (arith, h)

    by_meaning : (r : Result (List ℕ) Refusal) → decoded text ≡ r → decoded text ≡ Err Base64
    by_meaning (Ok x) is =
        let whole = text_of_meaning text x octets is in
        let same : without_line_end text ≡ text = ap without_line_end whole ∙ octets_end_so x (octets_of_meaning text x octets is) ∙ sym whole in
        let test : (length text == length text) ≡ false = sym (ap (λ t. length t == length text) same) ∙ longer in
        absurd (differs (length text) test)
    by_meaning (Err r) is = is ∙ ap Err (decodes_exactly.refusal text r is)

-- ---- the meaning of a text

-- The octets that a text decodes to are its meaning.
pub meant_by : (text x : List ℕ) → decoded text ≡ Ok x → decoded text ≡ Ok (meaning text)
meant_by text x is = is ∙ ap (λ r. Ok (result_unwrap_or r [])) (sym is)

-- A text that is the text of its meaning has no line end and decodes to this meaning.
pub means : (text : List ℕ) → IsOctets (meaning text) → text ≡ base64url (meaning text) → decoded (without_line_end text) ≡ Ok (meaning text)
means text octets is = ap (λ t. decoded (without_line_end t)) is ∙ ap decoded (octets_end_so (meaning text) octets)
    ∙ decodes_exactly.round_trip (meaning text) octets

-- ---- a text in pieces

-- If more was appended after a text, the text and more were appended.
pub behind : (old text more new : List ℕ) → AppendsPrefixOf more (old ++ text) new → AppendsPrefixOf (text ++ more) old new
behind old text more new stands = (omega (arith, stands.0, length-append old text), ap (take (length new)) (sym (append_assoc old text more)) ∙ stands.1)

-- Everything but the rest was fed, and the characters after the last settled group are waiting.
pub record IsReadTo (waiting all rest : List ℕ) : Type 0 where
  pub front : List ℕ
  pub parts : front ++ rest ≡ all
  pub fed : (waiting ≡ unsettled front) × (decoded (settled front) ≡ Ok (octets_of_groups (settled front)))

-- At the start nothing is read.
abbrev pub nothing_read : {waiting all rest : List ℕ} → rest ≡ all → waiting ≡ [] → IsReadTo waiting all rest
nothing_read {waiting = waiting} begin none = record { front = []; parts = begin; fed = reading_starts waiting none }

module _ {waiting all rest : List ℕ} (k : IsReadTo waiting all rest) where
  -- The piece follows the text that was read before it.
  pub with_piece : (left piece : List ℕ) → rest ≡ piece ++ left → (k.front ++ piece) ++ left ≡ all
  with_piece left piece parts = append_assoc k.front piece left ∙ ap (λ t. k.front ++ t) (sym parts) ∙ k.parts

  -- The text read so far is octets.
  pub octets_read : (left piece : List ℕ) → rest ≡ piece ++ left → IsOctets all → IsOctets (k.front ++ piece)
  octets_read left piece parts octets = IsOctets-front (k.front ++ piece) left (subst IsOctets (sym (with_piece left piece parts)) octets)

  -- A piece is read after the text before it.
  abbrev pub piece_read : (waiting_then left piece : List ℕ) → rest ≡ piece ++ left
      → (waiting_then ≡ unsettled (k.front ++ piece)) × (decoded (settled (k.front ++ piece)) ≡ Ok (octets_of_groups (settled (k.front ++ piece))))
      → IsReadTo waiting_then all left
  piece_read waiting_then left piece parts fed = record { front = k.front ++ piece; parts = with_piece left piece parts; fed = fed }

  -- If a piece is refused, the whole text does not decode.
  pub piece_refused : (left piece : List ℕ) (e : Refusal) → rest ≡ piece ++ left → IsOctets all → RefusesFrom settling (k.front ++ piece) e
      → decoded (without_line_end all) ≡ Err e
  piece_refused left piece e parts octets refuses =
      let whole = with_piece left piece parts in
      ap (λ t. decoded (without_line_end t)) (sym whole) ∙ refuses left (subst IsOctets (sym whole) octets)

  -- If nothing is left, the whole text was read.
  pub all_read : length rest ≡ 0 → k.front ≡ all
  all_read none = sym (append-nil k.front) ∙ ap (λ t. k.front ++ t) (sym (nil_from_length rest none)) ∙ k.parts

  -- ---- writing the meaning of a text

  -- If some of the octets that a piece settles are written after the earlier ones, a beginning of the meaning was written.
  pub piece_stands : (left piece octets meant old out new : List ℕ) → rest ≡ piece ++ left → IsOctets all → decoded (without_line_end all) ≡ Ok meant
      → octets_of_groups (settled (k.front ++ piece)) ≡ octets_of_groups (settled k.front) ++ octets → out ≡ old ++ octets_of_groups (settled k.front)
      → AppendsPrefixOf octets out new
      → AppendsPrefixOf meant old new
  piece_stands left piece octets meant old out new parts is_octets means adds written stands =
      let whole = with_piece left piece parts in
      let begins = settling_grows.whole (k.front ++ piece) left meant (subst IsOctets (sym whole) is_octets)
      (ap (λ t. decoded (without_line_end t)) whole ∙ means) in
      subst (λ w. AppendsPrefixOf w old new) (sym (begins.continues ∙ ap (λ w. w ++ begins.rest) adds))
      (AppendsPrefixOf-front (octets_of_groups (settled k.front) ++ octets) begins.rest old new
      (behind old (octets_of_groups (settled k.front)) octets new (subst (λ o. AppendsPrefixOf octets o new) written stands)))

  -- If nothing is left, the last octets complete the meaning.
  pub all_written : IsOctets (meaning all) → all ≡ base64url (meaning all) → IsOctets all → (last : List ℕ) → length rest ≡ 0
      → (IsOctets k.front → decoded (without_line_end k.front) ≡ Ok (octets_of_groups (settled k.front) ++ last))
      → meaning all ≡ octets_of_groups (settled k.front) ++ last
  all_written meant_octets is octets last none ends =
      let front = all_read none in
      let meant = sym (means all meant_octets is) ∙ ap (λ t. decoded (without_line_end t)) (sym front) ∙ ends (subst IsOctets (sym front) octets) in
      cc meant
