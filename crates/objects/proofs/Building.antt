-- Building an object of members has the same result as reading their JSON text. What is here holds of signed and encrypted objects alike.
use Rattle.std.proofs.Common.{◌≡◌, ◌≤◌, ℕ, List, [], ◌∷◌, length, Bool, true, false, nat_le, if◌then◌else◌, Result, Ok, Err, inl, inr, refl, sym, ap, ◌∙◌, true≢false, arith}
use Rattle.std.proofs.lemmas.Bool.{cases_lt, le-leb}
use Rattle.serde_json.specs.Data.{Data, Members, object, depth}
use Rattle.serde_json.specs.Written.{compact_text}
use Rattle.octets.specs.declared.refusal.Refusal.{Refusal}
use Rattle.octets.specs.declared.refusal.Refusal.TheVariants.{Json, Form}
use Rattle.octets.specs.LineEnds.{without_line_end}
use Rattle.octets.specs.Outcomes.{◌>>=◌, needs}
use Rattle.keys.specs.Json.{json_value}
use Rattle.keys.specs.JsonTexts.{IsJson}
use Rattle.keys.proofs.Lemmas.{deep_texts, reads_back}
use Rattle.objects.specs.Texts.{is_json_form}
use Rattle.objects.proofs.Spelling.{object_form}

-- A list without a first element is empty.
pub none_there : {X : Type 0} (xs : List X) → nat_le 1 (length xs) ≡ false → xs ≡ []
none_there [] h = refl
none_there (x ∷ xs) h = absurd (true≢false (sym (le-leb 1 (length (x ∷ xs)) (omega arith)) ∙ h))

-- the object of a text in either form
abbrev pub of_text : {T O : Type 0} → (Data → Result T Refusal) → (List ℕ → Result T Refusal) → (T → Result O Refusal) → List ℕ → Result O Refusal
of_text in_json in_compact decode text = (if is_json_form text then (json_value text >>= in_json) else in_compact (without_line_end text)) >>= decode

-- What is known of the object that is built of members, and of the object that is read from their JSON text. Both decode the same members.
pub record Builds {T O : Type 0} (in_json : Data → Result T Refusal) (decode : T → Result O Refusal) (built decoded : Result O Refusal)
    (members : Members) (shallow some : Bool) : Type 0 where
  -- if no header is too deep
  pub built_shallow : shallow ≡ true → built ≡ (needs some Form >>= λ some. decoded)
  pub value : shallow ≡ true → json_value (compact_text (object members)) ≡ Ok (object members)
  pub read_some : some ≡ true → (in_json (object members) >>= decode) ≡ decoded
  pub read_none : some ≡ false → in_json (object members) ≡ Err Form
  -- if a header is too deep
  pub built_deep : shallow ≡ false → built ≡ Err Json
  pub nests : depth (object members) ≤ 127 → shallow ≡ true
  pub json : IsJson (object members)

module _ {T O : Type 0} (in_json : Data → Result T Refusal) (in_compact : List ℕ → Result T Refusal) (decode : T → Result O Refusal)
    (built decoded : Result O Refusal) (ms : Members) where
  read_value : json_value (compact_text (object ms)) ≡ Ok (object ms)
      → of_text in_json in_compact decode (compact_text (object ms)) ≡ (in_json (object ms) >>= decode)
  read_value value = rw (object_form ms, value) refl

  refused : json_value (compact_text (object ms)) ≡ Err Json → of_text in_json in_compact decode (compact_text (object ms)) ≡ Err Json
  refused value = rw (object_form ms, value) refl

  pub building : (shallow some : Bool) → Builds in_json decode built decoded ms shallow some
      → built ≡ of_text in_json in_compact decode (compact_text (object ms))
  building true true is = is.built_shallow refl ∙ sym (read_value (is.value refl) ∙ is.read_some refl)
  building true false is = is.built_shallow refl ∙ sym (read_value (is.value refl) ∙ ap (λ r. r >>= decode) (is.read_none refl))
  building false some is =
      elim (cases_lt 127 (depth (object ms))) [
        | inl deeper ↦ is.built_deep refl ∙ sym (refused (deep_texts (object ms) is.json deeper))
        | inr shallow ↦ absurd (true≢false (sym (is.nests shallow)))
      ]

-- If the JSON text of members reads as a value, it is the compact text of this value.
pub read_as_written : (members : Members) (value : Data) → IsJson (object members) → json_value (compact_text (object members)) ≡ Ok value
    → compact_text (object members) ≡ compact_text value
read_as_written members value json read =
    elim (cases_lt 127 (depth (object members))) [
      | inl deeper ↦ let none = deep_texts (object members) json deeper in cc (read, none)
      | inr shallow ↦ let again = reads_back (object members) json shallow in let same : object members ≡ value = cc (again, read) in ap compact_text same
    ]
