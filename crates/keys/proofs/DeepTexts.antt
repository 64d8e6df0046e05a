-- The compact text of a value that nests too deeply is not read.
use Rattle.std.proofs.Common.{◌≡◌, ◌<◌, inl, inr, ℕ, zero, suc, List, [], ◌∷◌, ◌++◌, length, None, option_and_then, Ok, refl, sym, ap, ◌∙◌, arith, append_assoc, append-nil}
use Rattle.std.proofs.lemmas.Bool.{cases_lt}
use Rattle.json.specs.Json as json
use Rattle.json.specs.Lex.{tokens}
use Rattle.json.specs.Token.{Token}
use Rattle.json.specs.Tree as tree
use Rattle.json.proofs.Printed.Tokens.{tokens-print}
use Rattle.json.proofs.Printed.Trees.{ArePrintable-json_tokens, value-json_tokens}
use Rattle.serde_json.specs.Data.{Data, depth}
use Rattle.serde_json.specs.Read.{max_depth, read, of_json}
use Rattle.serde_json.specs.Written.{outline, compact_text}
use Rattle.serde_json.proofs.Texts.{print-outline}
use Rattle.octets.specs.Outcomes.{◌>>=◌, needs}
use Rattle.octets.specs.declared.refusal.Refusal.TheVariants.{Number}
use Rattle.keys.specs.Json.{json_value, numbers_are_whole}
use Rattle.keys.specs.JsonTexts.{IsJson, DeepTextsAreRefused}
use Rattle.keys.proofs.ReadingBack.{HasNumbers_outline, depth_outline}
use Rattle.keys.proofs.Readings.{no_reading}

-- No value begins with a closing bracket.
not_end : (j : json.Json) (rest : List Token) → json.after_end_array (tree.json_tokens j ++ rest) ≡ None
not_end json.null rest = refl
not_end (json.boolean b) rest = refl
not_end (json.number s) rest = refl
not_end (json.string s) rest = refl
not_end (json.array js) rest = refl
not_end (json.object ms) rest = refl

-- ---- the reader stops at the first token that is too deep, so it does not read the tokens of a deeper value

mutual
  unfolding json.value json.items json.members

  value_stops : (j : json.Json) (d : ℕ) (rest : List Token) → d < tree.depth j → json.value d (tree.json_tokens j ++ rest) ≡ None
  value_stops json.null d rest h = absurd (omega arith)
  value_stops (json.boolean b) d rest h = absurd (omega arith)
  value_stops (json.number s) d rest h = absurd (omega arith)
  value_stops (json.string s) d rest h = absurd (omega arith)
  value_stops (json.array js) zero rest h = refl
  value_stops (json.array js) (suc d) rest h = ap (json.parse_map json.array) (items_stop js d (length (tree.items_tokens js ++ rest)) rest (omega arith))
  value_stops (json.object ms) zero rest h = refl
  value_stops (json.object ms) (suc d) rest h = ap (json.parse_map json.object) (members_stop ms d (length (tree.members_tokens ms ++ rest)) rest (omega arith))

  items_stop : (js : json.Items) (d n : ℕ) (rest : List Token) → d < tree.items_depth js → json.items (json.value d) n (tree.items_tokens js ++ rest) ≡ None
  items_stop json.no_items d n rest h = absurd (omega arith)
  items_stop (json.item j js) d zero rest h = refl
  items_stop (json.item j js) d (suc n) rest h =
      let after = tree.items_tokens js ++ rest in
      ap (json.items (json.value d) (suc n)) (append_assoc (tree.json_tokens j) (tree.items_tokens js) rest)
      ∙ ap (json.items_step (json.value d) (json.items (json.value d) n) (tree.json_tokens j ++ after)) (not_end j after)
      ∙ elim (cases_lt d (tree.depth j)) [
        | inl deep ↦ ap (option_and_then (λ p. json.parse_map (json.item p.0) (json.items (json.value d) n p.1))) (value_stops j d after deep)
        | inr shallow ↦
            ap (option_and_then (λ p. json.parse_map (json.item p.0) (json.items (json.value d) n p.1))) (value-json_tokens j d after shallow)
            ∙ ap (json.parse_map (json.item j)) (items_stop js d n rest (omega arith))
      ]

  members_stop : (ms : json.Members) (d n : ℕ) (rest : List Token) → d < tree.members_depth ms
      → json.members (json.value d) n (tree.members_tokens ms ++ rest) ≡ None
  members_stop json.no_members d n rest h = absurd (omega arith)
  members_stop (json.member k j ms) d zero rest h = refl
  members_stop (json.member k j ms) d (suc n) rest h =
      let after = tree.members_tokens ms ++ rest in
      ap (λ l. json.members (json.value d) (suc n) (Token.key k ∷ l)) (append_assoc (tree.json_tokens j) (tree.members_tokens ms) rest)
      ∙ elim (cases_lt d (tree.depth j)) [
        | inl deep ↦ ap (option_and_then (λ p. json.parse_map (json.member k p.0) (json.members (json.value d) n p.1))) (value_stops j d after deep)
        | inr shallow ↦
            ap (option_and_then (λ p. json.parse_map (json.member k p.0) (json.members (json.value d) n p.1))) (value-json_tokens j d after shallow)
            ∙ ap (json.parse_map (json.member k j)) (members_stop ms d n rest (omega arith))
      ]

-- ---- the text is not read

not_read : (d : Data) → IsJson d → max_depth < depth d → read (compact_text d) ≡ None
not_read d is deep =
    let j = outline d in
    let text : tokens (compact_text d) ≡ tree.json_tokens j = ap tokens (sym (print-outline d))
    ∙ tokens-print (tree.json_tokens j) (ArePrintable-json_tokens j (HasNumbers_outline d is)) in
    ap (λ o. option_and_then of_json (option_and_then (λ p. json.if_last p.0 p.1) o))
    (ap (json.value max_depth) (text ∙ sym (append-nil (tree.json_tokens j))) ∙ value_stops j max_depth [] (omega (arith, depth_outline d)))

pub deep_texts : DeepTextsAreRefused
unfolding json_value
deep_texts d is deep =
    ap (λ r. r >>= (λ value. needs (numbers_are_whole value) Number >>= (λ _. Ok value))) (no_reading (compact_text d) (λ _. not_read d is deep))
