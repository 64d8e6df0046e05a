-- The strings and names that are read from UTF-8 text are UTF-8, from the bytes to the JSON.
use Rattle.std.proofs.Common.{◌≡◌, ℕ, Bool, true, false, List, [], ◌∷◌, ◌++◌, length, drop, Option, Some, None, cond, refl, sym, subst, arith, append_assoc, IsUtf8}
use Rattle.std.proofs.lemmas.Bool.{cond_both, eqb-true}
use Rattle.std.specs.List.{starts_with}
use Rattle.std.specs.Prelude.{◌==◌, ◌&&◌, nat_eq, ⊤}
use Rattle.json.proofs.Unique.Spelling.{value-json_tokens_back}
use Rattle.json.specs.Ascii as ascii
use Rattle.json.specs.Json as json
use Rattle.json.specs.Lex.{Lexeme, token, comma, colon, Class, quote, backslash, operator, space, other, class, operator_lexeme, string_token, Mode, between, in_word, in_string, in_escape, lex_byte, lex, Place, fresh, after_value, after_comma, after_key, begins_colon, may_begin, may_close, if_allowed, place_token, punctuate, tokens}
use Rattle.json.specs.Text.{content, plain}
use Rattle.json.specs.Token.{Token}
use Rattle.json.specs.Tree.{json_tokens, items_tokens, members_tokens}
use Rattle.json.specs.Word.{after_number, is_operator, is_space, head, number_before, literal, word, ends_word}
use Rattle.serde_json.specs.Read.{max_depth}
use Rattle.keys.proofs.StringsRead.{around, IsTextIfThere, content_is_utf8}

-- ---- tokens

abbrev IsText : Token → Type 0
IsText Token.begin_object = ⊤
IsText Token.end_object = ⊤
IsText Token.begin_array = ⊤
IsText Token.end_array = ⊤
IsText (Token.key s) = IsUtf8 s
IsText (Token.string s) = IsUtf8 s
IsText (Token.number s) = ⊤
IsText (Token.boolean b) = ⊤
IsText Token.null = ⊤
IsText Token.bad = ⊤

abbrev AreTexts : List Token → Type 0
AreTexts [] = ⊤
AreTexts (t ∷ ts) = IsText t × AreTexts ts

abbrev IsTextLexeme : Lexeme → Type 0
IsTextLexeme (token t) = IsText t
IsTextLexeme comma = ⊤
IsTextLexeme colon = ⊤

abbrev AreTextLexemes : List Lexeme → Type 0
AreTextLexemes [] = ⊤
AreTextLexemes (l ∷ ls) = IsTextLexeme l × AreTextLexemes ls

-- ---- lexemes

operator_text : (x : ℕ) → IsTextLexeme (operator_lexeme x)
operator_text x =
    let P : Lexeme → Type 0 = IsTextLexeme in
    cond_both (x == ascii.open_brace) _ _ P (λ _. tt) (λ _. cond_both (x == ascii.close_brace) _ _ P (λ _. tt)
    (λ _. cond_both (x == ascii.open_bracket) _ _ P (λ _. tt)
    (λ _. cond_both (x == ascii.close_bracket) _ _ P (λ _. tt) (λ _. cond_both (x == ascii.comma) _ _ P (λ _. tt) (λ _. tt)))))

string_text : (o : Option (List ℕ)) → IsTextIfThere o → IsText (string_token o)
string_text None h = tt
string_text (Some s) h = h

literal_text : (name : List ℕ) (t : Token) (s : List ℕ) → IsText t → IsText (literal name t s)
literal_text name t s h = cond_both (starts_with nat_eq s name && ends_word (drop (length name) s)) t Token.bad IsText (λ _. h) (λ _. tt)

number_text : (s : List ℕ) (o : Option (List ℕ)) → IsText (number_before s o)
number_text s None = tt
number_text s (Some rest) = cond_both (ends_word rest) _ _ IsText (λ _. tt) (λ _. tt)

word_text : (s : List ℕ) → IsText (word s)
unfolding word
word_text s =
    cond_both (head s == ascii.lower_t) _ _ IsText (λ _. literal_text ascii.true_text (Token.boolean true) s tt)
    (λ _. cond_both (head s == ascii.lower_f) _ _ IsText (λ _. literal_text ascii.false_text (Token.boolean false) s tt)
    (λ _. cond_both (head s == ascii.lower_n) _ _ IsText (λ _. literal_text ascii.null_text Token.null s tt) (λ _. number_text s (after_number s))))

quote_by : (q b o s : Bool) → cond q quote (cond b backslash (cond o operator (cond s space other))) ≡ quote → q ≡ true
quote_by true b o s e = refl
quote_by false true o s e = cc e
quote_by false false true s e = cc e
quote_by false false false true e = cc e
quote_by false false false false e = cc e

quote_is : (x : ℕ) → class x ≡ quote → x ≡ 34
quote_is x e = eqb-true x 34 (quote_by (x == 34) (x == 92) (is_operator x) (is_space x) e)

byte_texts : (m : Mode) (c : Class) (x : ℕ) (xs : List ℕ) (k : Mode → List Lexeme) → (c ≡ quote → IsUtf8 xs) → ((next : Mode) → AreTextLexemes (k next))
    → AreTextLexemes (lex_byte m c x xs k)
byte_texts between quote x xs k u h = (string_text (content plain xs) (content_is_utf8 xs (u refl)), h in_string)
byte_texts between backslash x xs k u h = (tt, h in_word)
byte_texts between operator x xs k u h = (operator_text x, h between)
byte_texts between space x xs k u h = h between
byte_texts between other x xs k u h = (word_text (x ∷ xs), h in_word)
byte_texts in_word quote x xs k u h = h in_word
byte_texts in_word backslash x xs k u h = h in_word
byte_texts in_word operator x xs k u h = (operator_text x, h between)
byte_texts in_word space x xs k u h = h between
byte_texts in_word other x xs k u h = h in_word
byte_texts in_string quote x xs k u h = h between
byte_texts in_string backslash x xs k u h = h in_escape
byte_texts in_string operator x xs k u h = h in_string
byte_texts in_string space x xs k u h = h in_string
byte_texts in_string other x xs k u h = h in_string
byte_texts in_escape c x xs k u h = h in_string

lex_texts : (m : Mode) (done xs : List ℕ) → IsUtf8 (done ++ xs) → AreTextLexemes (lex m xs)
unfolding lex
lex_texts m done [] u = tt
lex_texts m done (x ∷ xs) u =
    byte_texts m (class x) x xs (λ next. lex next xs) (λ e. (around done xs x (omega (arith, quote_is x e)) u).1)
    (λ next. lex_texts next (done ++ x ∷ []) xs (subst IsUtf8 (sym (append_assoc done (x ∷ []) xs)) u))

-- ---- commas and colons

allowed_texts : (b : Bool) (t : Token) (k : Place → List Token) (next : Place) → IsText t → ((p : Place) → AreTexts (k p)) → AreTexts (if_allowed b t k next)
allowed_texts true t k next h more = (h, more next)
allowed_texts false t k next h more = (tt, tt)

place_texts : (p : Place) (t : Token) (b : Bool) (k : Place → List Token) → IsText t → ((p : Place) → AreTexts (k p)) → AreTexts (place_token p t b k)
place_texts p Token.begin_object b k h more = allowed_texts (may_begin p) Token.begin_object k fresh tt more
place_texts p Token.end_object b k h more = allowed_texts (may_close p) Token.end_object k after_value tt more
place_texts p Token.begin_array b k h more = allowed_texts (may_begin p) Token.begin_array k fresh tt more
place_texts p Token.end_array b k h more = allowed_texts (may_close p) Token.end_array k after_value tt more
place_texts p (Token.key s) b k h more = (tt, tt)
place_texts p (Token.string s) true k h more = allowed_texts (may_begin p) (Token.key s) k after_key h more
place_texts p (Token.string s) false k h more = allowed_texts (may_begin p) (Token.string s) k after_value h more
place_texts p (Token.number s) b k h more = allowed_texts (may_begin p) (Token.number s) k after_value tt more
place_texts p (Token.boolean v) b k h more = allowed_texts (may_begin p) (Token.boolean v) k after_value tt more
place_texts p Token.null b k h more = allowed_texts (may_begin p) Token.null k after_value tt more
place_texts p Token.bad b k h more = (tt, tt)

punctuate_texts : (p : Place) (ls : List Lexeme) → AreTextLexemes ls → AreTexts (punctuate p ls)
unfolding punctuate
punctuate_texts fresh [] h = tt
punctuate_texts after_value [] h = tt
punctuate_texts after_comma [] h = (tt, tt)
punctuate_texts after_key [] h = (tt, tt)
punctuate_texts fresh (token t ∷ ls) h = place_texts fresh t (begins_colon ls) (λ next. punctuate next ls) h.0 (λ next. punctuate_texts next ls h.1)
punctuate_texts after_value (token t ∷ ls) h = place_texts after_value t (begins_colon ls) (λ next. punctuate next ls) h.0 (λ next. punctuate_texts next ls h.1)
punctuate_texts after_comma (token t ∷ ls) h = place_texts after_comma t (begins_colon ls) (λ next. punctuate next ls) h.0 (λ next. punctuate_texts next ls h.1)
punctuate_texts after_key (token t ∷ ls) h = place_texts after_key t (begins_colon ls) (λ next. punctuate next ls) h.0 (λ next. punctuate_texts next ls h.1)
punctuate_texts fresh (comma ∷ ls) h = (tt, tt)
punctuate_texts after_value (comma ∷ ls) h = punctuate_texts after_comma ls h.1
punctuate_texts after_comma (comma ∷ ls) h = (tt, tt)
punctuate_texts after_key (comma ∷ ls) h = (tt, tt)
punctuate_texts fresh (colon ∷ ls) h = (tt, tt)
punctuate_texts after_value (colon ∷ ls) h = (tt, tt)
punctuate_texts after_comma (colon ∷ ls) h = (tt, tt)
punctuate_texts after_key (colon ∷ ls) h = punctuate_texts fresh ls h.1

tokens_texts : (text : List ℕ) → IsUtf8 text → AreTexts (tokens text)
tokens_texts text u = punctuate_texts fresh (lex between text) (lex_texts between [] text u)

-- ---- JSON

abbrev mutual
  pub HasTexts : json.Json → Type 0
  HasTexts json.null = ⊤
  HasTexts (json.boolean b) = ⊤
  HasTexts (json.number s) = ⊤
  HasTexts (json.string s) = IsUtf8 s
  HasTexts (json.array js) = ItemsHaveTexts js
  HasTexts (json.object ms) = MembersHaveTexts ms

  pub ItemsHaveTexts : json.Items → Type 0
  ItemsHaveTexts json.no_items = ⊤
  ItemsHaveTexts (json.item j js) = HasTexts j × ItemsHaveTexts js

  pub MembersHaveTexts : json.Members → Type 0
  MembersHaveTexts json.no_members = ⊤
  MembersHaveTexts (json.member k j ms) = IsUtf8 k × HasTexts j × MembersHaveTexts ms

split : (ts more : List Token) → AreTexts (ts ++ more) → AreTexts ts × AreTexts more
split [] more h = (tt, h)
split (t ∷ ts) more h = let parts = split ts more h.1 in ((h.0, parts.0), parts.1)

mutual
  json_texts : (j : json.Json) → AreTexts (json_tokens j) → HasTexts j
  json_texts json.null h = tt
  json_texts (json.boolean b) h = tt
  json_texts (json.number s) h = tt
  json_texts (json.string s) h = h.0
  json_texts (json.array js) h = items_texts js h.1
  json_texts (json.object ms) h = members_texts ms h.1

  items_texts : (js : json.Items) → AreTexts (items_tokens js) → ItemsHaveTexts js
  items_texts json.no_items h = tt
  items_texts (json.item j js) h = let parts = split (json_tokens j) (items_tokens js) h in (json_texts j parts.0, items_texts js parts.1)

  members_texts : (ms : json.Members) → AreTexts (members_tokens ms) → MembersHaveTexts ms
  members_texts json.no_members h = tt
  members_texts (json.member k j ms) h = let parts = split (json_tokens j) (members_tokens ms) h.1 in (h.0, json_texts j parts.0, members_texts ms parts.1)

pub texts_read : (text : List ℕ) (j : json.Json) (r : List Token) → IsUtf8 text → json.value max_depth (tokens text) ≡ Some (j, r) → HasTexts j
texts_read text j r u e = json_texts j (split (json_tokens j) r (subst AreTexts (value-json_tokens_back max_depth (tokens text) r j e) (tokens_texts text u))).0
