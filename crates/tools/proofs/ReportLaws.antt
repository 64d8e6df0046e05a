-- The printable form of a text.
use Rattle.std.proofs.Common.{◌≡◌, ◌<◌, ◌/◌, ◌%◌, ◌∙◌, ℕ, codes, get_or, Bool, true, false, if◌then◌else◌, List, [], ◌∷◌, ◌++◌, refl, arith}
use Rattle.std.proofs.lemmas.Bool.{and_parts}
use Rattle.std.proofs.lemmas.List.Folds.{list_all-append}
use Rattle.std.specs.List.{list_all}
use Rattle.octets.specs.declared.refusal.Refusal.{Refusal}
use Rattle.octets.specs.declared.refusal.Refusal.TheVariants as cause
use Rattle.octets.specs.Refusals.{refusal_text}
use Rattle.tools.specs.declared.tool_cause.ToolCause.{ToolCause}
use Rattle.tools.specs.declared.tool_cause.ToolCause.TheVariants.{Usage, Memory, InputTwice, InputSet, Output, NotAllRead, At}
use Rattle.tools.specs.declared.tool_cause.Why.{Why}
use Rattle.tools.specs.declared.tool_cause.Why.TheVariants as why
use Rattle.tools.specs.declared.words.Tool.{Tool}
use Rattle.tools.specs.declared.words.Tool.TheVariants as tool
use Rattle.tools.specs.Printing.{hex_digit, is_printable, is_shown, printable, printable_octet, printed}
use Rattle.tools.specs.ReportLaws.{LinesArePrinted, TextsArePrinted}
use Rattle.tools.specs.ToolReports.{NamedWords, cause_text, name_of, why_text}
use Rattle.tools.specs.Words.{tool_name, usage_text}

digit_shown : (n : ℕ) → n < 16 → is_printable (hex_digit n) ≡ true
digit_shown n small = grind (arith, small)

octet_shown : (octet : ℕ) → list_all is_printable (printable_octet octet) ≡ true
octet_shown octet = by_test (is_printable octet) refl
  where
    by_test : (test : Bool) → is_printable octet ≡ test
        → list_all is_printable (if test then octet ∷ [] else 92 ∷ 120 ∷ hex_digit (octet / 16 % 16) ∷ hex_digit (octet % 16) ∷ []) ≡ true
    by_test true is = rw is refl
    by_test false is =
        let high : octet / 16 % 16 < 16 = omega arith in
        let low : octet % 16 < 16 = omega arith in
        rw (digit_shown (octet / 16 % 16) high, digit_shown (octet % 16) low) refl

pub texts_are_printed : TextsArePrinted
texts_are_printed [] = refl
texts_are_printed (octet ∷ octets) =
    rw (list_all-append is_printable (printable_octet octet) (printable octets), octet_shown octet, texts_are_printed octets) refl

-- ---- the line

shown_of : (xs : List ℕ) → list_all is_printable xs ≡ true → list_all is_shown xs ≡ true
shown_of [] h = refl
shown_of (x ∷ xs) h = let parts = and_parts (is_printable x) (list_all is_printable xs) h in rw (parts.0, shown_of xs parts.1) refl

both_shown : (xs ys : List ℕ) → list_all is_shown xs ≡ true → list_all is_shown ys ≡ true → list_all is_shown (xs ++ ys) ≡ true
both_shown xs ys hx hy = list_all-append is_shown xs ys ∙ rw (hx, hy) refl

text_shown : (text : List ℕ) → list_all is_shown (printable text) ≡ true
text_shown text = shown_of (printable text) (texts_are_printed text)

pub printed_shown : (lines : List (List ℕ)) → list_all is_shown (printed lines) ≡ true
printed_shown [] = refl
printed_shown (line ∷ lines) = both_shown (printable line) (10 ∷ printed lines) (text_shown line) (printed_shown lines)

why_shown : (words : NamedWords) (why : Why) → list_all is_shown (why_text words why) ≡ true
why_shown words why.Unread = refl
why_shown words (why.Refused refusal) = refusal_shown refusal
  where
    refusal_shown : (refusal : Refusal) → list_all is_shown (codes "jose: " ++ refusal_text refusal) ≡ true
    refusal_shown cause.Usage = refl
    refusal_shown cause.Read = refl
    refusal_shown cause.Write = refl
    refusal_shown cause.Memory = refl
    refusal_shown cause.Random = refl
    refusal_shown cause.Base64 = refl
    refusal_shown cause.Json = refl
    refusal_shown cause.Number = refl
    refusal_shown cause.Key = refl
    refusal_shown cause.Form = refl
    refusal_shown cause.Header = refl
    refusal_shown cause.Unsupported = refl
    refusal_shown cause.NoAlgorithm = refl
    refusal_shown cause.KeyDoesNotFit = refl
    refusal_shown cause.Limit = refl
    refusal_shown cause.NotCompact = refl
    refusal_shown cause.NotOpened = refl
why_shown words why.OtherMember = refl
why_shown words (why.KeyTwice thumbprint) = both_shown (codes "the key " ++ printable thumbprint) (codes " is there already")
    (both_shown (codes "the key ") (printable thumbprint) refl (text_shown thumbprint)) refl
why_shown words why.NoSet = refl
why_shown words why.NoFile = refl
why_shown words why.Link = refl
why_shown words why.NotWritable = refl
why_shown words why.Shared = refl
why_shown words (why.NoKey at) = both_shown (codes "no key has the thumbprint ") (printable (get_or words.others at [])) refl
    (text_shown (get_or words.others at []))
why_shown words why.NoneStays = refl
why_shown words why.Exists = refl
why_shown words why.Claimed = refl
why_shown words why.NotCreated = refl
why_shown words why.NotWritten = refl
why_shown words why.NotOnDisk = refl
why_shown words why.NotReplaced = refl
why_shown words why.NotDeleted = refl
why_shown words why.FolderNotOnDisk = refl

name_shown : (tool : Tool) → list_all is_shown (tool_name tool) ≡ true
name_shown tool.VerifyAll = refl
name_shown tool.Set = refl
name_shown tool.Look = refl

usage_shown : (tool : Tool) → list_all is_shown (usage_text tool) ≡ true
usage_shown tool.VerifyAll = refl
usage_shown tool.Set = refl
usage_shown tool.Look = refl

named_shown : (tool : Tool) (text : List ℕ) → list_all is_shown text ≡ true → list_all is_shown (tool_name tool ++ text) ≡ true
named_shown tool text shown = both_shown (tool_name tool) text (name_shown tool) shown

cause_shown : (words : NamedWords) (cause : ToolCause) → list_all is_shown (cause_text words cause) ≡ true
cause_shown words Usage = usage_shown words.tool
cause_shown words Memory = named_shown words.tool (codes ": jose: 4 Memory") refl
cause_shown words InputTwice = named_shown words.tool (codes ": -: standard input can be read only once") refl
cause_shown words InputSet = named_shown words.tool (codes ": -: it is not a file") refl
cause_shown words Output = named_shown words.tool (codes ": standard output cannot be written") refl
cause_shown words NotAllRead = named_shown words.tool (codes ": a file cannot be read") refl
cause_shown words (At place why) =
    let name : List ℕ = printable (name_of words place) in
    let front : List ℕ = tool_name words.tool ++ codes ": " in
    both_shown ((front ++ name) ++ codes ": ") (why_text words why)
    (both_shown (front ++ name) (codes ": ")
    (both_shown front name (named_shown words.tool (codes ": ") refl) (text_shown (name_of words place))) refl)
    (why_shown words why)

pub lines_are_printed : LinesArePrinted
lines_are_printed words cause = both_shown (cause_text words cause) (codes "\n") (cause_shown words cause) refl
