-- Which tool the program's arguments name, and what its words ask for.
use Rattle.std.specs.Prelude.{ℕ, ◌-◌, ◌==◌, ◌&&◌, ◌||◌, not, nat_eq, nat_le, nat_lt, slice_index, Bool, List, [], ◌∷◌, length, find, codes, Option, Some, None, if◌then◌else◌, Result, Ok, Err}
use Rattle.std.specs.Char.{is_ascii_digit}
use Rattle.std.specs.List.{after_first, before_first, ends_with, list_all, position_or_len}
use Rattle.std.specs.Option.{ok_or}
use Rattle.std.specs.Str.{byte, bytes_eq}
use Rattle.std.specs.Str.Parse.{digits_value}
use Rattle.octets.specs.declared.refusal.Refusal.{Refusal}
use Rattle.octets.specs.declared.refusal.Refusal.TheVariants.{Usage}
use Rattle.octets.specs.Outcomes.{◌>>=◌}
use Rattle.jose.specs.Invocations.{InvocationView, invocation_view}
use Rattle.jose.specs.Words.{invocation_of}
use Rattle.tools.specs.declared.words.Tool.{Tool}
use Rattle.tools.specs.declared.words.Tool.TheVariants.{VerifyAll, Set, Look}
use Rattle.tools.specs.declared.words.Signers.{Signers}
use Rattle.tools.specs.declared.words.VerifyAllRequest.{VerifyAllRequest}

-- ---- the tool (docs/SPECIFICATION.md "Tools")

abbrev pub tool_name : Tool → List ℕ
tool_name VerifyAll = codes "jose-verify-all"
tool_name Set = codes "jose-set"
tool_name Look = codes "jose-look"

abbrev pub tools : List Tool
tools = VerifyAll ∷ Set ∷ Look ∷ []

-- what a tool says of words that ask for nothing
abbrev pub usage_text : Tool → List ℕ
usage_text VerifyAll = codes "usage: jose-verify-all NUMBER KEYS [WORD..]\nNUMBER is N for each of N signers, or K/N for at least K of them. The words are those of jose jws ver without -k and -a."
usage_text Set = codes "usage: jose-set join [-o NEW] FILE..\n       jose-set add SET FILE..\n       jose-set remove SET THUMBPRINT.."
usage_text Look = codes "usage: jose-look FILE..\n       jose-look command WORD.."

-- the tool of this name
unfoldable pub tool_named : List ℕ → Option Tool
tool_named name = find (λ tool. bytes_eq name (tool_name tool)) tools

-- the last part of the path is the name: nothing or a slash stands before it
abbrev pub is_path_of : List ℕ → List ℕ → Bool
is_path_of path name = ends_with nat_eq path name
    && ((length path == length name) || (slice_index path (length path - length name - 1) == byte "/"))

-- the tool whose name is the last part of the path
unfoldable pub tool_at : List ℕ → Option Tool
tool_at path = find (λ tool. is_path_of path (tool_name tool)) tools

abbrev pub tool_first : List (List ℕ) → Result (Tool × List (List ℕ)) Refusal
tool_first [] = Err Usage
tool_first (name ∷ words) = ok_or (tool_named name) Usage >>= λ tool. Ok (tool, words)

abbrev pub tool_or_first : Option Tool → List (List ℕ) → Result (Tool × List (List ℕ)) Refusal
tool_or_first (Some tool) words = Ok (tool, words)
tool_or_first None words = tool_first words

-- The tool and its words. The program's own name is that of the tool, or else its first word is.
abbrev pub tool_of : List (List ℕ) → Result (Tool × List (List ℕ)) Refusal
tool_of [] = Err Usage
tool_of (program ∷ words) = tool_or_first (tool_at program) words

-- ---- the words of jose-verify-all (docs/SPECIFICATION.md "Tools")

-- one to three digits, the first of which is not 0
abbrev pub is_number : List ℕ → Bool
is_number text = nat_le (length text) 3 && not (length text == 0) && not (slice_index text 0 == byte "0") && list_all is_ascii_digit text

abbrev pub number_of : List ℕ → Option ℕ
number_of text = if is_number text then Some (digits_value 10 text) else None

-- at least so many of so many signers, which are not fewer
abbrev pub signers_from : Option ℕ → Option ℕ → Option Signers
signers_from (Some least) (Some number) = if nat_le least number then Some (record { least = least; number = number }) else None
signers_from least number = None

abbrev pub is_slash : ℕ → Bool
is_slash octet = octet == byte "/"

-- the text has a slash
abbrev pub has_slash : List ℕ → Bool
has_slash text = nat_lt (position_or_len is_slash text) (length text)

-- The signers that a word asks for: all of so many, or, around its first slash, at least so many of so many.
abbrev pub signers_asked : List ℕ → Option Signers
signers_asked text =
    if has_slash text
    then signers_from (number_of (before_first is_slash text)) (number_of (after_first is_slash text))
    else signers_from (number_of text) (number_of text)

pub record RequestView : Type 0 where
  pub signers : Signers
  pub invocation : InvocationView

abbrev pub request_view : VerifyAllRequest → RequestView
request_view request = record { signers = request.signers; invocation = invocation_view request.invocation }

-- the words of `jose jws ver -a -k KEYS WORD..`
abbrev pub verifying_words : List ℕ → List (List ℕ) → List (List ℕ)
verifying_words keys words = codes "jws" ∷ codes "ver" ∷ codes "-a" ∷ codes "-k" ∷ keys ∷ words

-- The first word asks for signers, and the second names the keys. The others are those of `jws ver`, which then has its `-a` and `-k`.
unfoldable pub request_of : List (List ℕ) → Result RequestView Refusal
request_of (number ∷ (keys ∷ words)) = do
  signers ← ok_or (signers_asked number) Usage
  invocation ← invocation_of (verifying_words keys words)
  Ok (record { signers = signers; invocation = invocation })
request_of words = Err Usage
