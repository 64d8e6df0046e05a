-- What the sets that jose-set makes read as.
use Rattle.std.specs.Prelude.{◌≡◌, ℕ, ◌+◌, true, not, filter, List, [], ◌∷◌, ◌++◌, None, Result, Ok}
use Rattle.keys.specs.Keys.{OctetKey}
use Rattle.keys.specs.KeySets.{key_set}
use Rattle.keys.specs.Limits.{limits}
use Rattle.tools.specs.declared.tool_cause.Place.TheVariants.{File}
use Rattle.tools.specs.declared.tool_cause.ToolCause.{ToolCause}
use Rattle.tools.specs.Sets.{JoinedKeys, first_twice, no_keys, set_keys, set_text, text_without, with_text}
use Rattle.keys.specs.Texts.{is_among}
use Rattle.keys.specs.Thumbprints.{thumbprint_of}
use Rattle.prf.specs.declared.digests.HashAlg.TheVariants.{S256}
use Rattle.tools.specs.Steps.{◌>>=◌}

-- ---- texts that are joined (docs/SPECIFICATION.md "Tools")

abbrev pub joined_from : ℕ → JoinedKeys → List (List ℕ) → Result JoinedKeys ToolCause
joined_from at joined [] = Ok joined
joined_from at joined (text ∷ texts) = with_text (File at) joined text >>= λ more. joined_from (at + 1) more texts

-- what `join` writes
abbrev pub joined_text : List (List ℕ) → Result (List ℕ) ToolCause
joined_text texts = joined_from 0 no_keys texts >>= λ joined. Ok (set_text joined.objects)

-- what `add` writes
abbrev pub added_text : List ℕ → List (List ℕ) → Result (List ℕ) ToolCause
added_text set texts = do
  first ← set_keys set
  joined ← joined_from 0 first texts
  Ok (set_text joined.objects)

-- ---- their keys (docs/SPECIFICATION.md "Tools")

-- the keys of the texts in order, all of them good
abbrev pub AreKeysOf : List (List ℕ) → List OctetKey → Type 0
AreKeysOf [] keys = keys ≡ []
AreKeysOf (text ∷ texts) keys = (own : List OctetKey) × ((rest : List OctetKey) × ((key_set limits text true ≡ Ok own) × AreKeysOf texts rest × (keys ≡ own ++ rest)))

-- The text is that of a set of exactly the keys of the texts, in order, none of which is there twice.
abbrev pub ReadsAs : List ℕ → List (List ℕ) → Type 0
ReadsAs text texts = (keys : List OctetKey) × ((key_set limits text true ≡ Ok keys) × AreKeysOf texts keys × (first_twice [] keys ≡ None))

abbrev pub JoinedKeysReadBack : Type 0
JoinedKeysReadBack = (first : List ℕ) (texts : List (List ℕ)) (text : List ℕ) → joined_text (first ∷ texts) ≡ Ok text → ReadsAs text (first ∷ texts)

abbrev pub AddedKeysReadBack : Type 0
AddedKeysReadBack = (set : List ℕ) (texts : List (List ℕ)) (text : List ℕ) → added_text set texts ≡ Ok text → ReadsAs text (set ∷ texts)

-- What is joined alone is the same text.
abbrev pub JoinedAloneIsTheSame : Type 0
JoinedAloneIsTheSame = (first : List ℕ) (texts : List (List ℕ)) (text : List ℕ) → joined_text (first ∷ texts) ≡ Ok text → joined_text (text ∷ []) ≡ Ok text

-- ---- keys that are removed (docs/SPECIFICATION.md "Tools")

-- the keys whose thumbprint is not named
abbrev pub unnamed : List (List ℕ) → List OctetKey → List OctetKey
unnamed names keys = filter (λ key. not (is_among names (thumbprint_of key S256))) keys

-- What `remove` writes is the text of a set of exactly the keys of the set whose thumbprint is not named, in order.
abbrev pub LeftKeysReadBack : Type 0
LeftKeysReadBack = (names : List (List ℕ)) (text changed : List ℕ) → text_without names text ≡ Ok changed
    → (keys : List OctetKey) × ((key_set limits text true ≡ Ok keys) × (key_set limits changed true ≡ Ok (unnamed names keys)))
