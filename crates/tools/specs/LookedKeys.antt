-- The lines that jose-look shows of keys (docs/SPECIFICATION.md "Tools").
use Rattle.std.specs.Prelude.{ℕ, ◌==◌, ◌&&◌, ◌||◌, not, nat_le, Bool, true, List, [], ◌∷◌, ◌++◌, length, codes, decimal, is_some, if◌then◌else◌, Option, Some, None, Result, Ok, Err}
use Rattle.std.specs.List.{list_any}
use Rattle.std.specs.Str.{byte, bytes_eq}
use Rattle.serde_json.specs.Data.{Data, Items, no_items, item}
use Rattle.serde_json.specs.Find.{get, as_str}
use Rattle.octets.specs.declared.refusal.Refusal.{Refusal}
use Rattle.octets.specs.Base64url.{decoded}
use Rattle.ciphers.specs.declared.key_alg.KeyAlg.{KeyAlg}
use Rattle.ciphers.specs.Algorithms.{encryption_alg_of, encryption_algs, management_alg_of, management_algs, management_name}
use Rattle.prf.specs.declared.digests.HashAlg.TheVariants.{S256}
use Rattle.keys.specs.declared.algorithm.Algorithm.TheVariants.{Signature, Encryption}
use Rattle.keys.specs.declared.algorithm.SignatureAlg.{SignatureAlg}
use Rattle.keys.specs.declared.operation.Operation.TheVariants.{Sign, Verify}
use Rattle.keys.specs.Algorithms.{management_operations, signature_alg_of, signature_algs, signature_name}
use Rattle.keys.specs.Keys.{OctetKey, allows, fits}
use Rattle.keys.specs.KeySets.{items_count, key_objects}
use Rattle.keys.specs.Limits.{limits}
use Rattle.keys.specs.SetMembers.{members_of}
use Rattle.keys.specs.Thumbprints.{thumbprint_of}
use Rattle.objects.specs.Texts.{is_json_space}
use Rattle.tokens.specs.Judging.{KeyUses, uses_of}
use Rattle.tools.specs.ShownValues.{secret_names, shown_text}

-- ---- what a key is good for (docs/SPECIFICATION.md "Tools")

-- a space and the word, or nothing
abbrev pub word_if : Bool → List ℕ → List ℕ
word_if test word = if test then byte " " ∷ word else []

abbrev pub use_words : KeyUses → List ℕ
use_words uses = word_if uses.sign (codes "sign") ++ word_if uses.verify (codes "verify") ++ word_if uses.encrypt (codes "encrypt")
    ++ word_if uses.decrypt (codes "decrypt")

-- it fits the algorithm, and may sign or verify by it
abbrev pub serves_signatures : OctetKey → SignatureAlg → Bool
serves_signatures key alg = (allows key Sign || allows key Verify) && fits key (Signature alg)

abbrev pub signature_words : OctetKey → List SignatureAlg → List ℕ
signature_words key [] = []
signature_words key (alg ∷ algs) = word_if (serves_signatures key alg) (signature_name alg) ++ signature_words key algs

-- it may encrypt or decrypt by the algorithm, and fits it with some content encryption
abbrev pub serves_encryption : OctetKey → KeyAlg → Bool
serves_encryption key alg = (allows key (management_operations alg).0 || allows key (management_operations alg).1)
    && list_any (λ enc. fits key (Encryption alg enc)) encryption_algs

abbrev pub management_words : OctetKey → List KeyAlg → List ℕ
management_words key [] = []
management_words key (alg ∷ algs) = word_if (serves_encryption key alg) (management_name alg) ++ management_words key algs

abbrev pub may_nothing : KeyUses → Bool
may_nothing uses = not (uses.sign || uses.verify || uses.encrypt || uses.decrypt)

-- its `alg` is absent or that of an algorithm (RFC 7517 section 4.4)
abbrev pub names_algorithm : Option (List ℕ) → Bool
names_algorithm None = true
names_algorithm (Some name) = is_some (signature_alg_of name) || is_some (management_alg_of name) || is_some (encryption_alg_of name)

-- some algorithm fits it, whatever it may do
abbrev pub fits_any : OctetKey → Bool
fits_any key = list_any (λ alg. fits key (Signature alg)) signature_algs
    || list_any (λ alg. list_any (λ enc. fits key (Encryption alg enc)) encryption_algs) management_algs

-- why a key may do nothing: the first cause
abbrev pub why_idle : OctetKey → List ℕ
why_idle key = if not (names_algorithm key.alg) then codes "alg is not known"
    else if fits_any key then codes "use or key_ops allows none"
    else codes "alg asks for a k of another length"

-- the words of what it may do, and the names of the algorithms, if there are any
unfoldable pub serving_text : OctetKey → List ℕ
serving_text key = if may_nothing (uses_of key) then codes " for no algorithm: " ++ why_idle key
    else use_words (uses_of key) ++ codes "," ++ signature_words key signature_algs ++ management_words key management_algs

abbrev pub good_text : OctetKey → List ℕ
good_text key = thumbprint_of key S256 ++ codes " " ++ decimal (length key.octets) ++ codes " bytes," ++ serving_text key

-- ---- why an object is no octet key: the first cause (docs/SPECIFICATION.md "Keys" 2)

-- characters of base64 that are none of base64url (RFC 4648 sections 4 and 5)
abbrev pub is_standard_character : ℕ → Bool
is_standard_character c = c == byte "+" || c == byte "/" || c == byte "="

-- why a text may be no base64url
abbrev pub character_hint : List ℕ → List ℕ
character_hint text = if list_any is_json_space text then codes ": it has a space or a line end in it"
    else if list_any is_standard_character text then codes ": it has characters of standard base64, and not of base64url"
    else []

abbrev pub is_absent_or_string : Option Data → Bool
is_absent_or_string None = true
is_absent_or_string (Some value) = is_some (as_str value)

-- the parameter of a wrong type, if the other three are right
abbrev pub wrong_parameter : Data → List ℕ
wrong_parameter value = if not (is_absent_or_string (get (codes "alg") value)) then codes "alg is of a wrong type"
    else if not (is_absent_or_string (get (codes "use") value)) then codes "use is of a wrong type"
    else if not (is_absent_or_string (get (codes "kid") value)) then codes "kid is of a wrong type"
    else codes "key_ops is of a wrong type"

abbrev pub why_length : ℕ → Data → List ℕ
why_length n value = if n == 0 then codes "k is empty"
    else if nat_le n limits.key_octets then wrong_parameter value
    else codes "k is too long"

abbrev pub why_octets : List ℕ → Result (List ℕ) Refusal → Data → List ℕ
why_octets text (Err refusal) value = codes "k is not base64url" ++ character_hint text
why_octets text (Ok octets) value = why_length (length octets) value

abbrev pub why_text : Option (List ℕ) → Data → List ℕ
why_text None value = codes "k is no string"
why_text (Some text) value = why_octets text (decoded text) value

abbrev pub why_secret : Option Data → Data → List ℕ
why_secret None value = codes "there is no k"
why_secret (Some k) value = why_text (as_str k) value

abbrev pub why_named : Option (List ℕ) → Data → List ℕ
why_named None value = codes "kty is no string"
why_named (Some kty) value = if bytes_eq kty (codes "oct") then why_secret (get (codes "k") value) value else codes "kty is not oct"

abbrev pub why_typed : Option Data → Data → List ℕ
why_typed None value = codes "there is no kty"
why_typed (Some kty) value = why_named (as_str kty) value

abbrev pub why_bad : Data → List ℕ
why_bad value = why_typed (get (codes "kty") value) value

-- ---- lines (docs/SPECIFICATION.md "Tools")

abbrev pub judgement : Data → Option OctetKey → List ℕ
judgement value (Some key) = codes "good " ++ good_text key
judgement value None = codes "bad, " ++ why_bad value

-- a key, or what is none, without its secret members
abbrev pub key_line : Data → Option OctetKey → List ℕ
key_line value key = codes "key: " ++ judgement value key ++ codes " " ++ shown_text secret_names value

-- the lines of the objects with their keys; where no key is left, there is none
abbrev pub each_key_line : Items → List (Option OctetKey) → List (List ℕ)
each_key_line no_items keys = []
each_key_line (item value values) [] = key_line value None ∷ each_key_line values []
each_key_line (item value values) (key ∷ keys) = key_line value key ∷ each_key_line values keys

abbrev pub lines_of_objects : Items → List (List ℕ)
lines_of_objects objects = if nat_le (items_count objects) limits.keys then each_key_line objects (members_of limits objects) else []

abbrev pub lines_if_objects : Result Items Refusal → List (List ℕ)
lines_if_objects (Err refusal) = []
lines_if_objects (Ok objects) = lines_of_objects objects

-- a line for each key object of a value that has not too many
abbrev pub key_lines : Data → List (List ℕ)
key_lines value = lines_if_objects (key_objects value)
