-- What the answer of jose-verify-all says of the keys.
use Rattle.std.specs.Prelude.{◌≡◌, ◌≢◌, ℕ, ◌≤◌, Bool, true, List, ◌∷◌, ◌++◌, length, Ok, Err}
use Rattle.std.specs.List.{count_by}
use Rattle.octets.specs.declared.refusal.Refusal.TheVariants.{Key}
use Rattle.octets.specs.Plan.{OutputTexts}
use Rattle.prf.specs.Hmac.{key_block}
use Rattle.keys.specs.declared.algorithm.SignatureAlg.{SignatureAlg}
use Rattle.keys.specs.Algorithms.{signature_hash}
use Rattle.keys.specs.Keys.{OctetKey}
use Rattle.keys.specs.KeySets.{key_set}
use Rattle.keys.specs.Limits.{limits}
use Rattle.objects.specs.Texts.{handed_in}
use Rattle.tokens.specs.Jws.{ver_answer}
use Rattle.jose.specs.Headline.{HoldsAlone}
use Rattle.jose.specs.Invocations.{Settings}
use Rattle.jose.specs.Meanings.{is_content_given, is_content_wanted}
use Rattle.jose.specs.Ports.{InputTexts, on_content}
use Rattle.tools.specs.declared.words.Signers.{Signers}
use Rattle.tools.specs.VerifyAll.{verify_all_answer}

-- ---- each signer (docs/SPECIFICATION.md "Tools")

-- all of so many signers
abbrev pub each_of : ℕ → Signers
each_of number = record { least = number; number = number }

-- If the object is accepted by each signer, there are so many keys, and `jws ver` accepts it with each of them alone and writes the same.
abbrev pub EachKeyVerifies : Type 0
EachKeyVerifies = (number : ℕ) (settings : Settings) (inputs : InputTexts) (texts : OutputTexts) → verify_all_answer (each_of number) settings inputs ≡ Ok texts
    → (set : List OctetKey) × ((key_set limits inputs.keys true ≡ Ok set) × ((length set ≡ number)
    × ((before after : List OctetKey) (key : OctetKey) (key_text : List ℕ) (all : Bool) → set ≡ before ++ key ∷ after → HoldsAlone limits key key_text
    → on_content (ver_answer limits all (is_content_wanted settings) key_text (handed_in (is_content_given settings) inputs.content) inputs.text)
    ≡ Ok texts)))

-- ---- at least so many signers (docs/SPECIFICATION.md "Tools")

-- If the object is accepted by at least so many of the signers, there are as many keys as signers. At least so many of them signed, and at
-- least one: `jws ver` accepts the object with each of these alone and writes the same.
abbrev pub SoManyKeysVerify : Type 0
SoManyKeysVerify = (signers : Signers) (settings : Settings) (inputs : InputTexts) (texts : OutputTexts) → verify_all_answer signers settings inputs ≡ Ok texts
    → (set : List OctetKey) × ((signed : OctetKey → Bool) × ((key_set limits inputs.keys true ≡ Ok set) × (length set ≡ signers.number)
    × (signers.least ≤ count_by signed set) × (1 ≤ count_by signed set)
    × ((before after : List OctetKey) (key : OctetKey) (key_text : List ℕ) (all : Bool) → set ≡ before ++ key ∷ after → signed key ≡ true
    → HoldsAlone limits key key_text
    → on_content (ver_answer limits all (is_content_wanted settings) key_text (handed_in (is_content_given settings) inputs.content) inputs.text)
    ≡ Ok texts)))

-- If more of the signers must sign, what is accepted is accepted if fewer must, and the same is written.
abbrev pub FewerAreEnough : Type 0
FewerAreEnough = (fewer more number : ℕ) (settings : Settings) (inputs : InputTexts) (texts : OutputTexts) → fewer ≤ more
    → verify_all_answer (record { least = more; number = number }) settings inputs ≡ Ok texts
    → verify_all_answer (record { least = fewer; number = number }) settings inputs ≡ Ok texts

-- ---- keys that are no signers (docs/SPECIFICATION.md "Tools")

-- If the keys are fewer or more than the number, the refusal is Key.
abbrev pub OtherNumberIsRefused : Type 0
OtherNumberIsRefused = (signers : Signers) (settings : Settings) (inputs : InputTexts) (set : List OctetKey)
    → key_set limits inputs.keys true ≡ Ok set → length set ≢ signers.number → verify_all_answer signers settings inputs ≡ Err Key

-- If HMAC makes the same block of two of the keys by the hash of some algorithm, the refusal is Key.
abbrev pub AlikeKeysAreRefused : Type 0
AlikeKeysAreRefused = (signers : Signers) (settings : Settings) (inputs : InputTexts) (before between after : List OctetKey) (one other : OctetKey)
    (alg : SignatureAlg)
    → key_set limits inputs.keys true ≡ Ok (before ++ one ∷ (between ++ other ∷ after))
    → key_block (signature_hash alg) one.octets ≡ key_block (signature_hash alg) other.octets → verify_all_answer signers settings inputs ≡ Err Key

-- So it is if a key is there twice.
abbrev pub KeyTwiceIsRefused : Type 0
KeyTwiceIsRefused = (signers : Signers) (settings : Settings) (inputs : InputTexts) (before between after : List OctetKey) (one other : OctetKey)
    → key_set limits inputs.keys true ≡ Ok (before ++ one ∷ (between ++ other ∷ after)) → one.octets ≡ other.octets
    → verify_all_answer signers settings inputs ≡ Err Key
