-- What the commands promise together: encrypted texts are decrypted, signed texts are verified, and objects go to compact form and back.
use Rattle.std.specs.Prelude.{◌≡◌, ◌↔◌, ℕ, Bool, true, false, List, [], ◌∷◌, ◌++◌, length, if◌then◌else◌, Contains, Option, Result, Ok, Err}
use Rattle.std.specs.List.{AllByRecursion}
use Rattle.octets.specs.declared.refusal.Refusal.{Refusal}
use Rattle.octets.specs.declared.refusal.Refusal.TheVariants.{NotCompact}
use Rattle.octets.specs.Octets.{IsOctets}
use Rattle.octets.specs.Plan.{OutputTexts, plan_from, planned}
use Rattle.keys.specs.declared.operation.Operation.TheVariants.{Verify}
use Rattle.keys.specs.Keys.{OctetKey, allows}
use Rattle.keys.specs.KeySets.{key_set}
use Rattle.keys.specs.Limits.{Limits, limits}
use Rattle.objects.specs.Jwe.{EncryptedObject, jwe_of}
use Rattle.objects.specs.Jws.{SignedObject, jws_of}
use Rattle.objects.specs.Texts.{handed_in, AreOctetsHandedIn}
use Rattle.tokens.specs.Encrypting.{MayDecrypt, OpensNoOther}
use Rattle.tokens.specs.Jwe.{enc_answer, dec_answer}
use Rattle.tokens.specs.Jws.{sig_answer, ver_answer}
use Rattle.jose.specs.declared.words.table.Command.{Command}
use Rattle.jose.specs.declared.words.table.Command.TheVariants.{JwsSig, JwsVer, JweEnc, JweDec}
use Rattle.jose.specs.Answer.{answer}
use Rattle.jose.specs.Invocations.{Settings}
use Rattle.jose.specs.Meanings.{is_content_given, is_content_wanted, is_compact_asked}
use Rattle.jose.specs.Ports.{InputTexts, as_content}

-- ---- invocations (docs/SPECIFICATION.md "Commands")

-- the answer of an invocation of this command with these settings
abbrev pub answer_by : Command → Settings → InputTexts → Result OutputTexts Refusal
answer_by command settings = answer (record { command = command; options = settings })

-- ---- `jwe enc` and `jwe dec` (RFC 7516 sections 5.1 and 5.2)

-- the key text holds this key alone, as a key or as a set
abbrev pub HoldsAlone : Limits → OctetKey → List ℕ → Type 0
HoldsAlone limits key text = key_set limits text false ≡ Ok (key ∷ [])

-- If `jwe enc` writes texts under some limits, they are read as an object under other limits. `jwe dec` decrypts every text that is read as
-- this object, with the ciphertext inside or detached, to the plaintext with any one of the keys alone. This key must be allowed to
-- decrypt, and must open no other plaintext at the recipients of the keys before it.
abbrev pub EncryptedIsDecrypted : Limits → Limits → Type 0
EncryptedIsDecrypted writing reading =
    (compact detach : Bool) (keys template random plaintext : List ℕ) (texts : OutputTexts) → IsOctets random → IsOctets plaintext
    → planned (plan_from (enc_answer writing compact detach keys template) random) plaintext ≡ Ok texts
    → (o : EncryptedObject) × ((jwe_of reading (handed_in detach texts.content) texts.text ≡ Ok o)
    × ((before after : List OctetKey) (key : OctetKey) (key_text : List ℕ) (detached : Option (List ℕ)) (text : List ℕ)
    → key_set writing keys true ≡ Ok (before ++ key ∷ after) → HoldsAlone reading key key_text
    → MayDecrypt writing compact (before ++ key ∷ after) key template → OpensNoOther (length before) key o plaintext
    → jwe_of reading detached text ≡ Ok o
    → dec_answer reading key_text detached text ≡ Ok plaintext))

-- If an invocation of `jwe enc` writes texts, they are read as an object. Every invocation of `jwe dec` decrypts every text that is read as
-- this object to the plaintext, with any one of the keys alone. The ciphertext is handed in exactly if `-I` was given.
abbrev pub AnswerIsDecrypted : Type 0
AnswerIsDecrypted = (encrypting decrypting : Settings) (given : InputTexts) (texts : OutputTexts) → IsOctets given.random → IsOctets given.content
    → answer_by JweEnc encrypting given ≡ Ok texts
    → (o : EncryptedObject) × ((jwe_of limits (handed_in (is_content_wanted encrypting) texts.content) texts.text ≡ Ok o)
    × ((before after : List OctetKey) (key : OctetKey) (back : InputTexts)
    → key_set limits given.keys true ≡ Ok (before ++ key ∷ after) → HoldsAlone limits key back.keys
    → MayDecrypt limits (is_compact_asked encrypting) (before ++ key ∷ after) key given.text → OpensNoOther (length before) key o given.content
    → jwe_of limits (handed_in (is_content_given decrypting) back.content) back.text ≡ Ok o
    → answer_by JweDec decrypting back ≡ Ok (as_content given.content)))

-- ---- `jws sig` and `jws ver` (RFC 7515 sections 5.1 and 5.2)

-- every key that the key text holds is one of these and may verify
abbrev pub HoldsSome : List OctetKey → List ℕ → Type 0
HoldsSome keys text =
    (held : List OctetKey) × ((key_set limits text false ≡ Ok held) × AllByRecursion (λ key. Contains keys key × (allows key Verify ≡ true)) held)

-- If `jws sig` writes texts, they are read as an object. `jws ver` verifies every text that is read as this object, with the payload inside
-- or detached, with any one or more of the keys that may verify, with `-a` and without. The payload is written if it is asked for.
abbrev pub SignedIsVerified : Type 0
SignedIsVerified = (compact detach : Bool) (keys template payload : List ℕ) (texts : OutputTexts) → IsOctets payload
    → planned (sig_answer limits compact detach keys template) payload ≡ Ok texts
    → (o : SignedObject) × ((jws_of limits (handed_in detach texts.content) texts.text ≡ Ok o)
    × ((signers : List OctetKey) (all wanted : Bool) (key_text : List ℕ) (detached : Option (List ℕ)) (text : List ℕ)
    → key_set limits keys true ≡ Ok signers → HoldsSome signers key_text
    → jws_of limits detached text ≡ Ok o
    → ver_answer limits all wanted key_text detached text ≡ Ok (if wanted then payload else [])))

-- If an invocation of `jws sig` writes texts, they are read as an object. Every invocation of `jws ver` verifies every text that is read as
-- this object, with any one or more of the keys that may verify. The payload is handed in exactly if `-I` was given, and is written exactly
-- if `-O` was.
abbrev pub AnswerIsVerified : Type 0
AnswerIsVerified = (signing verifying : Settings) (given : InputTexts) (texts : OutputTexts) → IsOctets given.content
    → answer_by JwsSig signing given ≡ Ok texts
    → (o : SignedObject) × ((jws_of limits (handed_in (is_content_wanted signing) texts.content) texts.text ≡ Ok o)
    × ((signers : List OctetKey) (back : InputTexts) → key_set limits given.keys true ≡ Ok signers → HoldsSome signers back.keys
    → jws_of limits (handed_in (is_content_given verifying) back.content) back.text ≡ Ok o
    → answer_by JwsVer verifying back ≡ Ok (as_content (if is_content_wanted verifying then given.content else []))))

-- ---- `jws fmt` and `jwe fmt` (RFC 7515 section 7 and RFC 7516 section 7)

-- An object that was read is written in compact form, with the content inside or detached, exactly if it fits. If it does not fit, the
-- refusal is NotCompact.
abbrev pub GoesToCompactForm : {O : Type 0} → (Option (List ℕ) → List ℕ → Result O Refusal) → (O → Type 0)
    → (Bool → Bool → Option (List ℕ) → List ℕ → Result OutputTexts Refusal) → Type 0
GoesToCompactForm {O} read Fits fmt = (detach : Bool) (detached : Option (List ℕ)) (text : List ℕ) (o : O) → read detached text ≡ Ok o
    → (((compact : OutputTexts) × (fmt true detach detached text ≡ Ok compact)) ↔ Fits o)
    × (¬ Fits o → fmt true detach detached text ≡ Err NotCompact)

-- An object that fits is written in JSON form, then in compact form and then in JSON form again, and the result is the same as at first. In
-- either form the content may be inside or detached, but both JSON texts have it in the same place.
abbrev pub FormatsGoBack : {O : Type 0} → (Option (List ℕ) → List ℕ → Result O Refusal) → (O → Type 0)
    → (Bool → Bool → Option (List ℕ) → List ℕ → Result OutputTexts Refusal) → Type 0
FormatsGoBack {O} read Fits fmt = (detach_json detach_compact : Bool) (detached : Option (List ℕ)) (text : List ℕ) (o : O)
    → AreOctetsHandedIn detached → IsOctets text
    → read detached text ≡ Ok o → Fits o
    → (json : OutputTexts) × ((compact : OutputTexts) × ((fmt false detach_json detached text ≡ Ok json)
    × ((fmt true detach_compact (handed_in detach_json json.content) json.text ≡ Ok compact)
    × (fmt false detach_json (handed_in detach_compact compact.content) compact.text ≡ Ok json))))
