-- The parameters that are written for a delivery, as entries. With them, the joint header names the algorithms and has the parameters of
-- key management.
use Rattle.std.proofs.Common.{◌≡◌, ℕ, ◌≤◌, ◌<◌, ◌^◌, Bool, true, false, nat_le, List, [], ◌∷◌, length, codes, Option, Some, None, option_and_then, option_map, is_some, Ok, IsUtf8, refl, ◌∙◌, ap, arith}
use Rattle.std.proofs.lemmas.Bool.{le-leb}
use Rattle.std.specs.List.{list_all}
use Rattle.std.specs.Option.{option_or, ok_or}
use Rattle.octets.specs.Outcomes.{◌>>=◌}
use Rattle.octets.specs.declared.refusal.Refusal.TheVariants.{Header}
use Rattle.serde_json.specs.Data.{Data, unsigned, number, string, Members, put}
use Rattle.serde_json.specs.Find.{get_member, as_str, as_number, as_u64}
use Rattle.octets.specs.Octets.{IsOctets}
use Rattle.octets.specs.Base64url.{base64url, is_url_character}
use Rattle.octets.proofs.Lemmas.{decodes_exactly, has_url_characters}
use Rattle.ciphers.specs.declared.content_alg.ContentAlg.{ContentAlg}
use Rattle.ciphers.specs.declared.key_alg.KeyAlg.{KeyAlg}
use Rattle.ciphers.specs.declared.key_alg.KeyManagementMode.{KeyManagementMode}
use Rattle.ciphers.specs.declared.key_alg.KeyManagementMode.TheVariants as mode
use Rattle.ciphers.specs.Algorithms.{management_name, encryption_name, mode_of, is_password, is_password_based, management_algs}
use Rattle.keys.proofs.Lemmas.{url_texts_are_json}
use Rattle.objects.specs.Headers.{all_members, joint_header, parameter_if_there, string_parameter, string_there, number_parameter, salt_parameter, octets_parameter}
use Rattle.objects.specs.Jwe.{Recipient, recipient_by, recipient_of}
use Rattle.objects.specs.KeyManagement.{management_in, KeyManagement, Unknown, Direct, KeyWrap, Password, GcmKeyWrap, password_management, gcm_management, management_by, key_management}
use Rattle.objects.proofs.Lemmas.{Entries, put_if_there, first_there, IsJsonIfThere, AreJsonEntries, name_is_json}
use Rattle.tokens.specs.Choosing.{with_name, with_p2c, Given}
use Rattle.tokens.specs.Delivering.{drawn_in, delivered_in, salt_len, drawn_by, management_with, Delivery}
use Rattle.tokens.specs.Encrypting.{with_management, with_parameters}
use Rattle.tokens.proofs.AlgorithmCases.{management_named, management_is_text, encryption_is_text}
use Rattle.tokens.proofs.WrittenHeaders.Joint.{put_onto, IsFree, AreFree, IsJoint, IsHeader, header_onto}

-- ---- entries that are there unless the template has them

-- a value, unless another one is given
abbrev pub unless : Bool → Data → Option Data
unless true value = None
unless false value = Some value

-- The name of an optional entry is unused if it is unused whenever the entry is there.
pub free_unless : (given : Bool) (header : Members) (name : List ℕ) (value : Data) → (given ≡ false → get_member name header ≡ None)
    → IsFree header name (unless given value)
free_unless true header name value free = tt
free_unless false header name value free = free refl

-- The value of an optional entry is JSON if it is JSON whenever the entry is there.
json_unless : (given : Bool) (value : Data) → (given ≡ false → IsJsonIfThere 0 (Some value)) → IsJsonIfThere 0 (unless given value)
json_unless true value json = tt
json_unless false value json = json refl

-- a header has a value under a name, or nothing if no value is given
abbrev pub IsGiven : {X : Type 0} → (Data → Option X) → Bool → Option Data → X → Type 0
IsGiven read true found x = parameter_if_there read found ≡ Ok (Some x)
IsGiven read false found x = found ≡ None

-- If a value is not given, it is not there.
pub not_given : {X : Type 0} (read : Data → Option X) (given : Bool) (found : Option Data) (x : X) → IsGiven read given found x → given ≡ false → found ≡ None
not_given read true found x is h = cc h
not_given read false found x is h = is

-- If no value is read, no value is there.
pub nothing_there : {X : Type 0} (read : Data → Option X) (found : Option Data) → parameter_if_there read found ≡ Ok None → found ≡ None
nothing_there read None h = refl
nothing_there read (Some d) h = by_value (read d) h
  where
    by_value : {Y : Type 0} (o : Option Y) → (ok_or o Header >>= λ y. Ok (Some y)) ≡ Ok None → Some d ≡ None
    by_value None h = cc h
    by_value (Some y) h = cc h

-- A value that may be asked for is given if it is asked for, provided that it is the chosen one.
pub given_if_asked : {A X : Type 0} (read : Data → Option X) (name_of : A → X) (found : Option Data) (asked : Option A) (chosen : A)
    → parameter_if_there read found ≡ Ok (option_map name_of asked)
    → ((a : A) → asked ≡ Some a → a ≡ chosen) → IsGiven read (is_some asked) found (name_of chosen)
given_if_asked read name_of found None chosen is same = nothing_there read found is
given_if_asked read name_of found (Some a) chosen is same = is ∙ ap (λ a. Ok (Some (name_of a))) (same a refl)

-- The value that is given or inserted is the value that is read.
pub there_with : {X : Type 0} (read : Data → Option X) (given : Bool) (value : Data) (x : X) (found : Option Data) → read value ≡ Some x
    → IsGiven read given found x
    → parameter_if_there read (option_or (option_or (unless given value) None) found) ≡ Ok (Some x)
there_with read true value x found reads is = is
there_with read false value x found reads is = rw reads refl

-- ---- the parameters of a delivery

-- a value as a number of iterations
abbrev pub as_count : Data → Option ℕ
as_count value = option_and_then as_u64 (as_number value)

-- the parameters of key management with the name of the algorithm; the name and the number of iterations only if they are not given
abbrev pub parameters : Bool → Bool → List ℕ → KeyManagement → Entries
parameters named counted alg Unknown = (codes "alg", unless named (string alg)) ∷ []
parameters named counted alg Direct = (codes "alg", unless named (string alg)) ∷ []
parameters named counted alg KeyWrap = (codes "alg", unless named (string alg)) ∷ []
parameters named counted alg (Password p2s p2c) =
    (codes "p2s", Some (string (base64url p2s))) ∷ (codes "p2c", unless counted (number (unsigned p2c))) ∷ (codes "alg", unless named (string alg)) ∷ []
parameters named counted alg (GcmKeyWrap iv tag) =
    (codes "tag", Some (string (base64url tag))) ∷ (codes "iv", Some (string (base64url iv))) ∷ (codes "alg", unless named (string alg)) ∷ []

-- the parameters of a delivery
abbrev pub parameters_of : Given → Delivery → Entries
parameters_of given d = parameters given.alg given.p2c (management_name d.alg) d.management

-- A name is inserted unless it is given.
pub with_name_is : (given : Bool) (parameter name : List ℕ) (header : Members)
    → with_name given parameter name header ≡ put_if_there parameter (unless given (string name)) header
with_name_is true parameter name header = refl
with_name_is false parameter name header = refl

-- The number of iterations is inserted unless it is given.
with_p2c_is : (given : Bool) (p2c : ℕ) (header : Members) → with_p2c given p2c header ≡ put_if_there (codes "p2c") (unless given (number (unsigned p2c))) header
with_p2c_is true p2c header = refl
with_p2c_is false p2c header = refl

-- The name of the algorithm is inserted first, and then the parameters of key management.
with_management_is : (named counted : Bool) (alg : List ℕ) (m : KeyManagement) (header : Members)
    → with_management counted m (with_name named (codes "alg") alg header) ≡ put_onto header (parameters named counted alg m)
with_management_is named counted alg Unknown header = with_name_is named (codes "alg") alg header
with_management_is named counted alg Direct header = with_name_is named (codes "alg") alg header
with_management_is named counted alg KeyWrap header = with_name_is named (codes "alg") alg header
with_management_is named counted alg (Password p2s p2c) header =
    ap (put (codes "p2s") (string (base64url p2s)))
    (with_p2c_is counted p2c (with_name named (codes "alg") alg header)
    ∙ ap (put_if_there (codes "p2c") (unless counted (number (unsigned p2c)))) (with_name_is named (codes "alg") alg header))
with_management_is named counted alg (GcmKeyWrap iv tag) header =
    ap (λ ms. put (codes "tag") (string (base64url tag)) (put (codes "iv") (string (base64url iv)) ms)) (with_name_is named (codes "alg") alg header)

-- The parameters of a delivery are inserted.
pub with_parameters_is : (given : Given) (d : Delivery) (header : Members) → with_parameters given d header ≡ put_onto header (parameters_of given d)
with_parameters_is given d header = with_management_is given.alg given.p2c (management_name d.alg) d.management header

-- The header has this number of iterations or none. The number is not 0, and is a number of JSON.
pub record Counted (counted : Bool) (p2c : ℕ) (header : Members) : Type 0 where
  pub there : IsGiven as_count counted (get_member (codes "p2c") header) p2c
  pub some : 1 ≤ p2c
  pub whole : p2c < 2 ^ 64

-- The joint header has the name of the algorithm or none and, for a password, the number of iterations or none. It has none of the
-- parameters that encryption writes.
pub record Awaits (named counted password : Bool) (alg : List ℕ) (p2c : ℕ) (header : Members) : Type 0 where
  pub alg_there : IsGiven as_str named (get_member (codes "alg") header) alg
  pub count : password ≡ true → Counted counted p2c header
  pub no_salt : get_member (codes "p2s") header ≡ None
  pub no_iv : get_member (codes "iv") header ≡ None
  pub no_tag : get_member (codes "tag") header ≡ None

-- This also holds of another header that has the same values under these names.
pub still_awaits : (named counted password : Bool) (alg : List ℕ) (p2c : ℕ) (before after : Members)
    → get_member (codes "alg") after ≡ get_member (codes "alg") before
    → get_member (codes "p2c") after ≡ get_member (codes "p2c") before → get_member (codes "p2s") after ≡ get_member (codes "p2s") before
    → get_member (codes "iv") after ≡ get_member (codes "iv") before → get_member (codes "tag") after ≡ get_member (codes "tag") before
    → Awaits named counted password alg p2c before → Awaits named counted password alg p2c after
still_awaits named counted password alg p2c before after same_alg same_p2c same_p2s same_iv same_tag is = record {
  alg_there = rw same_alg is.alg_there;
  count = λ e. let c = is.count e in record { there = rw same_p2c c.there; some = c.some; whole = c.whole };
  no_salt = same_p2s ∙ is.no_salt;
  no_iv = same_iv ∙ is.no_iv;
  no_tag = same_tag ∙ is.no_tag;
}

-- the joint header has none of the parameters of key management, except possibly the number of iterations
abbrev pub AwaitsManagement : Bool → KeyManagement → Members → Type 0
AwaitsManagement counted Unknown header = Unit {0}
AwaitsManagement counted Direct header = Unit {0}
AwaitsManagement counted KeyWrap header = Unit {0}
AwaitsManagement counted (Password p2s p2c) header = (get_member (codes "p2s") header ≡ None) × IsGiven as_count counted (get_member (codes "p2c") header) p2c
AwaitsManagement counted (GcmKeyWrap iv tag) header = (get_member (codes "tag") header ≡ None) × (get_member (codes "iv") header ≡ None)

-- This holds of the parameters that are drawn for an algorithm.
awaits_in : (named counted : Bool) (m : KeyManagementMode) (name drawn : List ℕ) (p2c : ℕ) (tag : List ℕ) (header : Members)
    → Awaits named counted (is_password m) name p2c header → AwaitsManagement counted (delivered_in m drawn p2c tag) header
awaits_in named counted mode.Direct name drawn p2c tag header is = tt
awaits_in named counted mode.KeyWrap name drawn p2c tag header is = tt
awaits_in named counted mode.Password name drawn p2c tag header is = (is.no_salt, (is.count refl).there)
awaits_in named counted mode.GcmKeyWrap name drawn p2c tag header is = (is.no_tag, is.no_iv)

pub awaits_management : (named counted : Bool) (alg : KeyAlg) (drawn : List ℕ) (p2c : ℕ) (tag : List ℕ) (header : Members)
    → Awaits named counted (is_password_based alg) (management_name alg) p2c header → AwaitsManagement counted (management_with alg drawn p2c tag) header
awaits_management named counted alg drawn p2c tag header is = awaits_in named counted (mode_of alg) (management_name alg) drawn p2c tag header is

-- No name of the parameters is used in the joint header.
pub free_names : (named counted : Bool) (alg : List ℕ) (m : KeyManagement) (header : Members) → IsGiven as_str named (get_member (codes "alg") header) alg
    → AwaitsManagement counted m header
    → AreFree header (parameters named counted alg m)
free_names named counted alg m header alg_there is = by_management m is
  where
    name : IsFree header (codes "alg") (unless named (string alg))
    name = free_unless named header (codes "alg") (string alg) (not_given as_str named (get_member (codes "alg") header) alg alg_there)

    by_management : (m : KeyManagement) → AwaitsManagement counted m header → AreFree header (parameters named counted alg m)
    by_management Unknown is = (name, tt)
    by_management Direct is = (name, tt)
    by_management KeyWrap is = (name, tt)
    by_management (Password p2s p2c) is = (
      is.0,
      (
        free_unless counted header (codes "p2c") (number (unsigned p2c)) (not_given as_count counted (get_member (codes "p2c") header) p2c is.1),
        (name, tt),
      ),
    )
    by_management (GcmKeyWrap iv tag) is = (is.0, (is.1, (name, tt)))

-- the parameters of key management are octets, and those of a password are as they are drawn and read
abbrev pub AreParameters : KeyManagement → Type 0
AreParameters Unknown = Unit {0}
AreParameters Direct = Unit {0}
AreParameters KeyWrap = Unit {0}
AreParameters (Password p2s p2c) = IsOctets p2s × (length p2s ≡ salt_len) × (1 ≤ p2c) × (p2c < 2 ^ 64)
AreParameters (GcmKeyWrap iv tag) = IsOctets iv × IsOctets tag

-- The parameters that are drawn for an algorithm are octets, if the tag is.
parameters_in : (m : KeyManagementMode) (drawn : List ℕ) (p2c : ℕ) (tag : List ℕ) → IsOctets drawn → length drawn ≡ drawn_in m
    → (is_password m ≡ true → (1 ≤ p2c) × (p2c < 2 ^ 64)) → IsOctets tag → AreParameters (delivered_in m drawn p2c tag)
parameters_in mode.Direct drawn p2c tag octets long count tag_octets = tt
parameters_in mode.KeyWrap drawn p2c tag octets long count tag_octets = tt
parameters_in mode.Password drawn p2c tag octets long count tag_octets = let c = count refl in (octets, long, c.0, c.1)
parameters_in mode.GcmKeyWrap drawn p2c tag octets long count tag_octets = (octets, tag_octets)

pub are_parameters : (alg : KeyAlg) (drawn : List ℕ) (p2c : ℕ) (tag : List ℕ) → IsOctets drawn → length drawn ≡ drawn_by alg
    → (is_password_based alg ≡ true → (1 ≤ p2c) × (p2c < 2 ^ 64)) → IsOctets tag → AreParameters (management_with alg drawn p2c tag)
are_parameters alg drawn p2c tag octets long count tag_octets = parameters_in (mode_of alg) drawn p2c tag octets long count tag_octets

-- Parameters that are octets are JSON.
json_parameters : (named counted : Bool) (alg : List ℕ) (m : KeyManagement) → IsUtf8 alg → AreParameters m → AreJsonEntries 0 (parameters named counted alg m)
json_parameters named counted alg m text is = by_management m is
  where
    is_name : (name : List ℕ) → list_all is_url_character name ≡ true → IsUtf8 name
    is_name = name_is_json

    url_json : (octets : List ℕ) → IsOctets octets → IsJsonIfThere 0 (Some (string (base64url octets)))
    url_json octets is = ((url_texts_are_json (base64url octets) (has_url_characters octets is)).0, omega arith)

    name : IsUtf8 (codes "alg") × IsJsonIfThere 0 (unless named (string alg))
    name = (is_name (codes "alg") refl, json_unless named (string alg) (λ e. (text, omega arith)))

    by_management : (m : KeyManagement) → AreParameters m → AreJsonEntries 0 (parameters named counted alg m)
    by_management Unknown is = (name, tt)
    by_management Direct is = (name, tt)
    by_management KeyWrap is = (name, tt)
    by_management (Password p2s p2c) is =
        let count_json = json_unless counted (number (unsigned p2c)) (λ e. (is.3, omega arith)) in
        ((is_name (codes "p2s") refl, url_json p2s is.0), ((is_name (codes "p2c") refl, count_json), (name, tt)))
    by_management (GcmKeyWrap iv tag) is = ((is_name (codes "tag") refl, url_json tag is.1), ((is_name (codes "iv") refl, url_json iv is.0), (name, tt)))

-- The parameters are neither `crit` nor `zip`, and not the name of the content encryption.
no_crit : (named counted : Bool) (alg : List ℕ) (m : KeyManagement) → first_there (codes "crit") (parameters named counted alg m) ≡ None
no_crit named counted alg Unknown = refl
no_crit named counted alg Direct = refl
no_crit named counted alg KeyWrap = refl
no_crit named counted alg (Password p2s p2c) = refl
no_crit named counted alg (GcmKeyWrap iv tag) = refl

no_zip : (named counted : Bool) (alg : List ℕ) (m : KeyManagement) → first_there (codes "zip") (parameters named counted alg m) ≡ None
no_zip named counted alg Unknown = refl
no_zip named counted alg Direct = refl
no_zip named counted alg KeyWrap = refl
no_zip named counted alg (Password p2s p2c) = refl
no_zip named counted alg (GcmKeyWrap iv tag) = refl

no_enc : (named counted : Bool) (alg : List ℕ) (m : KeyManagement) → first_there (codes "enc") (parameters named counted alg m) ≡ None
no_enc named counted alg Unknown = refl
no_enc named counted alg Direct = refl
no_enc named counted alg KeyWrap = refl
no_enc named counted alg (Password p2s p2c) = refl
no_enc named counted alg (GcmKeyWrap iv tag) = refl

-- With the parameters of a delivery, a header may still be written.
pub header_with : (given : Given) (d : Delivery) (header : Members) → IsHeader header → AreParameters d.management → IsHeader (with_parameters given d header)
header_with given d header is parameters =
    let name : List ℕ = management_name d.alg in
    rw with_parameters_is (header_onto header (parameters_of given d) is
    (json_parameters given.alg given.p2c name d.management (management_is_text d.alg) parameters)
    (no_crit given.alg given.p2c name d.management) (no_zip given.alg given.p2c name d.management))

-- With the name of a content encryption, a header may still be written.
pub header_with_enc : (given : Bool) (enc : ContentAlg) (header : Members) → IsHeader header
    → IsHeader (put_onto header ((codes "enc", unless given (string (encryption_name enc))) ∷ []))
header_with_enc given enc header is =
    let value : Data = string (encryption_name enc) in
    header_onto header ((codes "enc", unless given value) ∷ []) is
    ((name_is_json (codes "enc") refl, json_unless given value (λ e. (encryption_is_text enc, omega arith))), tt) refl refl

-- ---- the recipient that is read

-- the header has the parameters of key management
abbrev HasManagement : KeyManagement → Members → Type 0
HasManagement Unknown header = Unit {0}
HasManagement Direct header = Unit {0}
HasManagement KeyWrap header = Unit {0}
HasManagement (Password p2s p2c) header =
    (parameter_if_there as_str (get_member (codes "p2s") header) ≡ Ok (Some (base64url p2s)))
    × (parameter_if_there as_count (get_member (codes "p2c") header) ≡ Ok (Some p2c))
HasManagement (GcmKeyWrap iv tag) header =
    (parameter_if_there as_str (get_member (codes "iv") header) ≡ Ok (Some (base64url iv)))
    × (parameter_if_there as_str (get_member (codes "tag") header) ≡ Ok (Some (base64url tag)))

-- The parameters of a password are read from a header that has them.
read_password : (salt : List ℕ) (p2c : ℕ) (header : Members) → HasManagement (Password salt p2c) header → AreParameters (Password salt p2c)
    → password_management header ≡ Ok (Password salt p2c)
unfolding password_management salt_parameter string_parameter number_parameter
read_password salt p2c header there is =
    let enough : nat_le 8 (length salt) ≡ true = le-leb 8 (length salt) (omega (arith, is.1)) in
    let some : nat_le 1 p2c ≡ true = le-leb 1 p2c is.2 in
    rw (there.0, decodes_exactly.round_trip salt is.0, enough, there.1, some) refl

-- The parameters of a key wrap with AES GCM are read from a header that has them.
read_gcm_key_wrap : (iv tag : List ℕ) (header : Members) → HasManagement (GcmKeyWrap iv tag) header → AreParameters (GcmKeyWrap iv tag)
    → gcm_management header ≡ Ok (GcmKeyWrap iv tag)
unfolding gcm_management octets_parameter string_parameter
read_gcm_key_wrap iv tag header there is = rw (there.0, decodes_exactly.round_trip iv is.0, there.1, decodes_exactly.round_trip tag is.1) refl

-- The parameters that were drawn for an algorithm are read from a header that has them.
read_in : (m : KeyManagementMode) (drawn : List ℕ) (p2c : ℕ) (tag : List ℕ) (header : Members) → HasManagement (delivered_in m drawn p2c tag) header
    → AreParameters (delivered_in m drawn p2c tag) → management_in m header ≡ Ok (delivered_in m drawn p2c tag)
read_in mode.Direct drawn p2c tag header there is = refl
read_in mode.KeyWrap drawn p2c tag header there is = refl
read_in mode.Password drawn p2c tag header there is = read_password drawn p2c header there is
read_in mode.GcmKeyWrap drawn p2c tag header there is = read_gcm_key_wrap drawn tag header there is

read_management : (alg : KeyAlg) (drawn : List ℕ) (p2c : ℕ) (tag : List ℕ) (header : Members)
    → HasManagement (management_with alg drawn p2c tag) header
    → AreParameters (management_with alg drawn p2c tag) → management_by (Some alg) header ≡ Ok (management_with alg drawn p2c tag)
read_management alg drawn p2c tag header there is = read_in (mode_of alg) drawn p2c tag header there is

-- the recipient of a delivery, with this header
abbrev pub recipient : Members → Delivery → ContentAlg → Recipient
recipient own d enc = record {
  header = own;
  encrypted_key = d.encrypted_key;
  alg = management_name d.alg;
  enc = encryption_name enc;
  management = d.management;
}

-- a header has the entries and the members of another header
abbrev HasEntries : Members → Entries → Members → Type 0
HasEntries header es before = (name : List ℕ) → get_member name header ≡ option_or (first_there name es) (get_member name before)

-- A joint header into which the parameters of key management were inserted has them.
management_there : (named counted : Bool) (alg : List ℕ) (m : KeyManagement) (header before : Members)
    → HasEntries header (parameters named counted alg m) before
    → AwaitsManagement counted m before → HasManagement m header
management_there named counted alg Unknown header before members is = tt
management_there named counted alg Direct header before members is = tt
management_there named counted alg KeyWrap header before members is = tt
management_there named counted alg (Password p2s p2c) header before members is = (
  ap (parameter_if_there as_str) (members (codes "p2s")),
  ap (parameter_if_there as_count) (members (codes "p2c"))
      ∙ there_with as_count counted (number (unsigned p2c)) p2c (get_member (codes "p2c") before) refl is.1,
)
management_there named counted alg (GcmKeyWrap iv tag) header before members is =
    (ap (parameter_if_there as_str) (members (codes "iv")), ap (parameter_if_there as_str) (members (codes "tag")))

-- The parameters have the name of the algorithm, unless it is given.
name_found : (named counted : Bool) (alg : List ℕ) (m : KeyManagement)
    → first_there (codes "alg") (parameters named counted alg m) ≡ option_or (unless named (string alg)) None
name_found named counted alg Unknown = refl
name_found named counted alg Direct = refl
name_found named counted alg KeyWrap = refl
name_found named counted alg (Password p2s p2c) = refl
name_found named counted alg (GcmKeyWrap iv tag) = refl

name_there : (named counted : Bool) (alg : List ℕ) (m : KeyManagement) (header before : Members) → HasEntries header (parameters named counted alg m) before
    → IsGiven as_str named (get_member (codes "alg") before) alg → parameter_if_there as_str (get_member (codes "alg") header) ≡ Ok (Some alg)
name_there named counted alg m header before members is =
    ap (parameter_if_there as_str) (members (codes "alg") ∙ ap (λ found. option_or found (get_member (codes "alg") before)) (name_found named counted alg m))
    ∙ there_with as_str named (string alg) alg (get_member (codes "alg") before) refl is

-- The recipient is read if the joint header has the parameters of the delivery.
pub recipient_is_read : (given : Given) (alg : KeyAlg) (drawn : List ℕ) (p2c : ℕ) (tag key : List ℕ) (enc : ContentAlg)
    (p u own before : Members)
    → (let d : Delivery = record { alg = alg; management = management_with alg drawn p2c tag; encrypted_key = key } in
    IsJoint p u own (parameters_of given d) before → Awaits given.alg given.p2c (is_password_based alg) (management_name alg) p2c before
    → parameter_if_there as_str (get_member (codes "enc") before) ≡ Ok (Some (encryption_name enc)) → AreParameters d.management
    → recipient_of management_algs p u (record { header = own; encrypted_key = key }) ≡ Ok (recipient own d enc))
unfolding recipient_of joint_header recipient_by string_there string_parameter
recipient_is_read given alg drawn p2c tag key enc p u own before joint awaits enc_there is =
    let m : KeyManagement = management_with alg drawn p2c tag in
    let header : Members = all_members p u own in
    let alg_read : parameter_if_there as_str (get_member (codes "alg") header) ≡ Ok (Some (management_name alg)) =
    name_there given.alg given.p2c (management_name alg) m header before joint.members awaits.alg_there in
    let enc_read : parameter_if_there as_str (get_member (codes "enc") header) ≡ Ok (Some (encryption_name enc)) =
    ap (parameter_if_there as_str) (joint.members (codes "enc")
    ∙ ap (λ found. option_or found (get_member (codes "enc") before)) (no_enc given.alg given.p2c (management_name alg) m)) ∙ enc_there in
    let read : key_management management_algs (management_name alg) header ≡ Ok m =
    rw management_named (read_management alg drawn p2c tag header
    (management_there given.alg given.p2c (management_name alg) m header before joint.members
    (awaits_management given.alg given.p2c alg drawn p2c tag before awaits)) is) in
    rw (joint.disjoint, alg_read, enc_read, read) refl
