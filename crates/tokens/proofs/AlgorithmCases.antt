-- Facts about each algorithm: its name, the lengths of its keys, and the parameters that it reads.
use Rattle.std.proofs.Common.{◌≡◌, ℕ, zero, suc, ◌*◌, ◌<◌, ◌≤◌, ◌||◌, Bool, true, false, not, nat_lt, nat_le, List, [], ◌∷◌, length, slice_index, if◌then◌else◌, Option, Some, None, is_none, IsUtf8, refl, sym, ap, ◌∙◌, arith}
use Rattle.std.proofs.lemmas.Bool.{and_parts, ltb-true, eqb-true, leb-true}
use Rattle.std.proofs.lemmas.Bool.Decides.{Decides-eqb, Decides-and}
use Rattle.std.proofs.lemmas.Slice.Eq.{bytes_eq-Decides}
use Rattle.std.proofs.lemmas.Str.{IsUtf8-from_ascii}
use Rattle.std.specs.List.{find, list_all}
use Rattle.std.specs.Prelude.{◌&&◌}
use Rattle.std.specs.Str.{bytes_eq}
use Rattle.octets.specs.Octets.{IsOctets}
use Rattle.octets.proofs.Lemmas.{IsOctets-nil}
use Rattle.prf.specs.HashFunction.{HashFunction, IsHashFunction}
use Rattle.prf.specs.Code.Sha2Laws.{sha256_is_hash_function, sha384_is_hash_function, sha512_is_hash_function}
use Rattle.ciphers.specs.Algorithms.{KeyFamily, direct, aes_key_wrap, aes_gcm_key_wrap, pbes2, key_family, management_name, encryption_name, management_algs, encryption_algs, management_alg_among, management_alg_of, encryption_alg_of, mode_of, kek_len, is_password, is_password_based, mode_in, kek_len_in}
use Rattle.ciphers.specs.Delivery.{Parameters, agrees_by, way_in, encrypted_by, tag_by, is_delivered_by, key_tag_of, encrypted_key_of}
use Rattle.ciphers.specs.Code.Demands.{IsKeyIn, IsKeyOf, IsCountIn, IsCountOf, IsIvIn, IsIvOf, iterations_in, iteration_count, IsSaltIn, IsSaltOf}
use Rattle.tokens.specs.Code.Trying.{IsSaltFor}
use Rattle.ciphers.specs.declared.content_alg.ContentAlg.{ContentAlg}
use Rattle.ciphers.proofs.Lemmas.{decided}
use Rattle.keys.specs.declared.algorithm.Algorithm.TheVariants.{Encryption}
use Rattle.ciphers.specs.declared.content_alg.ContentAlg.TheVariants.{A128CbcHs256, A192CbcHs384, A256CbcHs512, A128Gcm, A192Gcm, A256Gcm}
use Rattle.ciphers.specs.declared.key_alg.KeyAlg.{KeyAlg}
use Rattle.ciphers.specs.declared.key_alg.KeyAlg.TheVariants.{Dir, A128Kw, A192Kw, A256Kw, Pbes2Hs256A128Kw, Pbes2Hs384A192Kw, Pbes2Hs512A256Kw, A128GcmKw, A192GcmKw, A256GcmKw}
use Rattle.ciphers.specs.declared.key_alg.KeyManagementMode.{KeyManagementMode}
use Rattle.ciphers.specs.declared.key_alg.KeyManagementMode.TheVariants as mode
use Rattle.keys.specs.declared.algorithm.SignatureAlg.{SignatureAlg}
use Rattle.keys.specs.declared.algorithm.SignatureAlg.TheVariants.{Hs256, Hs384, Hs512}
use Rattle.ciphers.specs.Sealing.{cek_len}
use Rattle.keys.specs.Algorithms.{signature_name, signature_algs, signature_alg_of, len_with, key_len, has_len, signature_hash}
use Rattle.keys.specs.Keys.{OctetKey, fits}
use Rattle.objects.specs.KeyManagement.{KeyManagement, Direct, KeyWrap, Password, GcmKeyWrap}
use Rattle.objects.specs.Code.KeyManagementView.{is_management_in, is_management_of}
use Rattle.tokens.specs.Algorithms.{parameters_by}
use Rattle.tokens.specs.Choosing.{is_direct_in, is_direct}
use Rattle.tokens.specs.Decrypting.{iterations_by}
use Rattle.tokens.specs.Delivering.{drawn_in, drawn_by, parameters_with, delivered_in, management_with}

-- ---- names

-- The name of a signature algorithm is looked up as this algorithm.
pub signature_named : (alg : SignatureAlg) → signature_alg_of (signature_name alg) ≡ Some alg
unfolding signature_alg_of
signature_named Hs256 = refl
signature_named Hs384 = refl
signature_named Hs512 = refl

-- The name of a key management algorithm is looked up as this algorithm.
pub management_named : (alg : KeyAlg) → management_alg_of (management_name alg) ≡ Some alg
unfolding management_alg_among
management_named Dir = refl
management_named A128Kw = refl
management_named A192Kw = refl
management_named A256Kw = refl
management_named Pbes2Hs256A128Kw = refl
management_named Pbes2Hs384A192Kw = refl
management_named Pbes2Hs512A256Kw = refl
management_named A128GcmKw = refl
management_named A192GcmKw = refl
management_named A256GcmKw = refl

-- The name of a content encryption algorithm is looked up as this algorithm.
pub encryption_named : (enc : ContentAlg) → encryption_alg_of (encryption_name enc) ≡ Some enc
unfolding encryption_alg_of
encryption_named A128CbcHs256 = refl
encryption_named A192CbcHs384 = refl
encryption_named A256CbcHs512 = refl
encryption_named A128Gcm = refl
encryption_named A192Gcm = refl
encryption_named A256Gcm = refl

-- An element that is found by a name has this name.
found_by_name : {A : Type 0} (name_of : A → List ℕ) (name : List ℕ) (a : A) (algs : List A)
    → find (λ alg. bytes_eq name (name_of alg)) algs ≡ Some a → name ≡ name_of a
found_by_name name_of name a [] h = cc h
found_by_name name_of name a (first ∷ rest) h = by_test (bytes_eq name (name_of first)) refl (found_by_name name_of name a rest) h
  where
    by_test : (b : Bool) → bytes_eq name (name_of first) ≡ b → (find (λ alg. bytes_eq name (name_of alg)) rest ≡ Some a → name ≡ name_of a)
        → (if b then Some first else find (λ alg. bytes_eq name (name_of alg)) rest) ≡ Some a → name ≡ name_of a
    by_test true is later h = let same : first ≡ a = cc h in (bytes_eq-Decides name (name_of first)).0 is ∙ ap name_of same
    by_test false is later h = later h

-- A name that is looked up as a signature algorithm is the name of this algorithm.
pub signature_name_is : (name : List ℕ) (alg : SignatureAlg) → signature_alg_of name ≡ Some alg → name ≡ signature_name alg
unfolding signature_alg_of
signature_name_is name alg h = found_by_name signature_name name alg signature_algs h

-- A name that is looked up as a key management algorithm is the name of this algorithm.
pub management_name_is : (name : List ℕ) (alg : KeyAlg) → management_alg_of name ≡ Some alg → name ≡ management_name alg
unfolding management_alg_among
management_name_is name alg h = found_by_name management_name name alg management_algs h

-- A name that is looked up as a content encryption algorithm is the name of this algorithm.
pub encryption_name_is : (name : List ℕ) (enc : ContentAlg) → encryption_alg_of name ≡ Some enc → name ≡ encryption_name enc
unfolding encryption_alg_of
encryption_name_is name enc h = found_by_name encryption_name name enc encryption_algs h

-- If all algorithms pass a test, each algorithm that is found passes it.
passes : {A : Type 0} (test is : A → Bool) (algs : List A) (a : A) → list_all test algs ≡ true → find is algs ≡ Some a → test a ≡ true
passes test is [] a all found = cc found
passes test is (first ∷ others) a all found =
    let both = and_parts (test first) (list_all test others) all in
    by_test (is first) both.0 (passes test is others a both.1) found
  where
    by_test : (b : Bool) → test first ≡ true → (find is others ≡ Some a → test a ≡ true) → (if b then Some first else find is others) ≡ Some a → test a ≡ true
    by_test true this later found = let same : first ≡ a = cc found in ap test (sym same) ∙ this
    by_test false this later found = later found

of_signature : (test : SignatureAlg → Bool) → list_all test signature_algs ≡ true → (alg : SignatureAlg) → test alg ≡ true
unfolding signature_alg_of
of_signature test all alg = passes test (λ x. bytes_eq (signature_name alg) (signature_name x)) signature_algs alg all (signature_named alg)

of_management : (test : KeyAlg → Bool) → list_all test management_algs ≡ true → (alg : KeyAlg) → test alg ≡ true
unfolding management_alg_among
of_management test all alg = passes test (λ x. bytes_eq (management_name alg) (management_name x)) management_algs alg all (management_named alg)

of_encryption : (test : ContentAlg → Bool) → list_all test encryption_algs ≡ true → (enc : ContentAlg) → test enc ≡ true
unfolding encryption_alg_of
of_encryption test all enc = passes test (λ x. bytes_eq (encryption_name enc) (encryption_name x)) encryption_algs enc all (encryption_named enc)

abbrev is_ascii : List ℕ → Bool
is_ascii text = list_all (λ c. nat_lt c 128) text

-- Text in ASCII is UTF-8.
ascii_is_text : (text : List ℕ) → is_ascii text ≡ true → IsUtf8 text
ascii_is_text text h = IsUtf8-from_ascii text (all_below text h)
  where
    all_below : (cs : List ℕ) → list_all (λ c. nat_lt c 128) cs ≡ true → (i : ℕ) → slice_index cs i < 128
    all_below [] h i = omega arith
    all_below (c ∷ cs) h zero = ltb-true c 128 (and_parts (nat_lt c 128) (list_all (λ c. nat_lt c 128) cs) h).0
    all_below (c ∷ cs) h (suc i) = all_below cs (and_parts (nat_lt c 128) (list_all (λ c. nat_lt c 128) cs) h).1 i

-- The names of the algorithms are UTF-8.
pub signature_is_text : (alg : SignatureAlg) → IsUtf8 (signature_name alg)
signature_is_text alg = ascii_is_text (signature_name alg) (of_signature (λ alg. is_ascii (signature_name alg)) refl alg)

pub management_is_text : (alg : KeyAlg) → IsUtf8 (management_name alg)
management_is_text alg = ascii_is_text (management_name alg) (of_management (λ alg. is_ascii (management_name alg)) refl alg)

pub encryption_is_text : (enc : ContentAlg) → IsUtf8 (encryption_name enc)
encryption_is_text enc = ascii_is_text (encryption_name enc) (of_encryption (λ enc. is_ascii (encryption_name enc)) refl enc)

-- No name of a signature algorithm is the name of a key management algorithm.
pub no_management : (alg : SignatureAlg) → management_alg_of (signature_name alg) ≡ None
unfolding management_alg_among
no_management alg = is_nothing (management_alg_of (signature_name alg)) (of_signature (λ alg. is_none (management_alg_of (signature_name alg))) refl alg)
  where
    is_nothing : {A : Type 0} (o : Option A) → is_none o ≡ true → o ≡ None
    is_nothing None h = refl
    is_nothing (Some a) h = cc h

-- The hash of a signature algorithm is a hash function.
pub signature_hash_law : (alg : SignatureAlg) → IsHashFunction (signature_hash alg)
signature_hash_law Hs256 = sha256_is_hash_function
signature_hash_law Hs384 = sha384_is_hash_function
signature_hash_law Hs512 = sha512_is_hash_function

-- ---- families of key management

-- If something holds in each of the four families, it holds of each algorithm.
by_family : (P : KeyManagementMode → ℕ → KeyFamily → Type 0) → P mode.Direct 0 direct → ((nk : ℕ) → P mode.KeyWrap (4 * nk) (aes_key_wrap nk))
    → ((f : HashFunction) (name : List ℕ) (nk : ℕ) → P mode.Password (4 * nk) (pbes2 f name nk)) → ((nk : ℕ) → P mode.GcmKeyWrap (4 * nk) (aes_gcm_key_wrap nk))
    → (alg : KeyAlg) → P (mode_of alg) (kek_len alg) (key_family alg)
by_family P for_direct for_wrap for_password for_gcm alg = in_family (key_family alg)
  where
    in_family : (k : KeyFamily) → P (mode_in k) (kek_len_in k) k
    in_family direct = for_direct
    in_family (aes_key_wrap nk) = for_wrap nk
    in_family (aes_gcm_key_wrap nk) = for_gcm nk
    in_family (pbes2 f name nk) = for_password f name nk

-- ---- lengths of keys

last : (a b : Bool) → (a && b) ≡ true → b ≡ true
last true b h = h
last false b h = cc h

-- A key that fits an algorithm has a length that the cipher of this algorithm accepts.
pub is_key_of : (alg : KeyAlg) (enc : ContentAlg) (key : OctetKey) → fits key (Encryption alg enc) ≡ true → IsKeyOf alg key.octets
unfolding fits
is_key_of alg enc key h =
    by_family (λ m n k. has_len (len_with m n enc) (length key.octets) ≡ true → IsKeyIn k key.octets)
    (λ h. tt) (λ nk h. eqb-true (length key.octets) (4 * nk) h) (λ f name nk h. tt) (λ nk h. eqb-true (length key.octets) (4 * nk) h)
    alg (last _ (has_len (key_len (Encryption alg enc)) (length key.octets)) h)

-- A key that is used directly and fits has the length of a content encryption key.
pub direct_key_fits : (alg : KeyAlg) (enc : ContentAlg) (key : OctetKey) → is_direct alg ≡ true → fits key (Encryption alg enc) ≡ true
    → length key.octets ≡ cek_len enc
unfolding fits
direct_key_fits alg enc key is h =
    by_family (λ m n k. is_direct_in m ≡ true → has_len (len_with m n enc) (length key.octets) ≡ true → length key.octets ≡ cek_len enc)
    (λ is h. eqb-true (length key.octets) (cek_len enc) h) (λ nk is. cc is) (λ f name nk is. cc is) (λ nk is. cc is)
    alg is (last _ (has_len (key_len (Encryption alg enc)) (length key.octets)) h)

-- A content encryption key has at most 64 octets.
pub cek_size : (enc : ContentAlg) → cek_len enc ≤ 64
cek_size enc = leb-true (cek_len enc) 64 (of_encryption (λ enc. nat_le (cek_len enc) 64) refl enc)

-- ---- the parameters of key management

-- The number of iterations in a header is one that the algorithm accepts.
pub counts : (alg : KeyAlg) (m : KeyManagement) → is_management_of (Some alg) m ≡ true → IsCountOf alg (parameters_by m).p2c
counts alg m =
    by_family (λ mode n k. is_management_in mode m ≡ true → IsCountIn k (parameters_by m).p2c) (λ h. tt) (λ nk h. tt) (λ f name nk. of_password m) (λ nk h. tt) alg
  where
    of_password : (m : KeyManagement) → is_management_in mode.Password m ≡ true → 1 ≤ (parameters_by m).p2c
    of_password (Password p2s p2c) h = leb-true 1 p2c (last (nat_le 8 (length p2s)) (nat_le 1 p2c) h)
    of_password m h = cc h

-- A key that is salted for a recipient has the salt that the algorithm reads.
pub salts : (alg : KeyAlg) (m : KeyManagement) (salt : List ℕ) → is_management_of (Some alg) m ≡ true → IsSaltFor salt m
    → IsSaltOf alg salt (parameters_by m).p2s
salts alg m salt =
    by_family (λ mode n k. is_management_in mode m ≡ true → IsSaltFor salt m → IsSaltIn k salt (parameters_by m).p2s) (λ h s. tt) (λ nk h s. tt)
    (λ f name nk. of_password m) (λ nk h s. tt) alg
  where
    of_password : (m : KeyManagement) → is_management_in mode.Password m ≡ true → IsSaltFor salt m → salt ≡ (parameters_by m).p2s
    of_password (Password p2s p2c) h s = s
    of_password m h s = cc h

-- The number of iterations that are made is the one in the header.
pub iterations_made : (alg : KeyAlg) (m : KeyManagement) → is_management_of (Some alg) m ≡ true
    → iteration_count alg (parameters_by m).p2c ≡ iterations_by m
iterations_made alg m =
    by_family (λ mode n k. is_management_in mode m ≡ true → iterations_in k (parameters_by m).p2c ≡ iterations_by m)
    (of_direct m) (λ nk. of_wrap m) (λ f name nk. of_password m) (λ nk. of_gcm m) alg
  where
    of_direct : (m : KeyManagement) → is_management_in mode.Direct m ≡ true → 0 ≡ iterations_by m
    of_direct Direct h = refl
    of_direct m h = cc

    of_wrap : (m : KeyManagement) → is_management_in mode.KeyWrap m ≡ true → 0 ≡ iterations_by m
    of_wrap KeyWrap h = refl
    of_wrap m h = cc

    of_password : (m : KeyManagement) → is_management_in mode.Password m ≡ true → (parameters_by m).p2c ≡ iterations_by m
    of_password (Password p2s p2c) h = refl
    of_password m h = cc

    of_gcm : (m : KeyManagement) → is_management_in mode.GcmKeyWrap m ≡ true → 0 ≡ iterations_by m
    of_gcm (GcmKeyWrap iv tag) h = refl
    of_gcm m h = cc

-- If a password gets at least one iteration, the algorithm accepts the number of iterations.
pub counts_where_password : (alg : KeyAlg) (p2c : ℕ) → (not (is_password_based alg) || nat_le 1 p2c) ≡ true → IsCountOf alg p2c
counts_where_password alg p2c =
    by_family (λ m n k. (not (is_password m) || nat_le 1 p2c) ≡ true → IsCountIn k p2c) (λ h. tt) (λ nk h. tt) (λ f name nk h. leb-true 1 p2c h) (λ nk h. tt) alg

-- The octets that are drawn for an algorithm are an initialization vector of the right length, if the algorithm reads one.
pub iv_of_drawn : (alg : KeyAlg) (drawn : List ℕ) → length drawn ≡ drawn_by alg → IsIvOf alg drawn
iv_of_drawn alg drawn =
    by_family (λ m n k. length drawn ≡ drawn_in m → IsIvIn k drawn) (λ long. tt) (λ nk long. tt) (λ f name nk long. tt) (λ nk long. long) alg

-- ---- deliveries

module _ (enc : ContentAlg) (key drawn : List ℕ) (p2c : ℕ) (cek : List ℕ) where
  -- The tag of the key is the same with the parameters that are written as with those that are drawn.
  pub tag_alike : (alg : KeyAlg) (tag : List ℕ)
      → key_tag_of alg key (parameters_by (management_with alg drawn p2c tag)) cek ≡ key_tag_of alg key (parameters_with drawn p2c) cek
  unfolding key_tag_of
  tag_alike alg tag =
      by_family (λ m n k. (let p = parameters_by (delivered_in m drawn p2c tag) in tag_by (way_in k key p) p cek)
      ≡ (let p = parameters_with drawn p2c in tag_by (way_in k key p) p cek))
      refl (λ nk. refl) (λ f name nk. refl) (λ nk. refl) alg

  -- An initialization vector that is read is octets, if the drawn ones are.
  pub iv_is_octets : (alg : KeyAlg) (tag : List ℕ) → IsOctets drawn → IsOctets (parameters_by (management_with alg drawn p2c tag)).iv
  iv_is_octets alg tag octets =
      by_family (λ m n k. IsOctets (parameters_by (delivered_in m drawn p2c tag)).iv) IsOctets-nil (λ nk. IsOctets-nil)
      (λ f name nk. IsOctets-nil) (λ nk. octets) alg

  -- the parameters with which the key was encrypted: the drawn octets and the number of iterations
  abbrev given : Parameters
  given = parameters_with drawn p2c

  abbrev written : KeyManagementMode → KeyFamily → Parameters
  written m k = parameters_by (delivered_in m drawn p2c (tag_by (way_in k key given) given cek))

  abbrev IsDeliveredIn : KeyManagementMode → KeyFamily → Type 0
  IsDeliveredIn m k = is_delivered_by (way_in k key (written m k)) enc key (written m k) (encrypted_by (way_in k key given) given cek) cek ≡ true

  delivered_as : (m : KeyManagementMode) (k : KeyFamily) → length cek ≡ cek_len enc
      → encrypted_by (way_in k key (written m k)) (written m k) cek ≡ encrypted_by (way_in k key given) given cek
      → agrees_by (way_in k key (written m k)) key (written m k) cek ≡ true → IsDeliveredIn m k
  delivered_as m k fits same agrees = (decided enc key (written m k) (encrypted_by (way_in k key given) given cek) (way_in k key (written m k)) cek).1
      (fits, (same, agrees))

  pub is_delivered : (alg : KeyAlg) → length cek ≡ cek_len enc → (is_direct alg ≡ true → cek ≡ key) → length drawn ≡ drawn_by alg
      → (let q = parameters_with drawn p2c in
      let p = parameters_by (management_with alg drawn p2c (key_tag_of alg key q cek)) in
      is_delivered_by (way_in (key_family alg) key p) enc key p (encrypted_key_of alg key q cek) cek ≡ true)
  unfolding key_tag_of encrypted_key_of
  is_delivered alg fits =
      by_family (λ m n k. (is_direct_in m ≡ true → cek ≡ key) → length drawn ≡ drawn_in m → IsDeliveredIn m k)
      (λ is long. delivered_as mode.Direct direct fits refl ((bytes_eq-Decides cek key).1 (is refl)))
      (λ nk is long. delivered_as mode.KeyWrap (aes_key_wrap nk) fits refl refl)
      (λ f name nk is long. delivered_as mode.Password (pbes2 f name nk) fits refl refl)
      (λ nk is long.
      let tag : List ℕ = tag_by (way_in (aes_gcm_key_wrap nk) key given) given cek in
      delivered_as mode.GcmKeyWrap (aes_gcm_key_wrap nk) fits refl
      ((Decides-and _ _ (Decides-eqb (length drawn) 12) (bytes_eq-Decides tag tag)).1 (long, refl)))
      alg
