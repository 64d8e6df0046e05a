-- Keys that sign alike.
use Rattle.std.proofs.Common.{◌≡◌, ℕ, ◌+◌, ◌-◌, ◌<◌, ◌&&◌, not, Bool, List, ◌∷◌, ◌++◌, length, take, drop, get_or, sym, ap, ◌∙◌}
use Rattle.std.proofs.lemmas.List.{drop_more, take_rest}
use Rattle.std.specs.List.{list_any}
use Rattle.std.specs.Str.{bytes_eq}
use Rattle.prf.specs.HashFunction.{HashFunction}
use Rattle.prf.specs.Hmac.{hmac, key_block, xor_each}
use Rattle.keys.specs.Algorithms.{signature_hash}
use Rattle.tokens.specs.Signatures.{signature_of, signing_input}
use Rattle.tokens.specs.Signers.{are_distinct, AlikeKeysSignAlike}

same_hmac : (f : HashFunction) (a b text : List ℕ) → key_block f a ≡ key_block f b → hmac f a text ≡ hmac f b text
unfolding hmac
same_hmac f a b text e = ap (λ block. f.digest (xor_each 0x5c block ++ f.digest (xor_each 0x36 block ++ text))) e

pub alike_keys_sign_alike : AlikeKeysSignAlike
unfolding signature_of
alike_keys_sign_alike alg a b protected payload e = same_hmac (signature_hash alg) a b (signing_input protected payload) e

-- One more block is compared with those that are left, and the test says whether it is among them.
pub one_more : (blocks : List (List ℕ)) (i : ℕ) (block : List ℕ) (test : Bool) → i < length blocks → block ≡ get_or blocks i block
    → test ≡ list_any (bytes_eq block) (take (length blocks - (i + 1)) (drop (i + 1) blocks))
    → are_distinct (drop i blocks) ≡ (not test && are_distinct (drop (i + 1) blocks))
one_more blocks i block test lt is e =
    let rest = drop (i + 1) blocks in
    ap are_distinct (drop_more blocks i block lt ∙ ap (λ b. b ∷ rest) (sym is))
    ∙ ap (λ t. not t && are_distinct rest) (ap (list_any (bytes_eq block)) (sym (take_rest blocks (i + 1))) ∙ sym e)
