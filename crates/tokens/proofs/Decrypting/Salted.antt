-- The keys of a set, salted one after another.
use Rattle.std.proofs.Common.{◌≡◌, ℕ, zero, suc, ◌+◌, ◌<◌, List, [], ◌∷◌, ◌++◌, length, map, take, drop, get_or, set, refl, sym, ap, ◌∙◌, arith}
use Rattle.std.proofs.lemmas.List.{map-append, take_more_set, take_more, get_or-drop, set-get_or}
use Rattle.ciphers.specs.Code.Salted.{Salted}
use Rattle.keys.specs.declared.key.Key.{Key}
use Rattle.keys.specs.Keys.{OctetKey}
use Rattle.keys.specs.Code.Views.{key_view}
use Rattle.tokens.specs.Code.Trying.{salted_by, salted_with}

-- Keys with a salt that get another salt are the keys with this salt.
salted_twice : (p2s old : List ℕ) (keys : List OctetKey) → map (salted_with p2s) (map (salted_by old) keys) ≡ map (salted_by p2s) keys
salted_twice p2s old [] = refl
salted_twice p2s old (key ∷ keys) = ap (λ rest. salted_by p2s key ∷ rest) (salted_twice p2s old keys)

pub salted_again : (p2s old : List ℕ) (keys : List OctetKey) (before now : List Salted) → before ≡ map (salted_by old) keys → now ≡ map (salted_with p2s) before
    → now ≡ map (salted_by p2s) keys
salted_again p2s old keys before now is salted = salted ∙ ap (map (salted_with p2s)) is ∙ salted_twice p2s old keys

at_front : (xs : List Salted) (i : ℕ) (x : Salted) → get_or (drop i xs) 0 x ≡ get_or xs i x
at_front xs i x =
    let e : i + 0 ≡ i = omega arith in
    get_or-drop i xs 0 x ∙ ap (λ n. get_or xs n x) e

-- One more key is salted.
pub one_more : (f : Salted → Salted) (xs ys : List Salted) (i : ℕ) (x y : Salted) → i < length xs → length xs ≡ length ys
    → take i xs ≡ map f (take i ys) → drop i xs ≡ drop i ys → x ≡ get_or xs i x → y ≡ f x → take (i + 1) (set xs i y) ≡ map f (take (i + 1) ys)
one_more f xs ys i x y lt long front back here is =
    let there : get_or ys i x ≡ x = sym (at_front ys i x) ∙ ap (λ l. get_or l 0 x) (sym back) ∙ at_front xs i x ∙ sym here in
    take_more_set xs i y lt ∙ ap (λ l. l ++ y ∷ []) front ∙ ap (λ z. map f (take i ys) ++ z ∷ []) (is ∙ ap f (sym there))
    ∙ sym (map-append f (take i ys) (get_or ys i x ∷ [])) ∙ ap (map f) (sym (take_more ys i x (omega (arith, long))))

-- The salted key at an index is the key at this index, salted.
seen_at : (p2s : List ℕ) (keys : List Key) (i : ℕ) (x : Salted) (key : Key) → i < length keys
    → get_or (map (salted_by p2s) (map key_view keys)) i x ≡ salted_by p2s (key_view (get_or keys i key))
seen_at p2s [] i x key lt = absurd (omega arith)
seen_at p2s (k ∷ keys) zero x key lt = refl
seen_at p2s (k ∷ keys) (suc i) x key lt = seen_at p2s keys i x key (omega arith)

pub salted_at : (p2s : List ℕ) (keys : List Key) (items : List Salted) (i : ℕ) (x : Salted) (key : Key) → i < length keys
    → items ≡ map (salted_by p2s) (map key_view keys)
    → x ≡ get_or items i x → key ≡ get_or keys i key → x ≡ salted_by p2s (key_view key)
salted_at p2s keys items i x key lt are here is =
    here ∙ ap (λ l. get_or l i x) are ∙ seen_at p2s keys i x key lt ∙ ap (λ k. salted_by p2s (key_view k)) (sym is)

-- A key that is used and stays as it is leaves the list as it was.
pub stays : (items : List Salted) (i : ℕ) (x now : Salted) → x ≡ get_or items i x → now ≡ x → set items i now ≡ items
stays items i x now here same = ap (set items i) (same ∙ here) ∙ set-get_or items i x
