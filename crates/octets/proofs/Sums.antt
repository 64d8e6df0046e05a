-- Octets that are added to others by exclusive or, as far as a loop has come.
use Rattle.std.proofs.Common.{◌≡◌, ℕ, zero, suc, ◌+◌, ◌*◌, ◌<◌, ◌≤◌, List, [], ◌∷◌, ◌++◌, length, take, drop, get_or, slice_index, slice_set, bit_xor, refl, sym, ap, ap₂, ◌∙◌, arith, append_assoc, append-nil}
use Rattle.std.proofs.Math.Seq.{take-add}
use Rattle.std.proofs.lemmas.List.{drop-drop, drop_at, take_at, set_at, get_or_at, take_all, drop_all, take_more, drop_more, length-take-le}
use Rattle.std.proofs.lemmas.List.FromFn.{fill_by_all}
use Rattle.std.proofs.lemmas.Simd.{length-zip2, put_chunk_is, length-chunk}
use Rattle.std.specs.Simd.{first_chunks}
use Rattle.std.specs.Simd.Lanes.{zip2, put_chunk, chunk}
use Rattle.octets.specs.Octets.{xor_octets}

pub zip2-append : {A B C : Type 0} (f : A → B → C) (xs us : List A) (ys vs : List B) → length xs ≡ length ys
    → zip2 f (xs ++ us) (ys ++ vs) ≡ zip2 f xs ys ++ zip2 f us vs
zip2-append f [] us [] vs h = refl
zip2-append f [] us (y ∷ ys) vs h = absurd (omega arith)
zip2-append f (x ∷ xs) us [] vs h = absurd (omega arith)
zip2-append f (x ∷ xs) us (y ∷ ys) vs h = ap (λ l. f x y ∷ l) (zip2-append f xs us ys vs (omega arith))

-- The chunk at an index is the slice at its place.
pub chunk_at : {A : Type 0} (n k i : ℕ) (xs : List A) (d : List A) → i < k → get_or (first_chunks n k xs) i d ≡ chunk (n * i) n xs
chunk_at n zero i xs d h = absurd (omega arith)
chunk_at n (suc k) zero xs d h = let none : n * 0 ≡ 0 = omega arith in sym (ap (λ j. take n (drop j xs)) none)
chunk_at n (suc k) (suc i) xs d h =
    let next : n * suc i ≡ n + n * i = omega arith in
    chunk_at n k i (drop n xs) d (omega arith) ∙ ap (take n) (drop-drop (n * i) n xs) ∙ sym (ap (λ j. take n (drop j xs)) next)

-- the first octets with the others added, and the rest as it was
abbrev pub summed : List ℕ → List ℕ → ℕ → List ℕ
summed b f at = zip2 bit_xor (take at b) (take at f) ++ drop at b

-- One more block is added.
pub sum_block : (into b f : List ℕ) (n at next : ℕ) → length b ≡ length f → next ≡ at + n → next ≤ length b → length into ≡ length b → into ≡ summed b f at
    → put_chunk at into (zip2 bit_xor (chunk at n into) (chunk at n f)) ≡ summed b f next
sum_block into b f n at next same is room long e =
    let done = zip2 bit_xor (take at b) (take at f) in
    let lb : length (take at b) ≡ at = length-take-le at b (omega arith) in
    let lf : length (take at f) ≡ at = length-take-le at f (omega arith) in
    let ld : length done ≡ at = length-zip2 bit_xor (take at b) (take at f) (lb ∙ sym lf) ∙ lb in
    let ys = zip2 bit_xor (chunk at n b) (chunk at n f) in
    let here : drop at into ≡ drop at b = ap (drop at) e ∙ drop_at done (drop at b) at ld in
    let before : take at into ≡ done = ap (take at) e ∙ take_at done (drop at b) at ld in
    let cb : length (chunk at n b) ≡ n = length-chunk at n b (omega arith) in
    let cf : length (chunk at n f) ≡ n = length-chunk at n f (omega arith) in
    let ly : length ys ≡ n = length-zip2 bit_xor (chunk at n b) (chunk at n f) (cb ∙ sym cf) ∙ cb in
    let put = put_chunk_is at into ys (omega arith) in
    let more : zip2 bit_xor (take next b) (take next f) ≡ done ++ ys =
    ap₂ (zip2 bit_xor) (ap (λ k. take k b) is ∙ take-add at n b) (ap (λ k. take k f) is ∙ take-add at n f)
    ∙ zip2-append bit_xor (take at b) (chunk at n b) (take at f) (chunk at n f) (lb ∙ sym lf) in
    let rest : drop (length ys) (drop at into) ≡ drop next b = ap (λ k. drop k (drop at into)) ly ∙ ap (drop n) here ∙ drop-drop n at b
    ∙ ap (λ k. drop k b) (sym is) in
    ap (λ c. put_chunk at into (zip2 bit_xor (take n c) (chunk at n f))) here ∙ put ∙ ap₂ (λ p r. p ++ (ys ++ r)) before rest
    ∙ sym (append_assoc done ys (drop next b)) ∙ sym (ap (λ p. p ++ drop next b) more)

-- One more octet is added.
pub sum_octet : (into b f : List ℕ) (i : ℕ) → length b ≡ length f → i < length b → into ≡ summed b f i
    → slice_set into i (bit_xor (get_or into i 0) (get_or f i 0)) ≡ summed b f (i + 1)
sum_octet into b f i same room e =
    let done = zip2 bit_xor (take i b) (take i f) in
    let lb : length (take i b) ≡ i = length-take-le i b (omega arith) in
    let lf : length (take i f) ≡ i = length-take-le i f (omega arith) in
    let ld : length done ≡ i = length-zip2 bit_xor (take i b) (take i f) (lb ∙ sym lf) ∙ lb in
    let x = get_or b i 0 in
    let y = get_or f i 0 in
    let whole : into ≡ done ++ x ∷ drop (i + 1) b = e ∙ ap (λ l. done ++ l) (drop_more b i 0 room) in
    let read : get_or into i 0 ≡ x = ap (λ l. get_or l i 0) whole ∙ get_or_at done x (drop (i + 1) b) 0 i ld in
    let more : zip2 bit_xor (take (i + 1) b) (take (i + 1) f) ≡ done ++ bit_xor x y ∷ [] =
    ap₂ (zip2 bit_xor) (take_more b i 0 room) (take_more f i 0 (omega arith)) ∙ zip2-append bit_xor (take i b) (x ∷ []) (take i f) (y ∷ []) (lb ∙ sym lf) in
    ap (λ v. slice_set into i (bit_xor v y)) read ∙ ap (λ l. slice_set l i (bit_xor x y)) whole ∙ set_at done x (drop (i + 1) b) (bit_xor x y) i ld
    ∙ sym (ap (λ p. p ++ drop (i + 1) b) more ∙ append_assoc done (bit_xor x y ∷ []) (drop (i + 1) b))

zip2_at : (b f : List ℕ) (k : ℕ) → length b ≡ length f → k < length b → get_or (zip2 bit_xor b f) k 0 ≡ bit_xor (get_or b k 0) (get_or f k 0)
zip2_at [] f k same room = absurd (omega arith)
zip2_at (x ∷ b) [] k same room = absurd (omega arith)
zip2_at (x ∷ b) (y ∷ f) zero same room = refl
zip2_at (x ∷ b) (y ∷ f) (suc k) same room = zip2_at b f k (omega arith) (omega arith)

-- All octets are added.
pub sum_whole : (into b f : List ℕ) (i : ℕ) → length b ≡ length f → length b ≤ i → into ≡ summed b f i → into ≡ xor_octets b f
unfolding xor_octets
sum_whole into b f i same past e =
    let whole : into ≡ zip2 bit_xor b f =
    e ∙ ap₂ (λ p r. p ++ r) (ap₂ (zip2 bit_xor) (take_all i b past) (take_all i f (omega arith))) (drop_all i b past) ∙ append-nil (zip2 bit_xor b f) in
    whole ∙ fill_by_all (λ k. bit_xor (slice_index b k) (slice_index f k)) (zip2 bit_xor b f) (length b) 0 (length-zip2 bit_xor b f same)
    (λ k l. zip2_at b f k same l)
