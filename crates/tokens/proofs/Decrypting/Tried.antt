-- Pairs that are tried one after another: what they open, and their work.
use Rattle.std.proofs.Common.{◌≡◌, ℕ, zero, suc, ◌+◌, ◌<◌, ◌≤◌, ◌⊎◌, inl, inr, ⊎_elim, Bool, true, false, ◌&&◌, ◌||◌, nat_le, List, [], ◌∷◌, ◌++◌, length, map, take, drop, get_or, set, if◌then◌else◌, is_some, Option, Some, None, option_map, refl, sym, ap, subst, ◌∙◌, cond, arith, length-append, length-take}
use Rattle.std.specs.List.{filter, list_all, list_any}
use Rattle.std.specs.Option.{option_or}
use Rattle.std.specs.Str.{bytes_eq}
use Rattle.std.proofs.lemmas.Bool.{and_parts, and_from, leb-true, le-leb}
use Rattle.std.proofs.lemmas.List.{drop_more, get_or_default, length-map, map-append, take_more, take_more_set}
use Rattle.std.proofs.lemmas.List.Elements.{filter-append}
use Rattle.std.proofs.lemmas.List.Folds.{list_all-append}
use Rattle.std.proofs.lemmas.Slice.Eq.{bytes_eq-Decides}
use Rattle.keys.specs.declared.key.Key.{Key}
use Rattle.ciphers.specs.declared.key_alg.KeyManagementMode.{KeyManagementMode}
use Rattle.ciphers.specs.declared.key_alg.KeyManagementMode.TheVariants as mode
use Rattle.ciphers.specs.Algorithms.{mode_of}
use Rattle.keys.specs.Keys.{OctetKey}
use Rattle.keys.specs.Limits.{limits}
use Rattle.keys.specs.Code.Views.{key_view}
use Rattle.objects.specs.Jwe.{Recipient}
use Rattle.tokens.specs.Algorithms.{Algorithms}
use Rattle.tokens.specs.Decrypting.{Pair, SealedContent, algorithms_of, is_candidate, pairs_with, pairs_by, pairs_of, all_pairs, all_iterations, iterations_of, cek_of, opened_by, first_opened}
use Rattle.tokens.specs.Code.Trying.{AreTried, OpenAlike, WasTried, within_after}
use Rattle.tokens.specs.Code.Views.{work_view}
use Rattle.tokens.specs.declared.decrypt.Work.{Work}
use Rattle.objects.specs.declared.jwe.recipient.Recipient.{Recipient as CodeRecipient}
use Rattle.objects.specs.Code.Views.{recipient_view}
use Rattle.tokens.proofs.Decrypting.Pairs.{sum-append}
use Rattle.tokens.specs.Code.Work.{WorkCounts, no_work, plus, unwraps_in, unwraps_of, with_pair, with_pairs}

-- ---- options

-- If an alternative of two options is None, both options are.
none_or : (a b : Option (List ℕ)) → option_or a b ≡ None → (a ≡ None) × (b ≡ None)
none_or None b h = (refl, h)
none_or (Some x) b h = cc h

or_assoc : (a b c : Option (List ℕ)) → option_or a (option_or b c) ≡ option_or (option_or a b) c
or_assoc None b c = refl
or_assoc (Some x) b c = refl

-- ---- counts of work

abbrev counted : ℕ → ℕ → ℕ → WorkCounts
counted i u o = record { iterations = i; unwraps = u; openings = o }

same_counts : (a b c d e f : ℕ) → a ≡ d → b ≡ e → c ≡ f → counted a b c ≡ counted d e f
same_counts a b c d e f p q r = rw (p, q, r) refl

plus_pair : (w v : WorkCounts) (p : Pair) → with_pair (plus w v) p ≡ plus w (with_pair v p)
plus_pair w v p = same_counts _ _ _ _ _ _ (omega arith) (omega arith) (omega arith)

plus_none : (w : WorkCounts) → plus w no_work ≡ w
plus_none w = same_counts _ _ _ _ _ _ (omega arith) (omega arith) (omega arith)

-- ---- joined lists, and their iterations

abbrev pair : Recipient → Algorithms → OctetKey → Pair
pair r a key = record { recipient = r; algorithms = a; key = key }

-- The pairs of the first keys come first.
pub with_more : (r : Recipient) (a : Algorithms) (xs ys : List OctetKey) → pairs_with r a (xs ++ ys) ≡ pairs_with r a xs ++ pairs_with r a ys
with_more r a xs ys =
    ap (map (pair r a)) (filter-append (is_candidate a) xs ys) ∙ map-append (pair r a) (filter (is_candidate a) xs) (filter (is_candidate a) ys)

-- One key has at most one pair.
pub at_most_one : (r : Recipient) (a : Algorithms) (key : OctetKey) → length (pairs_with r a (key ∷ [])) ≤ 1
at_most_one r a key = by_test (is_candidate a key)
  where
    by_test : (b : Bool) → length (map (pair r a) (cond b (key ∷ []) [])) ≤ 1
    by_test true = omega arith
    by_test false = omega arith

-- What is within the limits is so in parts.
pub within_parts : (n : ℕ) (xs ys : List Pair) → within_after n (xs ++ ys) ≡ true
    → (within_after n xs ≡ true) × (within_after (n + all_iterations xs) ys ≡ true)
within_parts n xs ys h =
    let whole = and_parts (list_all (λ p. nat_le (iterations_of p) limits.greatest_p2c_read) (xs ++ ys))
    (nat_le (n + all_iterations (xs ++ ys)) limits.p2c_sum) h in
    let each = and_parts _ _ (sym (list_all-append (λ p. nat_le (iterations_of p) limits.greatest_p2c_read) xs ys) ∙ whole.0) in
    let sum : n + all_iterations (xs ++ ys) ≤ limits.p2c_sum = leb-true (n + all_iterations (xs ++ ys)) limits.p2c_sum whole.1 in (
      and_from _ _ each.0 (le-leb (n + all_iterations xs) limits.p2c_sum (omega (arith, sum, sum-append xs ys))),
      and_from _ _ each.1 (le-leb ((n + all_iterations xs) + all_iterations ys) limits.p2c_sum (omega (arith, sum, sum-append xs ys))),
    )

pub within_sum : (n : ℕ) (xs : List Pair) → within_after n xs ≡ true → n + all_iterations xs ≤ limits.p2c_sum
within_sum n xs h = leb-true (n + all_iterations xs) limits.p2c_sum
    (and_parts (list_all (λ p. nat_le (iterations_of p) limits.greatest_p2c_read) xs) (nat_le (n + all_iterations xs) limits.p2c_sum) h).1

pub within_alone : (n : ℕ) (xs : List Pair) → within_after n xs ≡ true → within_after 0 xs ≡ true
within_alone n xs h =
    and_from _ _ (and_parts (list_all (λ p. nat_le (iterations_of p) limits.greatest_p2c_read) xs) (nat_le (n + all_iterations xs) limits.p2c_sum) h).0
    (le-leb (0 + all_iterations xs) limits.p2c_sum (omega (arith, within_sum n xs h)))

-- A recipient has at most one pair for each key.
few_filtered : (test : OctetKey → Bool) (keys : List OctetKey) → length (filter test keys) ≤ length keys
few_filtered test [] = omega arith
few_filtered test (key ∷ keys) = by_test (few_filtered test keys) (test key)
  where
    by_test : length (filter test keys) ≤ length keys → (b : Bool) → length (cond b (key ∷ filter test keys) (filter test keys)) ≤ suc (length keys)
    by_test later true = omega (arith, later)
    by_test later false = omega (arith, later)

pub few_pairs : (keys : List OctetKey) (r : Recipient) → length (pairs_of limits.management keys r) ≤ length keys
few_pairs keys r = by_algorithms (algorithms_of limits.management r)
  where
    by_algorithms : (o : Option Algorithms) → length (pairs_by keys r o) ≤ length keys
    by_algorithms None = omega arith
    by_algorithms (Some a) = omega (arith, length-map {B = Pair} (filter (is_candidate a) keys) (pair r a), few_filtered (is_candidate a) keys)

-- The pairs of the first recipient that is left come first.
pub one_recipient_first : (keys : List OctetKey) (rs : List CodeRecipient) (i : ℕ) (r : CodeRecipient) → i < length rs → r ≡ get_or rs i r
    → all_pairs limits.management keys (map recipient_view (drop i rs)) ≡ pairs_of limits.management keys (recipient_view r)
    ++ all_pairs limits.management keys (map recipient_view (drop (i + 1) rs))
one_recipient_first keys rs i r lt is =
    ap (λ l. all_pairs limits.management keys (map recipient_view l)) (drop_more rs i r lt ∙ ap (λ x. x ∷ drop (i + 1) rs) (sym is))

-- ---- the elements of a list with one more at its end

at_end : {X : Type 0} (xs : List X) (d : X) (j : ℕ) (x : X) → j < suc (length xs) → x ≡ get_or (xs ++ d ∷ []) j x
    → ((j < length xs) × (x ≡ get_or xs j x)) ⊎ ((j ≡ length xs) × (x ≡ d))
at_end [] d zero x lt is = inr (refl, is)
at_end [] d (suc j) x lt is = absurd (omega arith)
at_end (y ∷ xs) d zero x lt is = inl (omega arith, is)
at_end (y ∷ xs) d (suc j) x lt is = ⊎_elim (λ l. inl (omega (arith, l.0), l.1)) (λ r. inr (omega (arith, r.0), r.1)) (at_end xs d j x (omega arith) is)

module _ (s : SealedContent) where
  -- ---- joined lists

  pub opened-append : (xs ys : List Pair) → first_opened s (xs ++ ys) ≡ option_or (first_opened s xs) (first_opened s ys)
  opened-append [] ys = refl
  opened-append (x ∷ xs) ys = ap (option_or (opened_by s x)) (opened-append xs ys) ∙ or_assoc (opened_by s x) (first_opened s xs) (first_opened s ys)

  -- If the first pairs open nothing, the others decide.
  pub opened_later : (xs ys : List Pair) → first_opened s xs ≡ None → first_opened s (xs ++ ys) ≡ first_opened s ys
  opened_later xs ys none = opened-append xs ys ∙ ap (λ o. option_or o (first_opened s ys)) none

  -- If the first pairs open something, they decide.
  pub opened_first : (xs ys : List Pair) (p : List ℕ) → first_opened s xs ≡ Some p → first_opened s (xs ++ ys) ≡ Some p
  opened_first xs ys p some = opened-append xs ys ∙ ap (λ o. option_or o (first_opened s ys)) some

  -- If no pairs of two lists open, neither do those of both.
  pub opened_none : (xs ys : List Pair) → first_opened s xs ≡ None → first_opened s ys ≡ None → first_opened s (xs ++ ys) ≡ None
  opened_none xs ys none others = opened_later xs ys none ∙ others

  -- Work that was done before is added.
  pub with_pairs-plus : (w v : WorkCounts) (pairs : List Pair) → with_pairs s (plus w v) pairs ≡ plus w (with_pairs s v pairs)
  with_pairs-plus w v [] = refl
  with_pairs-plus w v (p ∷ pairs) = by_test (with_pairs-plus w (with_pair v p) pairs) (is_some (opened_by s p))
    where
      by_test : with_pairs s (plus w (with_pair v p)) pairs ≡ plus w (with_pairs s (with_pair v p) pairs)
          → (b : Bool) → (if b then with_pair (plus w v) p else with_pairs s (with_pair (plus w v) p) pairs)
          ≡ plus w (if b then with_pair v p else with_pairs s (with_pair v p) pairs)
      by_test later true = plus_pair w v p
      by_test later false = ap (λ x. with_pairs s x pairs) (plus_pair w v p) ∙ later

  pub from_none : (w : WorkCounts) (pairs : List Pair) → with_pairs s w pairs ≡ plus w (with_pairs s no_work pairs)
  from_none w pairs = ap (λ x. with_pairs s x pairs) (sym (plus_none w)) ∙ with_pairs-plus w no_work pairs

  -- If the first pairs open nothing, the work of the others follows.
  pub work_later : (w : WorkCounts) (xs ys : List Pair) → first_opened s xs ≡ None → with_pairs s w (xs ++ ys) ≡ with_pairs s (with_pairs s w xs) ys
  work_later w [] ys none = refl
  work_later w (x ∷ xs) ys none =
      let both = none_or (opened_by s x) (first_opened s xs) none in
      rw (both.0) (work_later (with_pair w x) xs ys both.1)

  -- If the first pairs open something, there is no other work.
  pub work_first : (w : WorkCounts) (xs ys : List Pair) (p : List ℕ) → first_opened s xs ≡ Some p → with_pairs s w (xs ++ ys) ≡ with_pairs s w xs
  work_first w [] ys p some = cc some
  work_first w (x ∷ xs) ys p some = by_first (work_first (with_pair w x) xs ys p) (opened_by s x) some
    where
      by_first : (first_opened s xs ≡ Some p → with_pairs s (with_pair w x) (xs ++ ys) ≡ with_pairs s (with_pair w x) xs) → (o : Option (List ℕ))
          → option_or o (first_opened s xs) ≡ Some p
          → (if is_some o then with_pair w x else with_pairs s (with_pair w x) (xs ++ ys))
          ≡ (if is_some o then with_pair w x else with_pairs s (with_pair w x) xs)
      by_first later None h = later h
      by_first later (Some q) h = refl

  -- ---- how much work it is

  -- The iterations are at most those of all pairs, and exactly those if none opens.
  pub iterations_most : (w : WorkCounts) (pairs : List Pair) → (with_pairs s w pairs).iterations ≤ w.iterations + all_iterations pairs
  iterations_most w [] = omega arith
  iterations_most w (p ∷ pairs) = by_test (iterations_most (with_pair w p) pairs) (is_some (opened_by s p))
    where
      by_test : (with_pairs s (with_pair w p) pairs).iterations ≤ (with_pair w p).iterations + all_iterations pairs
          → (b : Bool) → (if b then with_pair w p else with_pairs s (with_pair w p) pairs).iterations ≤ w.iterations + all_iterations (p ∷ pairs)
      by_test later true = omega arith
      by_test later false = omega (arith, later)

  -- At most one encrypted key is unwrapped for each pair.
  one_unwrap : (m : KeyManagementMode) → unwraps_in m ≤ 1
  one_unwrap mode.Direct = omega arith
  one_unwrap mode.KeyWrap = omega arith
  one_unwrap mode.Password = omega arith
  one_unwrap mode.GcmKeyWrap = omega arith

  pub unwraps_most : (w : WorkCounts) (pairs : List Pair) → (with_pairs s w pairs).unwraps ≤ w.unwraps + length pairs
  unwraps_most w [] = omega arith
  unwraps_most w (p ∷ pairs) = by_test (unwraps_most (with_pair w p) pairs) (one_unwrap (mode_of p.algorithms.management)) (is_some (opened_by s p))
    where
      by_test : (with_pairs s (with_pair w p) pairs).unwraps ≤ (with_pair w p).unwraps + length pairs → unwraps_of p.algorithms.management ≤ 1
          → (b : Bool) → (if b then with_pair w p else with_pairs s (with_pair w p) pairs).unwraps ≤ w.unwraps + length (p ∷ pairs)
      by_test later one true = omega (arith, one)
      by_test later one false = omega (arith, one, later)

  -- At most one content is opened or tried for each pair.
  one_opening : (b : Bool) → (if b then 1 else 0) ≤ 1
  one_opening true = omega arith
  one_opening false = omega arith

  pub openings_most : (w : WorkCounts) (pairs : List Pair) → (with_pairs s w pairs).openings ≤ w.openings + length pairs
  openings_most w [] = omega arith
  openings_most w (p ∷ pairs) = by_test (openings_most (with_pair w p) pairs) (one_opening (is_some (cek_of p))) (is_some (opened_by s p))
    where
      by_test : (with_pairs s (with_pair w p) pairs).openings ≤ (with_pair w p).openings + length pairs → (if is_some (cek_of p) then 1 else 0) ≤ 1
          → (b : Bool) → (if b then with_pair w p else with_pairs s (with_pair w p) pairs).openings ≤ w.openings + length (p ∷ pairs)
      by_test later one true = omega (arith, one)
      by_test later one false = omega (arith, one, later)

  pub iterations_all : (w : WorkCounts) (pairs : List Pair) → first_opened s pairs ≡ None
      → (with_pairs s w pairs).iterations ≡ w.iterations + all_iterations pairs
  iterations_all w [] none = omega arith
  iterations_all w (p ∷ pairs) none =
      let both = none_or (opened_by s p) (first_opened s pairs) none in
      rw (both.0) (omega (arith, iterations_all (with_pair w p) pairs both.1))

  -- ---- keys with the same octets

  same_key : (r : Recipient) (a : Algorithms) (one other : OctetKey) → one.octets ≡ other.octets → opened_by s (pair r a one) ≡ opened_by s (pair r a other)
  unfolding opened_by cek_of
  same_key r a one other e = rw e refl

  abbrev candidates : Algorithms → List Key → List OctetKey
  candidates a keys = filter (is_candidate a) (map key_view keys)

  abbrev any_alike : Algorithms → OctetKey → List Key → Bool
  any_alike a key keys = list_any (λ k. bytes_eq (key_view k).octets key.octets && is_candidate a (key_view k)) keys

  -- If the pairs of earlier keys open nothing, neither does that of a key with the octets of one of these.
  pub tried_before : (r : Recipient) (a : Algorithms) (key : OctetKey) (before : List Key) → any_alike a key before ≡ true
      → first_opened s (pairs_with r a (map key_view before)) ≡ None → opened_by s (pair r a key) ≡ None
  tried_before r a key [] any none = cc any
  tried_before r a key (k ∷ before) any none =
      by_tests (tried_before r a key before) (bytes_eq (key_view k).octets key.octets) (is_candidate a (key_view k)) refl any none
    where
      by_tests : (any_alike a key before ≡ true → first_opened s (map (pair r a) (candidates a before)) ≡ None → opened_by s (pair r a key) ≡ None)
          → (same fits : Bool) → bytes_eq (key_view k).octets key.octets ≡ same → ((same && fits) || any_alike a key before) ≡ true
          → first_opened s (map (pair r a) (cond fits (key_view k ∷ candidates a before) (candidates a before))) ≡ None → opened_by s (pair r a key) ≡ None
      by_tests later true true is any none =
          same_key r a key (key_view k) (sym ((bytes_eq-Decides (key_view k).octets key.octets).0 is)) ∙ (none_or _ _ none).0
      by_tests later true false is any none = later any none
      by_tests later false true is any none = later any (none_or _ _ none).1
      by_tests later false false is any none = later any none

  -- ---- recipients that open alike

  cek_alike : (a b : Recipient) (al : Algorithms) (key : OctetKey) → OpenAlike a b → cek_of (pair a al key) ≡ cek_of (pair b al key)
  unfolding cek_of
  cek_alike a b al key e = rw (e.management, e.encrypted_key) refl

  opened_alike : (a b : Recipient) (al : Algorithms) (key : OctetKey) → OpenAlike a b → opened_by s (pair a al key) ≡ opened_by s (pair b al key)
  unfolding opened_by
  opened_alike a b al key e = rw (cek_alike a b al key e) refl

  work_alike : (a b : Recipient) (al : Algorithms) (key : OctetKey) (w : WorkCounts) → OpenAlike a b → with_pair w (pair a al key) ≡ with_pair w (pair b al key)
  work_alike a b al key w e = rw (cek_alike a b al key e, e.management) refl

  all_opened_alike : (a b : Recipient) (al : Algorithms) (keys : List OctetKey) → OpenAlike a b
      → first_opened s (map (pair a al) keys) ≡ first_opened s (map (pair b al) keys)
  all_opened_alike a b al [] e = refl
  all_opened_alike a b al (key ∷ keys) e = rw (opened_alike a b al key e, all_opened_alike a b al keys e) refl

  all_work_alike : (a b : Recipient) (al : Algorithms) (keys : List OctetKey) (w : WorkCounts) → OpenAlike a b
      → with_pairs s w (map (pair a al) keys) ≡ with_pairs s w (map (pair b al) keys)
  all_work_alike a b al [] w e = refl
  all_work_alike a b al (key ∷ keys) w e =
      rw (opened_alike a b al key e, work_alike a b al key w e, all_work_alike a b al keys (with_pair w (pair b al key)) e) refl

  opened_by_algorithms : (a b : Recipient) (keys : List OctetKey) (al : Option Algorithms) → OpenAlike a b
      → first_opened s (pairs_by keys a al) ≡ first_opened s (pairs_by keys b al)
  opened_by_algorithms a b keys None e = refl
  opened_by_algorithms a b keys (Some al) e = all_opened_alike a b al (filter (is_candidate al) keys) e

  work_by_algorithms : (a b : Recipient) (keys : List OctetKey) (w : WorkCounts) (al : Option Algorithms) → OpenAlike a b
      → with_pairs s w (pairs_by keys a al) ≡ with_pairs s w (pairs_by keys b al)
  work_by_algorithms a b keys w None e = refl
  work_by_algorithms a b keys w (Some al) e = all_work_alike a b al (filter (is_candidate al) keys) w e

  -- The pairs of recipients that open alike open the same, by the same work.
  pub same_opened : (keys : List OctetKey) (a b : Recipient) → OpenAlike a b
      → first_opened s (pairs_of limits.management keys a) ≡ first_opened s (pairs_of limits.management keys b)
  same_opened keys a b e = opened_by_algorithms a b keys (algorithms_of limits.management a) e ∙ ap (λ al. first_opened s (pairs_by keys b al)) e.algorithms

  pub same_work : (keys : List OctetKey) (a b : Recipient) (w : WorkCounts) → OpenAlike a b
      → with_pairs s w (pairs_of limits.management keys a) ≡ with_pairs s w (pairs_of limits.management keys b)
  same_work keys a b w e = work_by_algorithms a b keys w (algorithms_of limits.management a) e ∙ ap (λ al. with_pairs s w (pairs_by keys b al)) e.algorithms

  -- ---- one more recipient that opens nothing

  both_at : (keys : List OctetKey) (works : List Work) (recipients : List CodeRecipient) (done : Work) (r : CodeRecipient) → length works ≡ length recipients
      → AreTried s keys works recipients → WasTried s keys (work_view done) (recipient_view r) → AreTried s keys (works ++ done ∷ []) (recipients ++ r ∷ [])
  both_at keys works recipients done r as_many tried now j w q lt wis qis =
      let long : j < suc (length recipients) = omega (arith, lt, length-append recipients (r ∷ [])) in
      ⊎_elim
      (λ l. ⊎_elim (λ m. tried j w q l.0 m.1 l.1) (λ m. absurd (omega (arith, l.0, m.0, as_many))) (at_end works done j w (omega (arith, long, as_many)) wis))
      (λ l. ⊎_elim (λ m. absurd (omega (arith, l.0, m.0, as_many))) (λ m. rw (m.1, l.1) now) (at_end works done j w (omega (arith, long, as_many)) wis))
      (at_end recipients r j q long qis)

  pub tried_more : (keys : List OctetKey) (works : List Work) (recipients : List CodeRecipient) (i : ℕ) (done : Work) (r : CodeRecipient)
      → i < length recipients → i < length works
      → r ≡ get_or recipients i r → AreTried s keys (take i works) (take i recipients) → WasTried s keys (work_view done) (recipient_view r)
      → AreTried s keys (take (i + 1) (set works i done)) (take (i + 1) recipients)
  tried_more keys works recipients i done r lt room is tried now =
      let more : take (i + 1) recipients ≡ take i recipients ++ r ∷ [] = take_more recipients i r lt ∙ ap (λ x. take i recipients ++ x ∷ []) (sym is) in
      subst (λ l. AreTried s keys l (take (i + 1) recipients)) (sym (take_more_set works i done room))
      (subst (λ l. AreTried s keys (take i works ++ done ∷ []) l) (sym more)
      (both_at keys (take i works) (take i recipients) done r (omega (arith, length-take i works, length-take i recipients)) tried now))

  -- A recipient that opens the same as an earlier one opens nothing, by the work of this one.
  pub repeated : (keys : List OctetKey) (works : List Work) (recipients : List CodeRecipient) (j : ℕ) (d : Work) (r : CodeRecipient) → j < length recipients
      → length works ≡ length recipients
      → AreTried s keys works recipients → OpenAlike (recipient_view (get_or recipients j r)) (recipient_view r)
      → WasTried s keys (work_view (get_or works j d)) (recipient_view r)
  repeated keys works recipients j d r lt as_many tried alike =
      let q = get_or recipients j r in
      let w = get_or works j d in
      let was = tried j w q lt (get_or_default works j d w (omega (arith, lt, as_many))) (get_or_default recipients j r q lt) in
      record {
        none = sym (same_opened keys (recipient_view q) (recipient_view r) alike) ∙ was.none;
        counted = was.counted ∙ same_work keys (recipient_view q) (recipient_view r) no_work alike;
      }

  -- ---- pairs that decide

  -- If the first pairs that are left open something, they decide.
  pub decided_now : (here rest left all : List Pair) (f : ℕ → List ℕ) (r : Option ℕ) → is_some r ≡ true
      → option_map f r ≡ first_opened s here → left ≡ here ++ rest
      → first_opened s left ≡ first_opened s all → option_map f r ≡ first_opened s all
  decided_now here rest left all f None some is split whole = cc some
  decided_now here rest left all f (Some n) some is split whole = sym (opened_first here rest (f n) (sym is)) ∙ ap (first_opened s) (sym split) ∙ whole

  pub work_now : (here rest left : List Pair) (w whole : WorkCounts) (f : ℕ → List ℕ) (r : Option ℕ) → is_some r ≡ true
      → option_map f r ≡ first_opened s here → left ≡ here ++ rest
      → with_pairs s w left ≡ whole → plus w (with_pairs s no_work here) ≡ whole
  work_now here rest left w whole f None some is split all = cc some
  work_now here rest left w whole f (Some n) some is split all =
      sym (from_none w here) ∙ sym (work_first w here rest (f n) (sym is)) ∙ ap (with_pairs s w) (sym split) ∙ all

  -- If they open nothing, the others decide.
  pub undecided : (here : List Pair) (f : ℕ → List ℕ) (r : Option ℕ) → is_some r ≡ false → option_map f r ≡ first_opened s here → first_opened s here ≡ None
  undecided here f None some is = sym is
  undecided here f (Some n) some is = cc some
