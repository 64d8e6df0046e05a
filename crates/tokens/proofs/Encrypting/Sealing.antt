-- A plaintext that is sealed while it is read, and the ciphertext that is written of it.
use Rattle.std.proofs.Common.{◌≡◌, ℕ, ◌<◌, ◌≤◌, true, List, [], ◌++◌, length, Option, Some, None, Result, Ok, Err, IfOk, refl, sym, ap, ◌∙◌, subst, arith, append_assoc, append-nil, length-append, ⊎_elim, take_all}
use Rattle.std.specs.Option.{IsSomeAnd}
use Rattle.std.proofs.lemmas.Bool.{lt-ltb, cases_lt}
use Rattle.std.proofs.lemmas.Bool.Decides.{Decides-not}
use Rattle.octets.specs.declared.refusal.Refusal.{Refusal}
use Rattle.octets.specs.declared.refusal.Refusal.TheVariants.{Limit}
use Rattle.octets.specs.Base64url.{base64url, whole_groups}
use Rattle.octets.specs.Encoding.{encoding}
use Rattle.octets.specs.Outcomes.{◌>>=◌}
use Rattle.octets.specs.Plan.{Plan}
use Rattle.octets.specs.Code.Streams.{as_it_is, RefusesFrom}
use Rattle.ciphers.specs.Openings.{is_longer}
use Rattle.ciphers.specs.Sealing.{Sealing, IsTooLong}
use Rattle.ciphers.proofs.Lemmas.{longer_decided}
use Rattle.tokens.specs.Encrypting.{sealed_by, within_longest}
use Rattle.tokens.specs.Code.SealedTexts.{sealed_plan}

-- ---- plaintexts that are too long, and plaintexts that are not

-- If a length is too great, so is every greater length.
grown_longer : (n m : ℕ) (longest : Option ℕ) → n ≤ m → IsSomeAnd longest (λ most. most < n) → is_longer m longest ≡ true
grown_longer n m None grown h = absurd h
grown_longer n m (Some most) grown h = lt-ltb most m (omega arith)

-- If a beginning is too long, the whole plaintext is refused.
pub too_long : (s : Sealing) (p whole rest : List ℕ) → IsTooLong s p → whole ≡ p ++ rest → sealed_by s whole ≡ Err Limit
unfolding sealed_by
too_long s p whole rest long is = rw (grown_longer (length p) (length whole) s.longest (omega (arith, ap length is, length-append p rest)) long) refl

-- A plaintext that is not too long is sealed.
pub is_sealed : (s : Sealing) (p : List ℕ) → (IsTooLong s p → ⊥) → sealed_by s p ≡ Ok (s.sealed p)
unfolding sealed_by
is_sealed s p short = rw ((Decides-not _ (longer_decided (length p) s.longest)).1 short) refl

-- The empty plaintext is not too long.
nothing_short : (longest : Option ℕ) → IsSomeAnd longest (λ most. most < 0) → ⊥
nothing_short None long = absurd long
nothing_short (Some most) long = absurd (omega (arith, long))

-- If a plaintext is not too long, each beginning of it is within the longest plaintext.
pub all_within : (longest : Option ℕ) (p q : List ℕ) → (IsSomeAnd longest (λ most. most < length (p ++ q)) → ⊥) → within_longest longest p ≡ p
all_within None p q short = refl
all_within (Some most) p q short =
    let within : length (p ++ q) ≤ most = ⊎_elim (λ long. absurd (short long)) (λ h. h) (cases_lt most (length (p ++ q))) in
    take_all most p (omega (arith, within, length-append p q))

within : (s : Sealing) (p : List ℕ) → (IsTooLong s p → ⊥) → within_longest s.longest p ≡ p
within s p short = all_within s.longest p [] (subst (λ l. IsSomeAnd s.longest (λ most. most < length l) → ⊥) (sym (append-nil p)) short)

-- ---- the fixed part of the ciphertext

-- If a beginning is not too long, it fixes the part of the ciphertext that the plan fixes.
pub fixed_is : (plan : Plan (List ℕ)) (s : Sealing) (p : List ℕ) → (IsTooLong s p → ⊥) → (sealed_plan plan s).fixed p ≡ plan.fixed (s.fixed p)
fixed_is plan s p short = ap (λ l. plan.fixed (s.fixed l)) (within s p short)

-- The next piece adds its text to the fixed part.
pub adds : (plan : Plan (List ℕ)) (s : Sealing) (p piece taken text : List ℕ) → (IsTooLong s p → ⊥) → (IsTooLong s (p ++ piece) → ⊥)
    → s.fixed (p ++ piece) ≡ s.fixed p ++ taken
    → plan.fixed (s.fixed p ++ taken) ≡ plan.fixed (s.fixed p) ++ text → (sealed_plan plan s).fixed (p ++ piece) ≡ (sealed_plan plan s).fixed p ++ text
adds plan s p piece taken text short more fixed written =
    fixed_is plan s (p ++ piece) more ∙ ap plan.fixed fixed ∙ written ∙ ap (λ l. l ++ text) (sym (fixed_is plan s p short))

-- ---- the end of the plaintext

-- The plan writes all of the ciphertext.
pub sealed_whole : (plan : Plan (List ℕ)) (s : Sealing) (p w : List ℕ) → (IsTooLong s p → ⊥) → plan.whole (s.sealed p).ciphertext ≡ Ok w
    → (sealed_plan plan s).whole p ≡ Ok w
sealed_whole plan s p w short whole = ap (λ r. r >>= λ sealed. plan.whole sealed.ciphertext) (is_sealed s p short) ∙ whole

-- The end of the ciphertext is written as base64url in two parts.
pub text_ends : (s : Sealing) (p last text more : List ℕ) → (IsTooLong s p → ⊥) → (s.sealed p).ciphertext ≡ s.fixed p ++ last
    → base64url (whole_groups (s.fixed p ++ last)) ≡ base64url (whole_groups (s.fixed p)) ++ text
    → base64url (s.fixed p ++ last) ≡ base64url (whole_groups (s.fixed p ++ last)) ++ more
    → (sealed_plan encoding s).whole p ≡ Ok ((sealed_plan encoding s).fixed p ++ (text ++ more))
text_ends s p last text more short is fed finished =
    let front : List ℕ = base64url (whole_groups (s.fixed p)) in
    let all : base64url (s.sealed p).ciphertext ≡ front ++ (text ++ more) = ap base64url is ∙ finished ∙ ap (λ l. l ++ more) fed
    ∙ append_assoc front text more in
    sealed_whole encoding s p (base64url (s.sealed p).ciphertext) short refl ∙ ap Ok (all ∙ ap (λ l. l ++ (text ++ more)) (sym (fixed_is encoding s p short)))

-- The end of the ciphertext is written as it is.
pub octets_end : (s : Sealing) (p last : List ℕ) → (IsTooLong s p → ⊥) → (s.sealed p).ciphertext ≡ s.fixed p ++ last
    → (sealed_plan as_it_is s).whole p ≡ Ok ((sealed_plan as_it_is s).fixed p ++ last)
octets_end s p last short is = sealed_whole as_it_is s p (s.sealed p).ciphertext short refl
    ∙ ap Ok (is ∙ ap (λ l. l ++ last) (sym (fixed_is as_it_is s p short)))

-- ---- refusals

-- Every plaintext that begins with too long a beginning is refused.
pub refuses_long : (plan : Plan (List ℕ)) (s : Sealing) (p : List ℕ) → IsTooLong s p → RefusesFrom (sealed_plan plan s) p Limit
refuses_long plan s p long rest octets = ap (λ r. r >>= λ sealed. plan.whole sealed.ciphertext) (too_long s p (p ++ rest) rest long refl)

-- If three facts together imply a fourth, the fourth holds of an answer of which the three hold.
pub if_ok_all : {X : Type 0} {P Q R T : X → Type 0} (r : Result X Refusal) → IfOk r P → IfOk r Q → IfOk r R → ((x : X) → P x → Q x → R x → T x) → IfOk r T
if_ok_all (Ok x) p q r f = f x p q r
if_ok_all (Err e) p q r f = tt

-- If a fact implies another, the other holds of an answer of which the first holds.
pub map_ok : {X : Type 0} {P Q : X → Type 0} (r : Result X Refusal) → IfOk r P → ((x : X) → P x → Q x) → IfOk r Q
map_ok (Ok x) p f = f x p
map_ok (Err e) p f = tt
