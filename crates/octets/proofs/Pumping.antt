-- A content that is pumped through a transform.
use Rattle.std.proofs.Common.{◌≡◌, ℕ, ◌+◌, ◌-◌, ◌≤◌, drop, List, [], ◌++◌, length, take, Bool, true, false, Result, Ok, Err, IsTrue, refl, sym, ap, ◌∙◌, subst, arith, append_assoc, append-nil, length-append, length-take}
use Rattle.std.proofs.Math.Seq.{drop-length}
use Rattle.std.proofs.lemmas.List.{take-append-drop}
use Rattle.std.specs.Result.{result_unwrap_or}
use Rattle.octets.specs.declared.refusal.Refusal.{Refusal}
use Rattle.octets.specs.Devices.{appended, AppendsPrefixOf, IsPossibleInput}
use Rattle.octets.specs.Octets.{IsOctets}
use Rattle.octets.specs.Outcomes.{◌>>=◌, is_external, GivesUnlessExternal, AgreesUnlessExternal}
use Rattle.octets.specs.Plan.{Plan, Begins, Grows, beginning_of}
use Rattle.octets.specs.Pumps.{most_behind, KeepsUp}
use Rattle.octets.specs.Code.Streams.{behind, RefusesFrom, Extends}
use Rattle.octets.proofs.Decoded.{IsOctets-append, IsOctets-nil}
use Rattle.octets.proofs.Prefixes.{AppendsPrefixOf-all, AppendsPrefixOf-kept}
use Rattle.octets.proofs.Streaming.{Due, Last, may_stand, read_more}

-- ---- plans after a text

-- What begins a list still begins it with the same list in front of both.
pub begins_behind : (before x y : List ℕ) → Begins x y → Begins (before ++ x) (before ++ y)
begins_behind before x y b = record { rest = b.rest; continues = ap (λ l. before ++ l) b.continues ∙ sym (append_assoc before x b.rest) }

pub behind_grows : (before : List ℕ) (plan : Plan (List ℕ)) → Grows plan → Grows (behind before plan)
behind_grows before plan g = record {
  more = λ p q. begins_behind before (plan.fixed p) (plan.fixed (p ++ q)) (g.more p q);
  whole = λ p q w octets e. by_answer p q w octets (plan.whole (p ++ q)) refl e;
}
  where
    by_answer : (p q w : List ℕ) → IsOctets (p ++ q) → (a : Result (List ℕ) Refusal) → plan.whole (p ++ q) ≡ a → (a >>= λ t. Ok (before ++ t)) ≡ Ok w
        → Begins (before ++ plan.fixed p) w
    by_answer p q w octets (Ok t) is e =
        let same : before ++ t ≡ w = cc e in
        subst (Begins (before ++ plan.fixed p)) same (begins_behind before (plan.fixed p) t (g.whole p q t octets is))
    by_answer p q w octets (Err r) is e = cc e

pub behind_adds : (before : List ℕ) (plan : Plan (List ℕ)) (p q text : List ℕ) → plan.fixed (p ++ q) ≡ plan.fixed p ++ text
    → (behind before plan).fixed (p ++ q) ≡ (behind before plan).fixed p ++ text
behind_adds before plan p q text h = ap (λ l. before ++ l) h ∙ sym (append_assoc before (plan.fixed p) text)

pub behind_ends : (before : List ℕ) (plan : Plan (List ℕ)) (p text : List ℕ) → plan.whole p ≡ Ok (plan.fixed p ++ text)
    → (behind before plan).whole p ≡ Ok ((behind before plan).fixed p ++ text)
behind_ends before plan p text h = ap (λ a. a >>= λ t. Ok (before ++ t)) h ∙ ap Ok (sym (append_assoc before (plan.fixed p) text))

pub behind_refuses : (before : List ℕ) (plan : Plan (List ℕ)) (p : List ℕ) (e : Refusal) → plan.whole p ≡ Err e → (behind before plan).whole p ≡ Err e
behind_refuses before plan p e h = ap (λ a. a >>= λ t. Ok (before ++ t)) h

pub behind_refused : (before : List ℕ) (plan : Plan (List ℕ)) (content : List ℕ) (e : Refusal) → (behind before plan).whole content ≡ Err e
    → plan.whole content ≡ Err e
behind_refused before plan content e h = by_answer (plan.whole content) refl
  where
    by_answer : (a : Result (List ℕ) Refusal) → plan.whole content ≡ a → a ≡ Err e
    by_answer (Ok text) is = let never : Ok (before ++ text) ≡ Err e = ap (λ a. a >>= λ text. Ok (before ++ text)) (sym is) ∙ h in cc never
    by_answer (Err r) is = ap (λ a. a >>= λ text. Ok (before ++ text)) (sym is) ∙ h

-- A plan after the empty text is the plan itself.
pub behind_nothing : (plan : Plan (List ℕ)) (content : List ℕ) → (behind [] plan).whole content ≡ plan.whole content
behind_nothing plan content = by_answer (plan.whole content)
  where
    by_answer : (a : Result (List ℕ) Refusal) → (a >>= λ text. Ok ([] ++ text)) ≡ a
    by_answer (Ok text) = refl
    by_answer (Err r) = refl

pub beginning_behind_nothing : (plan : Plan (List ℕ)) (p : List ℕ) (ended : Bool)
    → beginning_of (behind [] plan) (record { octets = p; ended = ended }) ≡ beginning_of plan (record { octets = p; ended = ended })
beginning_behind_nothing plan p false = refl
beginning_behind_nothing plan p true = ap (λ a. result_unwrap_or a (plan.fixed p)) (behind_nothing plan p)

-- ---- the octets read

pub extends_itself : (l : List ℕ) → Extends l l
extends_itself l = sym (append-nil l) ∙ ap (λ x. l ++ x) (sym (drop-length l))

pub extended_by : (first read now piece : List ℕ) → Extends first read → now ≡ read ++ piece → Extends first now
extended_by first read now piece extends more =
    more ∙ ap (λ l. l ++ piece) extends ∙ append_assoc first (appended first read) piece
    ∙ ap (λ l. first ++ l) (sym (read_more first read now piece extends more))

pub octets_with : (first read now piece : List ℕ) → Extends first read → IsOctets (appended first read) → now ≡ read ++ piece → IsOctets piece
    → IsOctets (appended first now)
octets_with first read now piece extends octets more is =
    subst IsOctets (sym (read_more first read now piece extends more)) (IsOctets-append (appended first read) piece octets is)

pub octets_kept : (first read now : List ℕ) → IsOctets (appended first read) → now ≡ read → IsOctets (appended first now)
octets_kept first read now octets same = subst (λ l. IsOctets (appended first l)) (sym same) octets

pub something_read : (n : ℕ) (buf p l : List ℕ) → (n ≡ 0 → ⊥) → n ≤ length buf → l ≡ p ++ take n buf → l ≡ [] → ⊥
something_read n buf p l some room is none = some (omega (arith, room, ap length is, ap length none, length-append p (take n buf), length-take n buf))

-- ---- the text that is due

-- At the start, the text before the plan is due, if the plan fixes nothing yet.
pub first_due : (before : List ℕ) (plan : Plan (List ℕ)) (read written : List ℕ) → plan.fixed [] ≡ []
    → Due (behind before plan) read read written written before
first_due before plan read written is =
    let none : appended read read ≡ [] = drop-length read in record {
      extends = sym (append-nil read) ∙ ap (λ l. read ++ l) (sym none);
      octets = subst IsOctets (sym none) IsOctets-nil;
      grown = omega arith;
      due = ap (λ l. written ++ l) (sym (ap (λ l. before ++ l) (ap plan.fixed none ∙ is) ∙ append-nil before));
    }

-- If nothing more was read, the same text is due.
pub due_read : (plan : Plan (List ℕ)) (first read now old_written written text : List ℕ) → Due plan first read old_written written text → now ≡ read
    → Due plan first now old_written written text
due_read plan first read now old_written written text d same = subst (λ l. Due plan first l old_written written text) (sym same) d

-- If a piece was read, the text that it adds is also due.
pub due_more : (plan : Plan (List ℕ)) (first read now old_written written piece front text : List ℕ) → Due plan first read old_written written front
    → now ≡ read ++ piece → IsOctets piece
    → plan.fixed (appended first read ++ piece) ≡ plan.fixed (appended first read) ++ text → Due plan first now old_written written (front ++ text)
due_more plan first read now old_written written piece front text d more octets adds =
    let p = appended first read in
    let same : appended first now ≡ p ++ piece = read_more first read now piece d.extends more in record {
      extends = extended_by first read now piece d.extends more;
      octets = subst IsOctets (sym same) (IsOctets-append p piece d.octets octets);
      grown = d.grown;
      due = sym (append_assoc written front text) ∙ ap (λ l. l ++ text) d.due ∙ append_assoc old_written (plan.fixed p) text
          ∙ ap (λ l. old_written ++ l) (sym adds ∙ ap plan.fixed (sym same));
    }

-- If a part of the text was written, the rest is due.
pub due_rest : (plan : Plan (List ℕ)) (first read old_written written front text now : List ℕ) → Due plan first read old_written written (front ++ text)
    → now ≡ written ++ front
    → Due plan first read old_written now text
due_rest plan first read old_written written front text now d e = record {
  extends = d.extends;
  octets = d.octets;
  grown = omega (arith, d.grown, ap length e, length-append written front);
  due = ap (λ l. l ++ text) e ∙ append_assoc written front text ∙ d.due;
}

-- If the transform refuses a piece, the output holds a beginning of what may be written.
pub refused_may_stand : (plan : Plan (List ℕ)) (grows : Grows plan) (first read now old_written written piece text : List ℕ) (ended : Bool)
    → Due plan first read old_written written text → now ≡ read ++ piece → IsOctets piece
    → AppendsPrefixOf (beginning_of plan (record { octets = appended first now; ended = ended })) old_written written
refused_may_stand plan grows first read now old_written written piece text ended d more octets =
    let b = grows.more (appended first read) piece in
    may_stand plan grows first now old_written written (text ++ b.rest) written ended
    (due_more plan first read now old_written written piece text b.rest d more octets b.continues) (AppendsPrefixOf-kept (text ++ b.rest) written)

-- ---- the end was found

pub last_due : (plan : Plan (List ℕ)) (first read old_written written front text : List ℕ) → Due plan first read old_written written front
    → plan.whole (appended first read) ≡ Ok (plan.fixed (appended first read) ++ text) → Last plan first read old_written written (front ++ text)
last_due plan first read old_written written front text d e = record {
  answer = plan.fixed (appended first read) ++ text;
  grown = d.grown;
  is = e;
  due = sym (append_assoc written front text) ∙ ap (λ l. l ++ text) d.due ∙ append_assoc old_written (plan.fixed (appended first read)) text;
}

pub last_rest : (plan : Plan (List ℕ)) (first read old_written written front text now : List ℕ) → Last plan first read old_written written (front ++ text)
    → now ≡ written ++ front
    → Last plan first read old_written now text
last_rest plan first read old_written written front text now l e = record {
  answer = l.answer;
  grown = omega (arith, l.grown, ap length e, length-append written front);
  is = l.is;
  due = ap (λ x. x ++ text) e ∙ append_assoc written front text ∙ l.due;
}

-- ---- refusals

pub refused_all : (plan : Plan (List ℕ)) (first read now piece whole : List ℕ) (ended : Bool) (e : Refusal) → Extends first read
    → IsOctets (appended first read) → now ≡ read ++ piece → IsOctets piece
    → RefusesFrom plan (appended first read ++ piece) e → IsPossibleInput (record { octets = appended first now; ended = ended }) whole
    → plan.whole whole ≡ Err e
refused_all plan first read now piece whole ended e extends octets more is refuses possible =
    let p = appended first read in
    let same : appended first now ≡ p ++ piece = read_more first read now piece extends more in
    let all : whole ≡ (p ++ piece) ++ possible.rest = possible.continues ∙ ap (λ l. l ++ possible.rest) same in
    ap plan.whole all ∙ refuses possible.rest (IsOctets-append (p ++ piece) possible.rest (IsOctets-append p piece octets is) possible.octets)

-- ---- the length after a failure of the content

-- Everything that a beginning of the input fixes was written.
pub stands_as_long : (plan : Plan (List ℕ)) → Grows plan → (p q old_written written : List ℕ) → written ≡ old_written ++ plan.fixed (p ++ q)
    → length old_written + length (plan.fixed p) ≤ length written
stands_as_long plan grows p q old_written written e =
    let b = grows.more p q in
    omega (arith, ap length e, length-append old_written (plan.fixed (p ++ q)), ap length b.continues, length-append (plan.fixed p) b.rest)

-- The output keeps up, if the plan fixes these octets.
pub keeps_up : (plan : Plan (List ℕ)) → Grows plan → (fixed : List ℕ → List ℕ) → ((q : List ℕ) → fixed q ≡ plan.fixed q) → (p old written : List ℕ)
    → written ≡ old ++ plan.fixed p → KeepsUp fixed p old written
keeps_up plan grows fixed same p old written e =
    let n : ℕ = length p - most_behind in
    let long = stands_as_long plan grows (take n p) (drop n p) old written (e ∙ ap (λ l. old ++ plan.fixed l) (sym (take-append-drop n p))) in
    omega (arith, long, ap length (same (take n p)))

-- ---- the end of the content, seen from outside

-- A refusal is passed on.
pub passed_on : {W : Type 0} (answer : Result W Refusal) (wrote : W) (r : Result (Unit {0}) Refusal) (e : Refusal) → r ≡ Err e
    → (is_external e ≡ false → answer ≡ Err e) → AgreesUnlessExternal answer wrote r
passed_on answer wrote r e is refused = subst (AgreesUnlessExternal answer wrote) (sym is) refused

-- The call refuses as the plan does.
pub agrees_err : {X W : Type 0} (answer : Result W Refusal) (view : X → W) (r : Result X Refusal) (e : Refusal) → r ≡ Err e → answer ≡ Err e
    → GivesUnlessExternal view r answer
agrees_err answer view r e is none = subst (λ r. GivesUnlessExternal view r answer) (sym is) (λ inside. none)

-- If the end was found, the whole text is on the output.
pub whole_stands : (plan : Plan (List ℕ)) (first read old written now : List ℕ) (ended : Bool) → IsTrue ended
    → plan.whole (appended first read) ≡ Ok (appended old written) → Extends old written → now ≡ written
    → AppendsPrefixOf (beginning_of plan (record { octets = appended first read; ended = ended })) old now
whole_stands plan first read old written now ended at_end whole extends same =
    let is : beginning_of plan (record { octets = appended first read; ended = ended }) ≡ appended old written =
    ap (λ b. beginning_of plan (record { octets = appended first read; ended = b })) at_end
    ∙ ap (λ a. result_unwrap_or a (plan.fixed (appended first read))) whole in
    subst (λ t. AppendsPrefixOf t old now) (sym is) (AppendsPrefixOf-all (appended old written) old now (same ∙ extends))
