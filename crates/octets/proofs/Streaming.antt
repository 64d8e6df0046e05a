-- A command that writes the part that its plan fixes while it reads its content.
use Rattle.std.proofs.Common.{◌≡◌, ℕ, ◌≤◌, List, [], ◌++◌, length, take, Bool, true, false, Result, Ok, Err, IsTrue, subst, refl, sym, ◌∙◌, ap, arith, append_assoc, append-nil, length-append}
use Rattle.std.proofs.Math.Seq.{drop-append_seam}
use Rattle.std.specs.Result.{result_unwrap_or}
use Rattle.octets.specs.Octets.{IsOctets}
use Rattle.octets.specs.declared.refusal.Refusal.{Refusal}
use Rattle.octets.specs.Devices.{appended, AppendsPrefixOf}
use Rattle.octets.specs.Code.Streams.{Extends}
use Rattle.octets.proofs.Decoded.{IsOctets-nil, IsOctets-append}
use Rattle.octets.specs.Plan.{Plan, Begins, Grows, beginning_of}
use Rattle.octets.proofs.Prefixes.{AppendsPrefixOf-all, AppendsPrefixOf-front}

-- ---- the octets read and written

-- These octets of the content were read. Everything that they fix is on the output once the text that is due is written.
pub record Due (plan : Plan (List ℕ)) (old_read read old_written written text : List ℕ) : Type 0 where
  pub extends : Extends old_read read
  pub octets : IsOctets (appended old_read read)
  pub grown : length old_written ≤ length written
  pub due : written ++ text ≡ old_written ++ plan.fixed (appended old_read read)

-- nothing more is due
abbrev pub Stands : Plan (List ℕ) → List ℕ → List ℕ → List ℕ → List ℕ → Type 0
Stands plan old_read read old_written written = Due plan old_read read old_written written []

pub read_more : (first read now piece : List ℕ) → Extends first read → now ≡ read ++ piece → appended first now ≡ appended first read ++ piece
read_more first read now piece e more =
    ap (appended first) (more ∙ ap (λ l. l ++ piece) e ∙ append_assoc first (appended first read) piece) ∙ drop-append_seam first (appended first read ++ piece)

-- After the text is written, nothing more is due.
pub Stands-written : (plan : Plan (List ℕ)) (first read old_written written text now : List ℕ)
    → Due plan first read old_written written text → now ≡ written ++ text
    → Stands plan first read old_written now
Stands-written plan first read old_written written text now d e = record {
  extends = d.extends;
  octets = d.octets;
  grown = omega (arith, d.grown, ap length e, length-append written text);
  due = append-nil now ∙ e ∙ d.due;
}

-- ---- the output that may be there

begins : (plan : Plan (List ℕ)) → Grows plan → (p : List ℕ) (ended : Bool) → IsOctets p
    → Begins (plan.fixed p) (beginning_of plan (record { octets = p; ended = ended }))
begins plan grows p false octets = record { rest = []; continues = sym (append-nil (plan.fixed p)) }
begins plan grows p true octets = by_answer (plan.whole p) refl
  where
    by_answer : (a : Result (List ℕ) Refusal) → plan.whole p ≡ a → Begins (plan.fixed p) (result_unwrap_or a (plan.fixed p))
    by_answer (Ok w) e = grows.whole p [] w (IsOctets-append p [] octets IsOctets-nil) (ap plan.whole (append-nil p) ∙ e)
    by_answer (Err r) e = record { rest = []; continues = sym (append-nil (plan.fixed p)) }

pub AppendsPrefixOf-Begins : (front all old new : List ℕ) → Begins front all → AppendsPrefixOf front old new → AppendsPrefixOf all old new
AppendsPrefixOf-Begins front all old new b h = subst (λ text. AppendsPrefixOf text old new) (sym b.continues) (AppendsPrefixOf-front front b.rest old new h)

-- If only a part of the text that is due is written, the output holds a beginning of what may be written.
pub may_stand : (plan : Plan (List ℕ)) → Grows plan → (first read old_written written text now : List ℕ) (ended : Bool)
    → Due plan first read old_written written text
    → AppendsPrefixOf text written now → AppendsPrefixOf (beginning_of plan (record { octets = appended first read; ended = ended })) old_written now
may_stand plan grows first read old_written written text now ended d part =
    AppendsPrefixOf-Begins (plan.fixed (appended first read)) (beginning_of plan (record { octets = appended first read; ended = ended })) old_written now
    (begins plan grows (appended first read) ended d.octets)
    (omega (arith, d.grown, part.0), ap (take (length now)) (sym d.due) ∙ part.1)

-- If nothing more is written, the output holds a beginning of what may be written.
pub stands : (plan : Plan (List ℕ)) → Grows plan → (first read old_written written : List ℕ) (ended : Bool) → Stands plan first read old_written written
    → AppendsPrefixOf (beginning_of plan (record { octets = appended first read; ended = ended })) old_written written
stands plan grows first read old_written written ended s =
    may_stand plan grows first read old_written written [] written ended s (AppendsPrefixOf-all [] written written (sym (append-nil written)))

-- ---- the end was found

-- the last text completes the answer
pub record Last (plan : Plan (List ℕ)) (first read old_written written text : List ℕ) : Type 0 where
  pub answer : List ℕ
  pub grown : length old_written ≤ length written
  pub is : plan.whole (appended first read) ≡ Ok answer
  pub due : written ++ text ≡ old_written ++ answer

pub last_may_stand : (plan : Plan (List ℕ)) (first read old_written written text now : List ℕ) (ended : Bool)
    → Last plan first read old_written written text → IsTrue ended
    → AppendsPrefixOf text written now → AppendsPrefixOf (beginning_of plan (record { octets = appended first read; ended = ended })) old_written now
last_may_stand plan first read old_written written text now ended l at_end part =
    let is : beginning_of plan (record { octets = appended first read; ended = ended }) ≡ l.answer =
    ap (λ b. beginning_of plan (record { octets = appended first read; ended = b })) at_end
    ∙ ap (λ a. result_unwrap_or a (plan.fixed (appended first read))) l.is in
    subst (λ t. AppendsPrefixOf t old_written now) (sym is) (omega (arith, l.grown, part.0), ap (take (length now)) (sym l.due) ∙ part.1)

-- ---- an output to which nothing was written

pub untouched_more : {D : Type 0} (written : D → List ℕ) (old out now : D) (text : List ℕ) → length (written old) ≤ length (written out)
    → (written out ≡ written old → out ≡ old)
    → written now ≡ written out ++ text → (length text ≡ 0 → now ≡ out) → written now ≡ written old → now ≡ old
untouched_more written old out now text grown before more none same =
    let empty : length text ≡ 0 = omega (arith, grown, ap length more, ap length same, length-append (written out) text) in
    let unmoved : now ≡ out = none empty in
    unmoved ∙ before (ap written (sym unmoved) ∙ same)
