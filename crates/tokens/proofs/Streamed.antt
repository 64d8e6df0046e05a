-- A call that ended before it touched its content.
use Rattle.std.proofs.Common.{◌≡◌, ◌≢◌, [], ◌∷◌, OnErr, ℕ, false, List, Option, Some, None, Result, Ok, Err, IfErr, IsErrAnd, inl, refl, sym, ap, subst, ◌∙◌}
use Rattle.std.proofs.Math.Seq.{drop-length}
use Rattle.octets.specs.declared.refusal.Refusal.{Refusal}
use Rattle.octets.specs.declared.refusal.Refusal.TheVariants.{Memory, Read, Write}
use Rattle.octets.specs.Faults.{TellsFaults, DidNotFail, counts}
use Rattle.octets.specs.Outcomes.{is_external}
use Rattle.octets.specs.Code.Lent.{Lent, IfLent}
use Rattle.octets.specs.Plan.{OutputTexts, Plan, planned}
use Rattle.octets.proofs.Lemmas.{AppendsPrefixOf-kept, not_told}
use Rattle.octets.specs.Code.Streaming.{Streams}
use Rattle.octets.specs.Devices.{InputMembers, OutputMembers}

-- a fact that holds of an unchanged output
kept : {E : Type 0} (l : Option (Lent E)) (P : E → E → Type 0) → IfLent l (λ old new. new ≡ old) → ((d : E) → P d d) → IfLent l P
kept None P same p = tt
kept (Some it) P same p = subst (P it.old) (sym same) (p it.old)

pub ended_early : {D E : Type 0} (input : InputMembers D) (output : OutputMembers E) (plan : Result (Plan OutputTexts) Refusal) (content : D) (text : E)
    (l : Option (Lent E)) → IfLent l (λ old new. new ≡ old)
    → (e : Refusal) → (is_external e ≡ false → (whole : List ℕ) → planned plan whole ≡ Err e) → (r : Result (Unit {0}) Refusal)
    → IsErrAnd r (λ refusal. refusal ≡ e)
    → Streams input output plan content content text text l r
ended_early input output plan content text l same e refused (Ok done) is = absurd is
ended_early input output plan content text l same e refused (Err r) is = record {
  answer = λ whole may inside. refused (sym (ap is_external is) ∙ inside) whole ∙ ap Err (sym is);
  beginning = AppendsPrefixOf-kept _ _;
  beginning_of_content = kept l _ same (λ d. AppendsPrefixOf-kept _ _);
  finished = tt;
  unfinished = refl;
  keeps_up = λ told some. absurd (some (drop-length (input.consumed content)));
  content_last = λ refusal none. refl;
  uncut = (λ spared unwritten. refl, kept l _ same (λ d others unwritten. refl));
  content_first = kept l _ same (λ d. inl (refl, refl));
  memory_first = λ memory. refl;
  unread = λ nothing. (λ spared. refl, kept l _ same (λ d others. refl));
}

-- ---- a call whose last step writes a text, and failed there

-- It does not report the content.
pub not_read_last : (r : Result (Unit {0}) Refusal) → OnErr r (r ≡ Err Write) → r ≡ Err Read → ⊥
not_read_last (Ok done) cause told = cc
not_read_last (Err e) cause told = cc

-- It does not report memory.
pub not_memory_last : (P : Type 0) (r : Result (Unit {0}) Refusal) → OnErr r (r ≡ Err Write) → IfErr r (λ refusal. refusal ≡ Memory → P)
not_memory_last P (Ok done) cause = tt
not_memory_last P (Err e) cause = λ memory. cc

-- The output of the text failed, and no other one.
pub text_failed : {E : Type 0} (P Q : Type 0) (failures : E → ℕ) (before mid after : E) (r : Result (Unit {0}) Refusal) → failures mid ≡ failures before
    → OnErr r (r ≡ Err Write) → TellsFaults [] (counts failures mid after ∷ []) r
    → IfErr r (λ refusal. (DidNotFail refusal (counts failures before after) → P) × (refusal ≢ Write → Q))
text_failed P Q failures before mid after (Ok done) same cause told = tt
text_failed P Q failures before mid after (Err e) same cause told =
    let write : e ≡ Write = cc cause in (
      λ spared. absurd (not_told e (counts failures mid after) (λ is. told.write (ap Err is))
          (subst (λ n. DidNotFail e (record { old = n; new = failures after })) (sym same) spared) write),
      λ others. absurd (others write),
    )
