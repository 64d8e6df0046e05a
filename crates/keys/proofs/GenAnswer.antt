-- Making a key, compared with the key that is made from the whole random input.
use Rattle.std.proofs.Common.{◌≡◌, ◌<◌, ◌+◌, ℕ, List, ◌++◌, true, false, nat_le, length, take, Result, Ok, Err, IfOk, IfErr, String, Global, string_bytes, IsTrue, refl, ap, ◌∙◌, sym, arith, length-append}
use Rattle.std.proofs.lemmas.Bool.{le-leb, lt-leb}
use Rattle.std.proofs.lemmas.List.{take_at}
use Rattle.octets.specs.declared.refusal.Refusal.{Refusal}
use Rattle.octets.specs.declared.refusal.Refusal.TheVariants.{Memory, Read, Random}
use Rattle.octets.specs.Devices.{Observed, IsPossibleInput}
use Rattle.octets.specs.Outcomes.{◌>>=◌, needs, is_external, GivesUnlessExternal}
use Rattle.octets.specs.Code.Results.{AgreesUnlessMemory, IsDrawingFailure}
use Rattle.keys.specs.Limits.{limits}
use Rattle.keys.specs.Generating.{MadeKey, made_key, key_text, gen_answer}
use Rattle.octets.proofs.Lemmas.{not_memory}

-- the text of the key, made with the random octets
abbrev made_of_octets : List ℕ → MadeKey → Result (List ℕ) Refusal
made_of_octets octets made = needs (nat_le made.len (length octets)) Random >>= (λ enough. Ok (key_text made (take made.len octets)))

gen_answer_of : (template octets : List ℕ) → gen_answer limits template octets ≡ (made_key limits template >>= made_of_octets octets)
unfolding gen_answer
gen_answer_of template octets = refl

-- If the template is refused, so is the whole call.
pub template_refused : {X : Type 0} (view : X → MadeKey) (template octets : List ℕ) (e : Refusal) (result : Result (String Global) Refusal) → result ≡ Err e
    → AgreesUnlessMemory view (Err e) (made_key limits template) → GivesUnlessExternal string_bytes result (gen_answer limits template octets)
template_refused view template octets e (Ok text) is agrees = absurd (cc is)
template_refused view template octets e (Err r) is agrees = λ inner.
    let same : r ≡ e = cc is in
    let refused : made_key limits template ≡ Err e = (agrees (not_memory e (ap is_external (sym same) ∙ inner))).0 in
    gen_answer_of template octets ∙ ap (λ made. made >>= made_of_octets octets) refused ∙ ap Err (sym same)

-- If there are fewer random octets than needed, the refusal is Random.
too_few : (made : MadeKey) (octets : List ℕ) → length octets < made.len → made_of_octets octets made ≡ Err Random
too_few made octets h = ap (λ enough. needs enough Random >>= (λ _. Ok (key_text made (take made.len octets)))) (lt-leb made.len (length octets) h)

seen_all : (seen : Observed) (octets : List ℕ) → IsPossibleInput seen octets → IsTrue seen.ended → length octets ≡ length seen.octets
seen_all seen octets possible ended =
    ap length possible.continues ∙ length-append seen.octets possible.rest ∙ ap (λ rest. length seen.octets + length rest) (possible.ends ended) ∙ omega arith

drawing_cause : (octets : List ℕ) (made : MadeKey) (seen : Observed) (old new wanted : ℕ) → wanted ≡ made.len → IsPossibleInput seen octets
    → (cause : Refusal) → IsDrawingFailure wanted seen old new cause → is_external cause ≡ false → (cause ≡ Random) × (length octets < made.len)
drawing_cause octets made seen old new wanted len possible Random fails inner = (refl, omega (arith, seen_all seen octets possible fails.1, fails.0))
drawing_cause octets made seen old new wanted len possible Read fails inner = absurd (cc inner)
drawing_cause octets made seen old new wanted len possible other fails inner = absurd fails

pub draw_refused : (template octets : List ℕ) (made : MadeKey) (seen : Observed) (old new wanted : ℕ) (e : Refusal) (result : Result (String Global) Refusal)
    → result ≡ Err e
    → made_key limits template ≡ Ok made → wanted ≡ made.len → IsDrawingFailure wanted seen old new e → IsPossibleInput seen octets
    → GivesUnlessExternal string_bytes result (gen_answer limits template octets)
draw_refused template octets made seen old new wanted e (Ok text) is makes len fails possible = absurd (cc is)
draw_refused template octets made seen old new wanted e (Err r) is makes len fails possible =
    let same : r ≡ e = cc is in
    λ inner.
    let cause = drawing_cause octets made seen old new wanted len possible e fails (ap is_external (sym same) ∙ inner) in
    gen_answer_of template octets ∙ ap (λ found. found >>= made_of_octets octets) makes ∙ too_few made octets cause.1 ∙ ap Err (sym (same ∙ cause.0))

-- If the key is made, its text is returned, or the refusal is Memory.
pub text_made : (template octets drawn : List ℕ) (made : MadeKey) (seen : Observed) (result : Result (String Global) Refusal)
    → made_key limits template ≡ Ok made → length drawn ≡ made.len → seen.octets ≡ drawn
    → IfOk result (λ text. string_bytes text ≡ key_text made drawn) → IfErr result (λ e. e ≡ Memory) → IsPossibleInput seen octets
    → GivesUnlessExternal string_bytes result (gen_answer limits template octets)
text_made template octets drawn made seen (Err e) makes len is text memory possible = λ inner. absurd (cc (ap is_external (sym memory) ∙ inner))
text_made template octets drawn made seen (Ok found) makes len is text memory possible =
    let whole : octets ≡ drawn ++ possible.rest = possible.continues ∙ ap (λ front. front ++ possible.rest) is in
    let front : take made.len octets ≡ drawn = ap (take made.len) whole ∙ take_at drawn possible.rest made.len len in
    let enough : nat_le made.len (length octets) ≡ true = le-leb made.len (length octets) (omega (arith, ap length whole, length-append drawn possible.rest)) in
    gen_answer_of template octets ∙ ap (λ m. m >>= made_of_octets octets) makes
    ∙ ap (λ test. needs test Random >>= (λ _. Ok (key_text made (take made.len octets)))) enough
    ∙ ap (λ octets. Ok (key_text made octets)) front ∙ ap Ok (sym text)
