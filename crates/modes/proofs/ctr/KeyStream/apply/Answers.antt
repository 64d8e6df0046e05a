use Rattle.std.proofs.Common.{◌≡◌, ℕ, ◌+◌, ◌-◌, ◌≤◌, List, ◌++◌, length, take, drop, sym, ap, subst, ◌∙◌, arith, append_assoc, length-drop}
use Rattle.std.proofs.lemmas.List.{drop-drop, take_rest, take_all}
use Rattle.modes.specs.Ctr.{ctr}
use Rattle.modes.specs.Code.Views.{HoldsKeyStream}
use Rattle.modes.proofs.Fronts.{take_split, take_written, drop_written}
use Rattle.modes.proofs.ctr.KeyStream.apply.Goals as goal

pub loop-at-preserved : goal.loop-at-preserved
loop-at-preserved g c =
    let e = g.B.Block.encrypted c.args.cipher.now in
    let a = c.loop-at.at in
    let n = c.apply_front-at.result in
    let xs = c.loop-at.octets in
    let first = c.args.octets.now in
    let y = c.apply_front-at.new.octets in
    let within : a ≤ length xs = omega (arith, c.loop-at.invariant.within, c.loop-at.auto.octets) in
    let handed : take (length xs - a) (drop a xs) ≡ drop a first = take_rest xs a ∙ c.loop-at.invariant.rest in
    let part : take n (take (length xs - a) (drop a xs)) ≡ take n (drop a first) = ap (take n) handed in
    let split : (p : List ℕ) → (p ++ take a first) ++ take n (take (length xs - a) (drop a xs)) ≡ p ++ take (a + n) first =
    λ p. append_assoc p (take a first) _ ∙ ap (λ t. p ++ t) (ap (λ t. take a first ++ t) part ∙ sym (take_split a n first)) in
    let room : length (take (length xs - a) (drop a xs)) ≡ length first - a = ap length handed ∙ length-drop a first in
    record {
      within = omega (arith, c.apply_front-at.ensures.some, room, c.loop-at.invariant.within);
      rest = drop_written a n xs y within ∙ c.apply_front-at.ensures.rest ∙ ap (drop n) handed ∙ drop-drop n a first;
      fed = λ f p k. subst (HoldsKeyStream c.apply_front-at.new.self e f) (split p)
          (c.apply_front-at.ensures.fed f (p ++ take a first) (c.loop-at.invariant.fed f p k));
      text = λ f p k.
          ap (ctr e f) (sym (split p))
          ∙ c.apply_front-at.ensures.text f (p ++ take a first) (c.loop-at.invariant.fed f p k)
          ∙ ap (λ t. t ++ take n y) (c.loop-at.invariant.text f p k)
          ∙ append_assoc (ctr e f p) (take a xs) (take n y)
          ∙ ap (λ t. ctr e f p ++ t) (sym (take_written a n xs y within));
    }

pub returns-clause-fed : goal.returns-clause-fed
returns-clause-fed g c f p k =
    let all : take c.loop-at.at c.args.octets.now ≡ c.args.octets.now = take_all c.loop-at.at c.args.octets.now (omega (arith, c.loop-at-test.false)) in
    subst (λ t. HoldsKeyStream c.loop-at.self (g.B.Block.encrypted c.args.cipher.now) f (p ++ t)) all (c.loop-at.invariant.fed f p k)
