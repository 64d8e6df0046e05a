use Rattle.std.proofs.Common.{◌≡◌, ℕ, ◌+◌, ◌*◌, ◌/◌, List, [], ◌∷◌, ◌++◌, length, sym, ap, ap₂, ◌∙◌, arith, append_assoc, append-nil}
use Rattle.std.proofs.lemmas.List.FromFn.{map-range_with_len_more}
use Rattle.modes.specs.Ghash.{ghash_number}
use Rattle.modes.proofs.Numbers.{number, numbers_to, numbers_are}
use Rattle.modes.proofs.ghash.add_blocks.Goals as goal

more : (xs p : List ℕ) (k : ℕ) → (xs ++ numbers_to p k) ++ number p k ∷ [] ≡ xs ++ numbers_to p (k + 1)
more xs p k = append_assoc xs (numbers_to p k) (number p k ∷ []) ∙ ap (λ t. xs ++ t) (sym (map-range_with_len_more (number p) 0 k k (omega arith)))

pub loop-i-init : goal.loop-i-init
loop-i-init c xs e = e ∙ ap (ghash_number c.args.subkey.now.h) (sym (append-nil xs))

pub loop-i-preserved : goal.loop-i-preserved
loop-i-preserved c xs e =
    let i = c.loop-i.i in
    let p = c.args.blocks.now in
    c.add_both-total.ensures (xs ++ numbers_to p (2 * i)) (c.loop-i.invariant xs e)
    ∙ ap (ghash_number c.args.subkey.now.h)
    (ap₂ (λ x y. ((xs ++ numbers_to p (2 * i)) ++ x ∷ []) ++ y ∷ []) c.block_at.ensures c.block_at-in-loop-i.ensures
    ∙ ap (λ t. t ++ number p (2 * i + 1) ∷ []) (more xs p (2 * i))
    ∙ more xs p (2 * i + 1)
    ∙ ap (λ k. xs ++ numbers_to p k) (let e : 2 * i + 1 + 1 ≡ 2 * (i + 1) = omega arith in e))

pub returns-then-blocks-eq0 : goal.returns-then-blocks-eq0
returns-then-blocks-eq0 c xs e =
    c.loop-i.invariant xs e
    ∙ ap (λ t. ghash_number c.args.subkey.now.h (xs ++ t)) (sym (numbers_are c.args.blocks.now (2 * c.loop-i.i) (omega arith)))

pub returns-else-blocks-eq0 : goal.returns-else-blocks-eq0
returns-else-blocks-eq0 c xs e =
    let p = c.args.blocks.now in
    let n = length p / 32 in
    let last : c.loop-i.i ≡ n = omega arith in
    let before : c.loop-i.total ≡ ghash_number c.args.subkey.now.h (xs ++ numbers_to p (2 * n)) =
    c.loop-i.invariant xs e ∙ ap (λ i. ghash_number c.args.subkey.now.h (xs ++ numbers_to p (2 * i))) last in
    c.add_block.ensures (xs ++ numbers_to p (2 * n)) before
    ∙ ap (ghash_number c.args.subkey.now.h)
    (ap (λ x. (xs ++ numbers_to p (2 * n)) ++ x ∷ []) c.block_at-else-blocks-eq0.ensures
    ∙ more xs p (2 * n)
    ∙ ap (λ t. xs ++ t) (sym (numbers_are p (2 * n + 1) (omega arith))))
