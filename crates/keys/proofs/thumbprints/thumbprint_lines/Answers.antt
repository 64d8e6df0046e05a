use Rattle.std.proofs.Common.{◌≡◌, ℕ, List, [], ◌∷◌, ◌++◌, length, take, map, string_bytes, refl, ap, sym, ◌∙◌, arith}
use Rattle.std.specs.List.{join_by}
use Rattle.std.proofs.Math.Seq.{take-length}
use Rattle.std.proofs.lemmas.List.Folds.{flat_map-map}
use Rattle.keys.specs.declared.key.Key.{Key}
use Rattle.keys.specs.Code.Views.{key_view}
use Rattle.keys.specs.Thumbprints.{thumbprint_of, thumbprint_lines}
use Rattle.keys.proofs.thumbprints.thumbprint_lines.Goals as goal

join_by-map : {X Y A : Type 0} (f : X → Y) (g : Y → List A) (sep : List A) (xs : List X) → join_by g sep (map f xs) ≡ join_by (λ x. g (f x)) sep xs
join_by-map f g sep [] = refl
join_by-map f g sep (x ∷ xs) = ap (λ l. g (f x) ++ l) (flat_map-map (λ y. sep ++ g y) f xs)

-- The joined text is that of the thumbprint lines.
pub returns-clause-text : goal.returns-clause-text
unfolding thumbprint_lines
returns-clause-text c =
    let keys = c.args.keys.now in
    let lf : List ℕ = 10 ∷ [] in
    let print = λ (key : Key). thumbprint_of (key_view key) c.args.hash in
    let joined : List (List ℕ) → List ℕ = join_by (λ text. text) lf in
    let i : c.loop-key.key-index ≡ length keys = omega arith in
    c.in_ok-join.ensures.ok ∙ ap (join_by string_bytes lf) c.deref.ensures.value
    ∙ sym (join_by-map string_bytes (λ text. text) lf c.loop-key.lines.items)
    ∙ ap joined c.loop-key.invariant ∙ ap (λ n. joined (map print (take n keys))) i ∙ ap (λ ks. joined (map print ks)) (take-length keys)
    ∙ join_by-map print (λ text. text) lf keys
    ∙ sym (join_by-map key_view (λ key. thumbprint_of key c.args.hash) lf keys)
