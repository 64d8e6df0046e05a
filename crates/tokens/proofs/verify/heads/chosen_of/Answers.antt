use Rattle.std.proofs.Common.{◌≡◌, ◌+◌, ◌∷◌, ◌++◌, [], true, length, map, take, sym, ap, ◌∙◌, arith, length-append}
use Rattle.std.proofs.lemmas.List.{map-append}
use Rattle.objects.specs.Code.Views.{signature_view}
use Rattle.tokens.specs.Code.Heads.{is_covered, covers}
use Rattle.tokens.proofs.Verifying.Heads.{covers_one_more, covers_by_one_more}
use Rattle.tokens.proofs.verify.heads.chosen_of.Goals as goal
use Rattle.tokens.proofs.verify.heads.chosen_of.Goals.{then-not-is_covered, else-not-is_covered}

pub loop-signature-preserved : goal.loop-signature-preserved
loop-signature-preserved c =
    let signatures = c.args.signatures.now in
    let i = c.loop-signature.signature-index in
    let s = c.signature-item.result in
    let before = c.loop-signature.chosen in
    let heads = map signature_view before in
    let front = map signature_view (take (i + 1) signatures) in
    let lt = c.loop-signature-test.true in
    let all = c.loop-signature.invariant.all in
    elim c.if-not-is_covered.branch [
      | then-not-is_covered w ↦
          let is : c.if-not-is_covered.chosen ≡ before ++ (s ∷ []) = w.chosen-is ∙ w.push.ensures in
          let views = ap (map signature_view) is ∙ map-append signature_view before (s ∷ []) in
          record {
            few = omega (arith, ap length is, length-append before (s ∷ []));
            all = ap (λ l. covers l front) views ∙ covers_by_one_more heads signatures i s lt c.signature-item.is all;
          }
      | else-not-is_covered w ↦
          let tested = ap (λ l. is_covered (map signature_view l) (signature_view s)) (sym c.list.ensures) in
          let here : is_covered heads (signature_view s) ≡ true = tested ∙ sym c.is_covered.ensures ∙ w.if-not-is_covered.false in
          record {
            few = omega (arith, ap length w.chosen-is);
            all = ap (λ l. covers (map signature_view l) front) w.chosen-is ∙ covers_one_more heads signatures i s lt c.signature-item.is here all;
          }
    ]
