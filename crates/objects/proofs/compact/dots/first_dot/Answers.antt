use Rattle.std.proofs.Common.{◌+◌, option_map, sym, ap, ◌∙◌}
use Rattle.objects.specs.Texts.{is_dot}
use Rattle.objects.proofs.FirstDots.{found_in_rest}
use Rattle.objects.proofs.compact.dots.first_dot.Goals as goal

pub returns : goal.returns
returns c =
    let n = c.without_dots-passed.result in
    ap (option_map (λ i. n + i)) c.in_ok-i.ensures ∙ sym (found_in_rest is_dot c.args.text.now n c.without_dots-passed.ensures.none)

pub returns-in_err-i : goal.returns-in_err-i
returns-in_err-i c =
    let n = c.without_dots-passed.result in
    c.from_residual.ensures ∙ ap (option_map (λ i. n + i)) c.in_err-i.ensures ∙ sym (found_in_rest is_dot c.args.text.now n c.without_dots-passed.ensures.none)
