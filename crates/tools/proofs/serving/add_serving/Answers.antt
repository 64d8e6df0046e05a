use Rattle.std.proofs.Common.{◌≡◌, ◌∙◌, ◌++◌, true, codes, if◌then◌else◌, OnOk, ap, sym, subst}
use Rattle.ciphers.specs.Algorithms.{management_algs}
use Rattle.keys.specs.Algorithms.{signature_algs}
use Rattle.keys.specs.Code.Views.{key_view}
use Rattle.tokens.specs.Judging.{uses_of}
use Rattle.tools.specs.LookedKeys.{management_words, may_nothing, serving_text, signature_words, use_words, why_idle}
use Rattle.tools.proofs.serving.add_serving.Goals as goal

pub returns-then-may_nothing : goal.returns-then-may_nothing
unfolding serving_text
returns-then-may_nothing c =
    let key = key_view c.args.key.now in
    let nothing : may_nothing (uses_of key) ≡ true = sym (ap may_nothing c.key_uses-uses.ensures) ∙ sym c.may_nothing.ensures ∙ c.if-may_nothing.true in
    let told = subst (λ cause. OnOk c.add_both.result (c.add_both.new.line.items ≡ c.args.line.now.items ++ (codes " for no algorithm: " ++ cause)))
    c.why_idle.ensures c.add_both.ensures in
    subst (λ test. OnOk c.add_both.result (c.add_both.new.line.items ≡ c.args.line.now.items ++ (if test then codes " for no algorithm: " ++ why_idle key
    else use_words (uses_of key) ++ codes "," ++ signature_words key signature_algs ++ management_words key management_algs)))
    (sym nothing) told
