use Rattle.std.proofs.Common.{◌==◌, rules, tests, sym, ◌∙◌}
use Rattle.std.proofs.lemmas.Iterator.{YieldsList-from_slice}
use Rattle.std.proofs.lemmas.Iterator.Search.{any_from_yields_List}
use Rattle.tools.proofs.Entries.{any-map}
use Rattle.tools.proofs.command_words.Walk.is_given.Goals as goal

pub returns : goal.returns
returns c =
    any_from_yields_List (λ given. given.letter == c.args.letter) _ _ _ c.any.ensures.ran (YieldsList-from_slice c.args.self.now.given.items cc)
    (λ x b q k. search (rules, tests))
    ∙ sym (any-map (λ setting. setting.0 == c.args.letter) (λ given. (given.letter, given.value.now)) c.args.self.now.given.items)
