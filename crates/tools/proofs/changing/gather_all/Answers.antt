use Rattle.std.proofs.Common.{map, string_bytes, subst}
use Rattle.tools.specs.Changes.{Gathers}
use Rattle.tools.specs.Steps.{Takes}
use Rattle.tools.specs.SetViews.{joined_view, seen}
use Rattle.tools.proofs.changing.gather_all.Goals as goal

pub returns : goal.returns
returns g c = subst (λ none. Takes g.D.PutFiles.made c.args.disk.now c.gather.new.disk (Gathers 0 none (map string_bytes c.args.files.now))
    (seen joined_view c.gather.result)) c.no_keys.ensures c.gather.ensures
