-- A request of jose-set, as its words ask for it.
use Rattle.std.specs.Prelude.{map, option_map, string_bytes}
use Rattle.tools.specs.declared.set_words.SetRequest.{SetRequest}
use Rattle.tools.specs.declared.set_words.SetRequest.TheVariants.{Join, Add, Remove}
use Rattle.tools.specs.Changes.{Asked, joins, adds, removes}

-- what the request asks for (docs/SPECIFICATION.md "Tools")
abbrev pub asked_by : SetRequest → Asked
asked_by (Join new files) = joins (option_map (λ name. name.now) new) (map string_bytes files.now)
asked_by (Add set files) = adds set.now (map string_bytes files.now)
asked_by (Remove set thumbprints) = removes set.now (map string_bytes thumbprints.now)
