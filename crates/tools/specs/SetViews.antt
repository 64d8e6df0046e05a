-- What values of the code hold, as contracts see it.
use Rattle.std.specs.Prelude.{List, [], ◌∷◌, ◌++◌, map, string_bytes, Result, Ok, Err}
use Rattle.serde_json.specs.View.{items_view}
use Rattle.keys.specs.Keys.{OctetKey}
use Rattle.tools.specs.declared.changing.Edit.{Edit}
use Rattle.tools.specs.declared.changing.Edit.TheVariants as edit
use Rattle.tools.specs.declared.tool_cause.ToolCause.{ToolCause}
use Rattle.tools.specs.declared.tool_report.Words.{Words}
use Rattle.tools.specs.declared.sets.HeldSet.{HeldSet}
use Rattle.tools.specs.declared.sets.JoinedSet.{JoinedSet}
use Rattle.tools.specs.Changes.{Editing, adding, removing}
use Rattle.tools.specs.ToolReports.{NamedWords}
use Rattle.tools.specs.Sets.{HeldKeys, JoinedKeys}

-- the result, seen by view
abbrev pub seen : {X Y : Type 0} → (X → Y) → Result X ToolCause → Result Y ToolCause
seen view (Ok x) = Ok (view x)
seen view (Err cause) = Err cause

abbrev pub editing : Edit → Editing
editing (edit.Add files) = adding (map string_bytes files.now)
editing (edit.Remove names) = removing (map string_bytes names.now)

-- the keys of all sets, in order
abbrev pub all_keys : List (List OctetKey) → List OctetKey
all_keys [] = []
all_keys (set ∷ sets) = set ++ all_keys sets

abbrev pub held_view : HeldSet → HeldKeys
held_view held = record { is_set = held.is_set; objects = items_view held.objects.items; keys = held.keys }

abbrev pub joined_view : JoinedSet → JoinedKeys
joined_view joined = record { objects = items_view joined.objects.items; keys = all_keys joined.sets.items }

abbrev pub named_words : Words → NamedWords
named_words words = record { tool = words.tool; target = words.target.now; others = map string_bytes words.others.now }
