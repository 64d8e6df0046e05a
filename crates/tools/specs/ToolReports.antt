-- The last line of jose-set and of jose-look (docs/SPECIFICATION.md "Tools").
use Rattle.std.specs.Prelude.{ℕ, List, [], ◌++◌, codes, get_or}
use Rattle.octets.specs.Refusals.{refusal_text}
use Rattle.tools.specs.declared.tool_cause.Place.{Place}
use Rattle.tools.specs.declared.tool_cause.Place.TheVariants.{Target, Beside, File}
use Rattle.tools.specs.declared.tool_cause.ToolCause.{ToolCause}
use Rattle.tools.specs.declared.tool_cause.ToolCause.TheVariants.{Usage, Memory, InputTwice, InputSet, Output, NotAllRead, At}
use Rattle.tools.specs.declared.tool_cause.Why.{Why}
use Rattle.tools.specs.declared.tool_cause.Why.TheVariants as why
use Rattle.tools.specs.declared.words.Tool.{Tool}
use Rattle.tools.specs.Printing.{printable}
use Rattle.tools.specs.Words.{tool_name, usage_text}

-- ---- the words (docs/SPECIFICATION.md "Tools")

-- the tool, and the words that a cause may name: the set that is changed or made, and the files or thumbprints
pub record NamedWords : Type 0 where
  pub tool : Tool
  pub target : List ℕ
  pub others : List (List ℕ)

abbrev pub name_of : NamedWords → Place → List ℕ
name_of words Target = words.target
name_of words Beside = words.target ++ codes ".new"
name_of words (File at) = get_or words.others at []

-- ---- the line (docs/SPECIFICATION.md "Tools")

abbrev pub why_text : NamedWords → Why → List ℕ
why_text words why.Unread = codes "it cannot be read"
why_text words (why.Refused refusal) = codes "jose: " ++ refusal_text refusal
why_text words why.OtherMember = codes "a set must have one member \"keys\", and no other"
why_text words (why.KeyTwice thumbprint) = codes "the key " ++ printable thumbprint ++ codes " is there already"
why_text words why.NoSet = codes "it is a key, and not a set. jose-set join -o NEW makes a set"
why_text words why.NoFile = codes "no regular file of this name was found"
why_text words why.Link = codes "it is a symbolic link"
why_text words why.NotWritable = codes "it may not be written"
why_text words why.Shared = codes "others than its owner may open it; chmod 600 ends this"
why_text words (why.NoKey at) = codes "no key has the thumbprint " ++ printable (get_or words.others at [])
why_text words why.NoneStays = codes "one key must stay"
why_text words why.Exists = codes "there is a file already"
why_text words why.Claimed = codes "there is a file already. Another jose-set is at work, or one was killed"
why_text words why.NotCreated = codes "it cannot be created"
why_text words why.NotWritten = codes "it cannot be written"
why_text words why.NotOnDisk = codes "it cannot be written to the disk"
why_text words why.NotReplaced = codes "it cannot be replaced"
why_text words why.NotDeleted = codes "it cannot be deleted"
why_text words why.FolderNotOnDisk = codes "it was changed, but its folder cannot be written to the disk"

abbrev pub cause_text : NamedWords → ToolCause → List ℕ
cause_text words Usage = usage_text words.tool
cause_text words Memory = tool_name words.tool ++ codes ": jose: 4 Memory"
cause_text words InputTwice = tool_name words.tool ++ codes ": -: standard input can be read only once"
cause_text words InputSet = tool_name words.tool ++ codes ": -: it is not a file"
cause_text words Output = tool_name words.tool ++ codes ": standard output cannot be written"
cause_text words NotAllRead = tool_name words.tool ++ codes ": a file cannot be read"
cause_text words (At place why) = tool_name words.tool ++ codes ": " ++ printable (name_of words place) ++ codes ": " ++ why_text words why

abbrev pub tool_line : NamedWords → ToolCause → List ℕ
tool_line words cause = cause_text words cause ++ codes "\n"
