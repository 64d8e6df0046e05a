use Rattle.tools.proofs.tool_report.add_why.Goals as goal

pub returns-in-NoKey : goal.returns-in-NoKey
returns-in-NoKey c = rw (c.in-NoKey.is, ← c.other.ensures) c.add_then.ensures
