use Rattle.std.proofs.Common.{rules}
use Rattle.tokens.proofs.WrittenHeaders.Members.{written_text}
use Rattle.tokens.proofs.headers.header_text.Goals as goal

pub returns-else-is_empty : goal.returns-else-is_empty
returns-else-is_empty c = written_text c.args.members c.to_string.result c.requires (search rules) c.to_string.ensures.text
