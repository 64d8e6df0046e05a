use Rattle.tools.proofs.SetLaws.{joined_alone_is_the_same}
use Rattle.tools.proofs.laws.joined_alone_is_the_same.Goals as goal

pub returns : goal.returns
returns c = joined_alone_is_the_same c.what_is_read_is_json.ensures c.members_keep_json.ensures c.compact_text_reads_back.ensures c.url_texts_are_json.ensures
