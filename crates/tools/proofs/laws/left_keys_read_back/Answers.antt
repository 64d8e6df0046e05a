use Rattle.tools.proofs.SetLaws.{left_keys_read_back}
use Rattle.tools.proofs.laws.left_keys_read_back.Goals as goal

pub returns : goal.returns
returns c = left_keys_read_back c.what_is_read_is_json.ensures c.members_keep_json.ensures c.compact_text_reads_back.ensures c.url_texts_are_json.ensures
