use Rattle.tools.proofs.SetLaws.{added_keys_read_back, joined_keys_read_back}
use Rattle.tools.proofs.laws.joined_keys_read_back.Goals as goal

pub returns-clause-joined : goal.returns-clause-joined
returns-clause-joined c = joined_keys_read_back c.what_is_read_is_json.ensures c.members_keep_json.ensures c.compact_text_reads_back.ensures c.url_texts_are_json.ensures

pub returns-clause-added : goal.returns-clause-added
returns-clause-added c = added_keys_read_back c.what_is_read_is_json.ensures c.members_keep_json.ensures c.compact_text_reads_back.ensures c.url_texts_are_json.ensures
