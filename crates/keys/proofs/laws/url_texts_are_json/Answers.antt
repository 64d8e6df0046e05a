use Rattle.keys.proofs.UrlTexts.{url_texts_are_json}
use Rattle.keys.proofs.laws.url_texts_are_json.Goals as goal

pub returns : goal.returns
returns c = url_texts_are_json
