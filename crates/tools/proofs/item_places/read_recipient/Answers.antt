use Rattle.std.proofs.Common.{◌≡◌, codes}
use Rattle.std.specs.Result.{result_err}
use Rattle.serde_json.specs.View.{view}
use Rattle.tools.specs.ItemPlaces.{octets_at}
use Rattle.tools.proofs.item_places.read_recipient.Goals as goal

pub returns : goal.returns
returns c =
    let key : c.in_ok-member_refusal.field-0 ≡ result_err (octets_at (codes "encrypted_key") (view c.args.value.now)) = c.in_ok-member_refusal.ensures in
    cc
