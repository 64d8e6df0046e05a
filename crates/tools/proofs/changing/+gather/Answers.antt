use Rattle.std.proofs.Common.{◌<◌, Ok, length, arith}
use Rattle.std.proofs.Common.{refl}
use Rattle.tools.specs.Changes.{Gathers}
use Rattle.tools.specs.SetViews.{joined_view}
use Rattle.tools.proofs.Doing.{computed, taken_by, names_are, no_names, returned_seen, went_on}
use Rattle.tools.proofs.changing.+gather.Goals as goal

pub returns-in_err-more-in-len1-up : goal.returns-in_err-more-in-len1-up
returns-in_err-more-in-len1-up g t c =
    let some : 0 < length c.args.files.now = omega (arith, c.in-len1-up.len_at_least) in
    taken_by (Gathers c.args.at (joined_view c.args.joined)) _ _ (names_are c.args.files.now c.file-item.result c.as_str.result.now some c.file-item.is c.as_str.ensures.value)
    (returned_seen joined_view _ c.in_err-more-in-len1-up.ensures c.from_residual.ensures.1)

pub returns-in_ok-more-in-len1-up : goal.returns-in_ok-more-in-len1-up
returns-in_ok-more-in-len1-up g t c =
    let some : 0 < length c.args.files.now = omega (arith, c.in-len1-up.len_at_least) in
    taken_by (Gathers c.args.at (joined_view c.args.joined)) _ _ (names_are c.args.files.now c.file-item.result c.as_str.result.now some c.file-item.is c.as_str.ensures.value)
    (went_on _ c.in_ok-more-in-len1-up.ensures c.gather.ensures)

pub returns-in-empty : goal.returns-in-empty
returns-in-empty g t c = taken_by (Gathers c.args.at (joined_view c.args.joined)) _ _ (no_names c.args.files.now c.in-empty.len_below) (computed joined_view (Ok c.args.joined) refl)
