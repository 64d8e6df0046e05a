use Rattle.std.proofs.Common.{◌<◌, ◌-◌, ◌&&◌, ℕ, List, Ok, length, map, take, drop, string_bytes, refl, sym, arith}
use Rattle.tools.specs.LookCalls.{ShowsFiles}
use Rattle.tools.proofs.Doing.{computed, names_are, no_names, returned, taken_by, went_on}
use Rattle.tools.proofs.looking.+show_each.Goals as goal

pub returns-in_err-was_read-in-len1-up : goal.returns-in_err-was_read-in-len1-up
returns-in_err-was_read-in-len1-up g t c =
    let some : 0 < length c.args.files.now = omega (arith, c.in-len1-up.len_at_least) in
    taken_by (ShowsFiles c.args.all) _ _ (names_are c.args.files.now c.file-item.result c.as_str.result.now some c.file-item.is c.as_str.ensures.value)
    (returned _ c.in_err-was_read-in-len1-up.ensures c.from_residual.ensures.1)

pub returns-in_ok-was_read-in-len1-up : goal.returns-in_ok-was_read-in-len1-up
returns-in_ok-was_read-in-len1-up g t c =
    let some : 0 < length c.args.files.now = omega (arith, c.in-len1-up.len_at_least) in
    let rest : List (List ℕ) = map string_bytes (take (length c.args.files.now - 1) (drop 1 c.args.files.now)) in
    taken_by (ShowsFiles c.args.all) _ _ (names_are c.args.files.now c.file-item.result c.as_str.result.now some c.file-item.is c.as_str.ensures.value)
    (went_on _ c.in_ok-was_read-in-len1-up.ensures
    (taken_by (λ all. ShowsFiles all rest) (c.args.all && c.in_ok-was_read-in-len1-up.was_read) c.both.result (sym c.both.ensures) c.show_each.ensures))

pub returns-in-empty : goal.returns-in-empty
returns-in-empty g t c = taken_by (ShowsFiles c.args.all) _ _ (no_names c.args.files.now c.in-empty.len_below) (computed (λ all. all) (Ok c.args.all) refl)
