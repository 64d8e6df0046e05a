use Rattle.std.proofs.Common.{◌≡◌, Ok, lit≤, codes, sym, ap, ◌∙◌}
use Rattle.std.proofs.lemmas.Slice.Eq.{bytes_eq-Decides}
use Rattle.serde_json.specs.Data.{object, no_members}
use Rattle.serde_json.specs.View.{view, members_view}
use Rattle.serde_json.proofs.Views.{view-Object}
use Rattle.keys.specs.Json.{json_value}
use Rattle.keys.proofs.ReadingBack.{reads_back}
use Rattle.keys.proofs.WholeNumbers.{no_float}
use Rattle.keys.proofs.strict_json.read_json.Goals as goal
use Rattle.octets.proofs.Lemmas.{passed}

pub returns-clause-no_float : goal.returns-clause-no_float
returns-clause-no_float c = no_float (view c.in_ok-value.value) (sym c.has_whole_numbers.ensures ∙ passed _ _ _ (sym c.needs.ensures ∙ c.in_ok-needs.was))

pub returns-then-eq-clause-exact : goal.returns-then-eq-clause-exact
returns-then-eq-clause-exact c =
    let read : json_value (codes "{}") ≡ Ok (object no_members) = reads_back (object no_members) tt (lit≤ tt) in
    ap json_value ((bytes_eq-Decides c.args.octets.now c.as_slice.result.now).0 (sym c.eq.ensures ∙ c.if-eq.true) ∙ c.as_slice.ensures) ∙ read
    ∙ ap (λ es. Ok (object (members_view es))) (sym c.new.ensures.empty) ∙ ap Ok (sym (view-Object c.new.result))
