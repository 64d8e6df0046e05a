use Rattle.std.proofs.Common.{ap, sym, ◌∙◌}
use Rattle.serde_json.specs.View.{view, members_view}
use Rattle.serde_json.specs.Written.{members_have_float}
use Rattle.keys.proofs.MadeFloats.{no_float-completed, no_float-members}
use Rattle.keys.proofs.generating.plan_key.Goals as goal
use Rattle.octets.proofs.Lemmas.{passed}

pub returns-clause-within_limit : goal.returns-clause-within_limit
returns-clause-within_limit c =
    c.in_ok-len.ensures.within_limit (sym c.is_within_limit.ensures ∙ passed _ _ _ (sym c.needs.ensures ∙ c.in_ok-needs.was))

pub returns-clause-no_float : goal.returns-clause-no_float
returns-clause-no_float c =
    let members = members_view c.in_ok-into_members.field-0.entries in
    ap members_have_float c.in_ok-members.ensures
    ∙ no_float-completed c.in_ok-alg.alg members (no_float-members (view c.in_ok-value.value) members c.in_ok-into_members.ensures
    c.in_ok-value.ensures.no_float)
