use Rattle.std.proofs.Common.{◌≡◌, codes, refl, ap, ◌∙◌}
use Rattle.serde_json.specs.Data.{object, string, put}
use Rattle.serde_json.specs.View.{view, members_view}
use Rattle.serde_json.specs.Written.{has_float, compact_text}
use Rattle.serde_json.specs.declared.value.Value.{Object}
use Rattle.serde_json.proofs.Views.{view-Object}
use Rattle.octets.specs.Base64url.{base64url}
use Rattle.keys.proofs.KeyMembers.{view-String}
use Rattle.keys.proofs.Floats.{no_float_put_in}
use Rattle.keys.proofs.generating.key_text.Goals as goal

pub returns-clause-text : goal.returns-clause-text
returns-clause-text c =
    let before = members_view c.args.plan.members.entries in
    let all = put (codes "k") (string (base64url c.args.octets.now)) before in
    let there : members_view c.put.new.map.entries ≡ all =
    c.in_ok-put.ensures.ok ∙ ap (λ value. put (codes "k") value before) (view-String c.in_ok-b64_encode.field-0 ∙ ap string c.in_ok-b64_encode.ensures.text) in
    let whole : view (Object c.put.new.map) ≡ object all = view-Object c.put.new.map ∙ ap object there in
    c.in_ok-to_string.ensures.text (ap has_float whole ∙ no_float_put_in (codes "k") (string (base64url c.args.octets.now)) before refl c.requires)
    ∙ ap compact_text whole
