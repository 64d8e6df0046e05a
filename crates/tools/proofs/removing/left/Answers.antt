use Rattle.std.proofs.Common.{◌∙◌, Vec, Global, map, string_bytes, ap, sym}
use Rattle.serde_json.specs.View.{items_view}
use Rattle.serde_json.specs.Written.{items_have_float}
use Rattle.serde_json.specs.declared.value.Value.{Value}
use Rattle.tools.proofs.LeftObjects.{all_left, no_float_left, is_kept, is_left_out, is_past}
use Rattle.tools.proofs.removing.left.Goals as goal
use Rattle.tools.proofs.removing.left.Goals.{then-i-objects+then-not-is_named+in_ok-clone+in_ok-push, else-i-objects, else-i-objects-via-then-i-objects+else-not-is_named, else-i-objects-via-else-i-objects}

pub loop-i-preserved : goal.loop-i-preserved
loop-i-preserved c =
    let names = map string_bytes c.args.names.now in
    let prints = c.args.prints.now in
    let objects = c.args.objects.now in
    elim c.if-i-objects.branch [
      | then-i-objects+then-not-is_named+in_ok-clone+in_ok-push w ↦ is_kept names prints objects c.loop-i.kept.items _ c.loop-i.i c.index-prints-i.result
          w.index-objects-i.result w.in_ok-clone.field-0 c.loop-i-test.true c.index-prints-i.is w.if-i-objects.true w.index-objects-i.is
          (sym w.is_named.ensures ∙ w.if-not-is_named.true) w.in_ok-clone.ensures.cases
          (ap (λ (v : Vec Value Global). v.items) w.kept-is ∙ w.in_ok-push.ensures.items)
          ∙ c.loop-i.invariant
      | else-i-objects w ↦ elim w.else-i-objects.branch [
        | else-i-objects-via-then-i-objects+else-not-is_named v ↦ is_left_out names prints objects c.loop-i.kept.items _ c.loop-i.i c.index-prints-i.result
            c.loop-i-test.true c.index-prints-i.is v.if-i-objects.true (sym v.is_named.ensures ∙ v.if-not-is_named.false)
            (ap (λ (v : Vec Value Global). v.items) w.kept-is) ∙ c.loop-i.invariant
        | else-i-objects-via-else-i-objects v ↦ is_past names prints objects c.loop-i.kept.items _ c.loop-i.i v.if-i-objects.false
            (ap (λ (v : Vec Value Global). v.items) w.kept-is) ∙ c.loop-i.invariant
      ]
    ]

pub returns-clause-objects : goal.returns-clause-objects
returns-clause-objects c = all_left (map string_bytes c.args.names.now) c.args.prints.now c.args.objects.now c.loop-i.kept.items c.loop-i.i
    c.loop-i-test.false c.loop-i.invariant

pub returns-clause-no_float : goal.returns-clause-no_float
returns-clause-no_float c = ap items_have_float (all_left (map string_bytes c.args.names.now) c.args.prints.now c.args.objects.now c.loop-i.kept.items c.loop-i.i
    c.loop-i-test.false c.loop-i.invariant) ∙ no_float_left (map string_bytes c.args.names.now) c.args.prints.now (items_view c.args.objects.now) c.requires
