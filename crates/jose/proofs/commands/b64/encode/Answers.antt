use Rattle.std.proofs.Common.{◌≡◌, ◌≢◌, [], Ok, refl, rules}
use Rattle.std.proofs.Math.Seq.{drop-length}
use Rattle.octets.specs.declared.refusal.Refusal.TheVariants.{Write}
use Rattle.octets.specs.Devices.{appended, observed}
use Rattle.octets.specs.Encoding.{encoding}
use Rattle.octets.specs.Plan.{plan_map}
use Rattle.octets.proofs.Lemmas.{encoding_fixes_nothing, AppendsPrefixOf-none, kept_up_by_none, on_success, on_refusal, plan_from-by_plan, unread_untouched, if_weaker}
use Rattle.jose.specs.Ports.{as_text}
use Rattle.jose.proofs.Agreement.{agrees_as_text, beginning_map}
use Rattle.jose.proofs.Draws.{none_drawn, nothing_drawn}
use Rattle.jose.proofs.Spared.{spared_alone}
use Rattle.jose.proofs.commands.b64.encode.Goals as goal

pub returns : goal.returns
returns g c =
    let r = c.encode_content.result in
    let random = g.I.Input.consumed c.args.inputs.now.random in
    let content = observed g.I.Input.consumed g.I.Input.is_at_end c.args.inputs.now.content c.encode_content.new.content in
    let drawn = nothing_drawn random in
    let untouched = spared_alone g.O.Output.failures c.args.outputs.now.text c.encode_content.new.out
    (content.octets ≡ [] → c.encode_content.new.out ≡ c.args.outputs.now.text) r c.encode_content.ensures.faults
    (if_weaker r _ (λ e. e ≢ Write → content.octets ≡ [] → c.encode_content.new.out ≡ c.args.outputs.now.text)
    (unread_untouched g.O.Output.written c.args.outputs.now.text c.encode_content.new.out encoding content r encoding_fixes_nothing
    c.encode_content.ensures.beginning c.encode_content.ensures.uncut)
    (λ e untouched others nothing. untouched nothing others)) in
    rw c.requires.command (record {
      answer = λ inputs may. rw (plan_from-by_plan (Ok (plan_map as_text encoding)) inputs.random)
          (agrees_as_text _ _ _ _ (drop-length (g.O.Output.written c.args.outputs.now.content)) (c.encode_content.ensures.answer inputs.content may.content));
      drawn = on_success r c.encode_content.ensures.finished (λ done inputs may. drawn);
      at_most = λ inputs may. none_drawn random _;
      beginning = on_refusal r c.encode_content.ensures.beginning
          (λ part. rw (plan_from-by_plan (Ok (plan_map as_text encoding)) (appended random random), beginning_map as_text encoding content.octets content.ended)
          (record { text = part; content = AppendsPrefixOf-none _ _ refl }));
      held_back = search rules;
      uncut = search rules;
      unread = if_weaker r _ _ untouched (λ e untouched streams nothing. record { text = λ spared. untouched spared nothing; content = λ others. refl });
      keeps_up = λ told. rw (plan_from-by_plan (Ok (plan_map as_text encoding)) (appended random random))
          (λ streams some. (
            c.encode_content.ensures.keeps_up told some,
            kept_up_by_none _ (λ q. refl) content.octets (g.O.Output.written c.args.outputs.now.content),
          ));
      content_first = search rules;
      in_order = search rules;
      reads_first = search rules;
      random_first = search rules;
      memory_first = search rules;
      content_last = search rules;
      finished = search rules;
      unfinished = search rules;
      untouched = search rules;
      faults = search rules;
    })
