use Rattle.std.proofs.Common.{Ok, refl, rules}
use Rattle.std.proofs.Math.Seq.{drop-length}
use Rattle.octets.specs.Devices.{appended, observed}
use Rattle.octets.specs.Encoding.{decoding}
use Rattle.octets.specs.Plan.{plan_map}
use Rattle.octets.proofs.Lemmas.{decoding_fixes_nothing, AppendsPrefixOf-none, kept_up_by_none, on_success, on_refusal, plan_from-by_plan, unread_untouched, if_weaker}
use Rattle.jose.specs.Ports.{as_content}
use Rattle.jose.proofs.Agreement.{agrees_as_content, beginning_map}
use Rattle.jose.proofs.Draws.{none_drawn, nothing_drawn}
use Rattle.jose.proofs.commands.b64.decode.Goals as goal

pub returns : goal.returns
returns g c =
    let r = c.decode_text.result in
    let random = g.I.Input.consumed c.args.inputs.now.random in
    let content = observed g.I.Input.consumed g.I.Input.is_at_end c.args.inputs.now.text c.decode_text.new.text in
    let drawn = nothing_drawn random in
    rw c.requires.command (record {
      answer = λ inputs may. rw (plan_from-by_plan (Ok (plan_map as_content decoding)) inputs.random)
          (agrees_as_content _ _ _ _ (drop-length (g.O.Output.written c.args.outputs.now.text)) (c.decode_text.ensures.answer inputs.text may.text));
      drawn = on_success r c.decode_text.ensures.finished (λ done inputs may. drawn);
      at_most = λ inputs may. none_drawn random _;
      beginning = on_refusal r c.decode_text.ensures.beginning
          (λ part. rw (
            plan_from-by_plan (Ok (plan_map as_content decoding)) (appended random random),
            beginning_map as_content decoding content.octets content.ended,
          ) (record { text = AppendsPrefixOf-none _ _ refl; content = part }));
      held_back = search rules;
      uncut = search rules;
      unread = if_weaker r _ _ (unread_untouched g.O.Output.written c.args.outputs.now.content c.decode_text.new.out decoding content r decoding_fixes_nothing
          c.decode_text.ensures.beginning c.decode_text.ensures.uncut)
          (λ e untouched streams nothing. record { text = λ spared. refl; content = λ others. untouched nothing others });
      keeps_up = λ told. rw (plan_from-by_plan (Ok (plan_map as_content decoding)) (appended random random))
          (λ streams some. (
            kept_up_by_none _ (λ q. refl) content.octets (g.O.Output.written c.args.outputs.now.text),
            c.decode_text.ensures.keeps_up told some,
          ));
      content_first = search rules;
      in_order = search rules;
      reads_first = search rules;
      random_first = search rules;
      memory_first = search rules;
      content_last = search rules;
      finished = search rules;
      unfinished = search rules;
      untouched = search rules;
      faults = search rules;
    })
