use Rattle.std.proofs.Common.{◌≡◌, rules, List, String, Global, [], ◌∷◌, ◌∙◌, false, length, map, string_bytes, Err, sym, ap, subst, arith}
use Rattle.std.proofs.lemmas.List.{length-map}
use Rattle.octets.specs.declared.refusal.Refusal.TheVariants.{Read}
use Rattle.octets.specs.Devices.{appended, next_count}
use Rattle.octets.specs.Faults.{counts}
use Rattle.octets.specs.Octets.{IsOctets}
use Rattle.octets.specs.Plan.{OutputTexts, Plan}
use Rattle.octets.specs.Code.Streams.{behind}
use Rattle.octets.proofs.Lemmas.{not_told, IsOctets-drop, at_refusal, on_refusal, on_success, seen_possible, agrees_last, behind_grows, behind_refused, keeps_up, if_weaker}
use Rattle.tokens.specs.Code.Framing.{FillsFrame, IsFraming}
use Rattle.tokens.proofs.Framing.{IsWhole, is_whole, inside_part, inside_fixed, inside_values_part, inside_answer}
use Rattle.tokens.proofs.Streamed.{not_memory_last, not_read_last, text_failed}
use Rattle.tokens.proofs.framed.write_inside.Given.{Over}
use Rattle.tokens.proofs.framed.write_inside.Goals.{After-as_bytes, In_ok-rest}
use Rattle.tokens.proofs.framed.write_inside.Goals as goal

-- the plan fills the frame of these texts
abbrev Framed : (g : Over) → g.row.T.Denot → List (String Global) → Plan OutputTexts → Type 0
Framed g transform texts plan = FillsFrame g.T.Transform.is_fed g.T.Transform.plan g.T.Transform.is_left g.T.Rest.Values.gives false transform
    (map string_bytes texts) plan

framing : (g : Over) (c : After-as_bytes g) (plan : Plan OutputTexts) (f : Framed g c.args.transform c.args.texts.now plan)
    → IsFraming false (c.as_bytes.result.now ∷ map string_bytes c.in-Some.others.now) (g.T.Transform.plan f.job) f.values plan
framing g c plan f =
    subst (λ t. IsFraming false t (g.T.Transform.plan f.job) f.values plan)
    (ap (map string_bytes) c.in-Some.ensures.cases.0 ∙ ap (λ t. t ∷ map string_bytes c.in-Some.others.now) (sym c.as_bytes.ensures.value)) f.framing

-- The input that was read is octets.
read : (g : Over) (old new : g.row.I.Denot) → IsOctets (appended (g.I.Input.consumed old) (g.I.Input.consumed new))
read g old new = IsOctets-drop (length (g.I.Input.consumed old)) _ (g.met.I.Input.gives_octets new)

-- All of the content was written.
whole : (g : Over) (c : In_ok-rest g) (plan : Plan OutputTexts) (f : Framed g c.args.transform c.args.texts.now plan)
    → IsWhole c.as_bytes.result.now (g.T.Transform.plan f.job) (appended (g.I.Input.consumed c.args.content.now) (g.I.Input.consumed c.pump.new.content))
    (g.O.Output.written c.args.out.now) (g.O.Output.written c.pump.new.out)
whole g c plan f =
    let pumped = c.in_ok-rest.ensures in
    is_whole _ _ _ _ _ (pumped.answer f.job _ f.fed (seen_possible g.I.Input.consumed g.I.Input.is_at_end c.args.content.now c.pump.new.content)) pumped.extends

pub unreachable-requires : goal.unreachable-requires
unreachable-requires g c =
    let f = c.requires.framed.1.framing in
    omega (arith, f.places [], length-map c.args.texts.now string_bytes, c.in_default.ensures.cases)

pub returns-in_err-rest-clause-streams : goal.returns-in_err-rest-clause-streams
returns-in_err-rest-clause-streams g c plan f =
    let h = framing g (goal.at.returns-in_err-rest-clause-streams g c).After-as_bytes plan f in
    let e = c.in_err-rest.field-0.0 in
    let refused = c.in_err-rest.ensures in
    let first = c.as_bytes.result.now in
    let content = g.T.Transform.plan f.job in
    let counted = counts g.O.Output.failures c.args.out.now c.pump.new.out in
    let is : c.from_residual.result ≡ Err e = search rules in
    rw is (record {
      answer = λ payload may inside. h.refused payload e (behind_refused first content payload e (refused.answer f.job payload f.fed may inside));
      beginning = inside_part _ _ plan _ _ h _ _ _ _ (read g c.args.content.now c.pump.new.content) (refused.beginning f.job f.fed h.grows);
      beginning_of_content = tt;
      finished = tt;
      unfinished = c.pump.ensures.endings;
      keeps_up = λ told some. let failed : e ≡ Read = cc in (
        keeps_up (behind first content) (behind_grows first content h.grows) _ (inside_fixed content f.values plan first _ h) _
            (g.O.Output.written c.args.out.now) _ (refused.stands f.job f.fed (ap Err failed) some),
        tt,
      );
      content_last = λ refusal none. cc;
      uncut = (λ spared same. refused.uncut (not_told e counted (λ w. refused.faults.write (ap Err w)) spared) same, tt);
      content_first = tt;
      memory_first = λ memory. absurd (refused.no_memory memory);
      unread = λ nothing. (λ spared. refused.unread (not_told e counted (λ w. refused.faults.write (ap Err w)) spared) nothing, tt);
    })

pub write-requires : goal.write-requires
write-requires g c =
    let f = c.requires.framed.1 in
    let given = f.left c.in_ok-rest.rest _ (c.in_ok-rest.ensures.left f.job f.fed) in
    let many = g.met.T.Rest.Values.as_many c.in_ok-rest.rest _ given in
    omega (
      arith,
      f.framing.places (appended (g.I.Input.consumed c.args.content.now) (g.I.Input.consumed c.pump.new.content)),
      many,
      length-map c.args.texts.now string_bytes,
      c.in-Some.ensures.cases.1,
    )

pub returns-clause-streams : goal.returns-clause-streams
returns-clause-streams g c plan f =
    let h = framing g (goal.at.returns-clause-streams g c).After-as_bytes plan f in
    let w = whole g (goal.at.returns-clause-streams g c).In_ok-rest plan f in
    let octets = read g c.args.content.now c.pump.new.content in
    let pumped = c.in_ok-rest.ensures in
    let given = f.left c.in_ok-rest.rest _ (pumped.left f.job f.fed) in
    let r = c.write.result in
    let told = c.write.ensures in
    let failed = λ (P : Type 0). text_failed P Unit g.O.Output.failures c.args.out.now c.pump.new.out c.write.new.out r pumped.faults.works.1.0
    told.cause told.faults in
    record {
      answer = λ payload may. agrees_last _ _ r (told.all _ given) told.cause
          (λ all. inside_answer _ _ plan _ _ h _ _ _ _ octets pumped.ends w payload _ may all);
      beginning = on_refusal r (told.beginning _ given) (λ part. inside_values_part _ _ plan _ _ h _ _ _ _ octets pumped.ends w _ part);
      beginning_of_content = at_refusal r tt;
      finished = on_success r told.finished (λ done. ((done.0, done.1 ∙ ap next_count c.pump.ensures.endings), tt));
      unfinished = on_refusal r told.unfinished (λ same. same ∙ c.pump.ensures.endings);
      keeps_up = λ is some. absurd (not_read_last r told.cause is);
      content_last = λ refusal none. cc;
      uncut = if_weaker r _ _ (failed (g.O.Output.written c.write.new.out ≡ g.O.Output.written c.args.out.now → c.write.new.out ≡ c.args.out.now))
          (λ e none. (none.0, tt));
      content_first = at_refusal r tt;
      memory_first = not_memory_last _ r told.cause;
      unread = if_weaker r _ _ (failed (c.write.new.out ≡ c.args.out.now)) (λ e none nothing. (none.0, tt));
    }
