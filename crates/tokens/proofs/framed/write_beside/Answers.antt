use Rattle.std.proofs.Common.{◌≡◌, rules, refl, inl, Err, ◌∙◌, List, String, Global, [], true, arith, length, map, string_bytes, sym, ap, subst}
use Rattle.std.proofs.lemmas.List.{length-map}
use Rattle.octets.specs.Devices.{appended, next_count, AppendsPrefixOf}
use Rattle.octets.specs.Octets.{IsOctets}
use Rattle.octets.specs.declared.refusal.Refusal.TheVariants.{Read, Write}
use Rattle.octets.specs.Plan.{OutputTexts, Plan}
use Rattle.octets.proofs.Lemmas.{stands_first, IsOctets-drop, kept_up_by_none, AppendsPrefixOf-all, AppendsPrefixOf-kept, at_refusal, on_refusal, on_success, seen_possible, agrees_last, behind_nothing, beginning_behind_nothing, keeps_up, if_weaker}
use Rattle.tokens.specs.Code.Framing.{FillsFrame}
use Rattle.tokens.proofs.Framing.{IsWhole, is_whole, beside_is, beside_fixed, beside_whole, beside_stands, text_is, beside_answer}
use Rattle.tokens.proofs.Streamed.{not_memory_last, not_read_last, text_failed}
use Rattle.tokens.proofs.framed.write_beside.Given.{Over}
use Rattle.tokens.proofs.framed.write_beside.Goals.{In_ok-rest}
use Rattle.tokens.proofs.framed.write_beside.Goals as goal

-- the plan fills the frame of these texts
abbrev Framed : (g : Over) → g.row.T.Denot → List (String Global) → Plan OutputTexts → Type 0
Framed g transform texts plan = FillsFrame g.T.Transform.is_fed g.T.Transform.plan g.T.Transform.is_left g.T.Rest.Values.gives true transform
    (map string_bytes texts) plan

-- The input that was read is octets.
read : (g : Over) (old new : g.row.I.Denot) → IsOctets (appended (g.I.Input.consumed old) (g.I.Input.consumed new))
read g old new = IsOctets-drop (length (g.I.Input.consumed old)) _ (g.met.I.Input.gives_octets new)

-- All of the content was written.
whole : (g : Over) (c : In_ok-rest g) (plan : Plan OutputTexts) (f : Framed g c.args.transform c.args.texts.now plan)
    → IsWhole [] (g.T.Transform.plan f.job) (appended (g.I.Input.consumed c.args.content.now) (g.I.Input.consumed c.pump.new.content))
    (g.O.Output.written c.args.detached.now) (g.O.Output.written c.pump.new.out)
whole g c plan f =
    let pumped = c.in_ok-rest.ensures in
    is_whole _ _ _ _ _ (pumped.answer f.job _ f.fed (seen_possible g.I.Input.consumed g.I.Input.is_at_end c.args.content.now c.pump.new.content)) pumped.extends

pub returns-in_err-rest-clause-streams : goal.returns-in_err-rest-clause-streams
returns-in_err-rest-clause-streams g c plan f =
    let e = c.in_err-rest.field-0.0 in
    let refused = c.in_err-rest.ensures in
    let content = g.T.Transform.plan f.job in
    let fixed = beside_fixed content f.values plan _ f.framing in
    let is : c.from_residual.result ≡ Err e = search rules in
    rw is (record {
      answer = λ payload may inside. f.framing.refused payload e (sym (behind_nothing content payload) ∙ refused.answer f.job payload f.fed may inside);
      beginning = AppendsPrefixOf-kept _ _;
      beginning_of_content = subst (λ t. AppendsPrefixOf t (g.O.Output.written c.args.detached.now) (g.O.Output.written c.pump.new.out))
          (beginning_behind_nothing content _ _ ∙ beside_is content f.values plan _ f.framing _ _ (read g c.args.content.now c.pump.new.content))
          (refused.beginning f.job f.fed f.framing.grows);
      finished = tt;
      unfinished = refl;
      keeps_up = λ told some. let failed : e ≡ Read = cc in (
        kept_up_by_none _ (λ q. (fixed q).0) _ (g.O.Output.written c.args.out.now),
        keeps_up content f.framing.grows _ (λ q. (fixed q).1) _ (g.O.Output.written c.args.detached.now) _ (refused.stands f.job f.fed (ap Err failed) some),
      );
      content_last = λ refusal none. cc;
      uncut = (λ spared same. refl, refused.uncut);
      content_first = inl (refl, c.pump.ensures.endings);
      memory_first = λ memory. absurd (refused.no_memory memory);
      unread = λ nothing. (λ spared. refl, λ others. refused.unread others nothing);
    })

pub returns-in_err-finish-clause-streams : goal.returns-in_err-finish-clause-streams
returns-in_err-finish-clause-streams g c plan f =
    let at = (goal.at.returns-in_err-finish-clause-streams g c).In_ok-rest in
    let stands = beside_stands _ _ plan _ f.framing _ _ _ _ (read g c.args.content.now c.pump.new.content) c.in_ok-rest.ensures.ends (whole g at plan f) in
    let is : c.from_residual-in_err-finish.result ≡ Err Write = search rules in
    rw is (record {
      answer = λ payload may inside. cc;
      beginning = AppendsPrefixOf-kept _ _;
      beginning_of_content = AppendsPrefixOf-all _ _ _ (c.finish.ensures.does.same ∙ stands);
      finished = tt;
      unfinished = refl;
      keeps_up = λ told some. cc;
      content_last = λ refusal none. cc;
      uncut = (λ spared same. refl, λ others same. absurd (others refl));
      content_first = inl (refl, c.in_err-finish.ensures.does.kept.1 ∙ c.pump.ensures.endings);
      memory_first = λ memory. cc;
      unread = λ nothing. (λ spared. refl, λ others. absurd (others refl));
    })

pub write-requires : goal.write-requires
write-requires g c =
    let f = c.requires.framed.1 in
    let given = f.left c.in_ok-rest.rest _ (c.in_ok-rest.ensures.left f.job f.fed) in
    let many = g.met.T.Rest.Values.as_many c.in_ok-rest.rest _ given in
    omega (
      arith,
      f.framing.places (appended (g.I.Input.consumed c.args.content.now) (g.I.Input.consumed c.pump.new.content)),
      many,
      length-map c.args.texts.now string_bytes,
    )

pub returns-clause-streams : goal.returns-clause-streams
returns-clause-streams g c plan f =
    let at = (goal.at.returns-clause-streams g c).In_ok-rest in
    let w = whole g at plan f in
    let octets = read g c.args.content.now c.pump.new.content in
    let pumped = c.in_ok-rest.ensures in
    let given = f.left c.in_ok-rest.rest _ (pumped.left f.job f.fed) in
    let finished = c.in_ok-finish.ensures.does.finished in
    let r = c.write.result in
    let told = c.write.ensures in
    let failed = λ (P Q : Type 0). text_failed P Q g.O.Output.failures c.args.out.now c.args.out.now c.write.new.out r refl told.cause told.faults in
    record {
      answer = λ payload may. agrees_last _ _ r (told.all _ given) told.cause
          (λ all. beside_answer _ _ plan _ f.framing _ _ _ _ octets pumped.ends (subst (IsWhole [] _ _ _) (sym c.finish.ensures.does.same) w) payload _ _ may all);
      beginning = let is = text_is _ _ plan _ f.framing _ _ _ _ octets pumped.ends w in
          on_refusal r (told.beginning _ given) (λ part. subst
          (λ t. AppendsPrefixOf t (g.O.Output.written c.args.out.now) (g.O.Output.written c.write.new.out)) is part);
      beginning_of_content = at_refusal r (AppendsPrefixOf-all _ _ _ (c.finish.ensures.does.same ∙ beside_stands _ _ plan _ f.framing _ _ _ _ octets pumped.ends w));
      finished = on_success r told.finished (λ done. (done, (finished.0, finished.1 ∙ ap next_count c.pump.ensures.endings)));
      unfinished = told.unfinished;
      keeps_up = λ is some. absurd (not_read_last r told.cause is);
      content_last = λ refusal none. cc;
      uncut = failed (g.O.Output.written c.write.new.out ≡ g.O.Output.written c.args.out.now → c.write.new.out ≡ c.args.out.now)
          (g.O.Output.written c.finish.new.self ≡ g.O.Output.written c.args.detached.now → c.finish.new.self ≡ c.args.detached.now);
      content_first = stands_first _ r pumped.ends (finished.0, finished.1 ∙ ap next_count c.pump.ensures.endings)
          (_, beside_whole _ _ plan _ f.framing _ _ _ _ octets pumped.ends w, c.finish.ensures.does.same ∙ w.written);
      memory_first = not_memory_last _ r told.cause;
      unread = if_weaker r _ _ (failed (c.write.new.out ≡ c.args.out.now) (c.finish.new.self ≡ c.args.detached.now)) (λ e none nothing. none);
    }
