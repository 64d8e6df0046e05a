use Rattle.std.proofs.Common.{rules, ◌≡◌, ◌++◌, refl, sym, ap, subst, ◌∙◌, append_assoc, append-nil}
use Rattle.octets.specs.Base64url.{decoded}
use Rattle.octets.specs.Code.Streams.{settled, settling_starts}
use Rattle.octets.specs.Devices.{next_count, AppendsPrefixOf}
use Rattle.octets.specs.Encoding.{octets_of_groups}
use Rattle.octets.specs.LineEnds.{without_line_end}
use Rattle.octets.specs.Octets.{IsOctets}
use Rattle.octets.proofs.Lemmas.{AppendsPrefixOf-part, on_success, at_refusal, on_refusal}
use Rattle.objects.specs.Code.Meaning.{meaning}
use Rattle.objects.proofs.ReceivedTexts.{means, nothing_read, octets_read, piece_read, piece_refused, piece_stands, all_read, all_written, behind}
use Rattle.objects.proofs.content.payload.write_meaning.Goals as goal

pub loop-piece-init : goal.loop-piece-init
loop-piece-init g c = (
  search rules,
  (
    nothing_read (search rules) c.start-reader.ensures,
    (sym (ap (λ t. g.O.Output.written c.args.out.now ++ t) settling_starts ∙ append-nil _), (refl, refl)),
  ),
)

pub unreachable-requires : goal.unreachable-requires
unreachable-requires g c =
    let text = c.args.text.now.text.now in
    let k = c.loop-piece.invariant.1.0 in
    let meant = means text c.args.text.now.is_octets c.args.text.now.is_text in
    let refused = piece_refused k _ c.in-Some.piece.now _ c.in-Some.ensures.steps.1.0 c.are_octets.ensures (c.in_default.ensures.refused tt k.front k.fed) in
    cc (sym refused ∙ meant)

pub loop-piece-preserved : goal.loop-piece-preserved
loop-piece-preserved g c =
    let i = c.loop-piece.invariant in
    let k = i.1.0 in
    let piece = c.in-Some.piece.now in
    let old = g.O.Output.written c.args.out.now in
    let parts = c.in-Some.ensures.steps.1.0 in
    let is = octets_read k _ piece parts c.are_octets.ensures in
    let adds = c.in-Ok.ensures.text tt k.front k.fed is in
    let wrote = c.in_ok-write_whole.ensures.all ∙ ap (λ t. t ++ c.in-Ok.octets.now) i.1.1.0
    ∙ append_assoc old (octets_of_groups (settled k.front)) c.in-Ok.octets.now ∙ ap (λ t. old ++ t) (sym adds) in (
      search rules,
      (
        piece_read k c.feed.new.self _ piece parts (c.in-Ok.ensures.fed tt k.front k.fed is),
        (wrote, (c.in_ok-write_whole.ensures.works ∙ i.1.1.1.0, c.write_whole.ensures.endings ∙ i.1.1.1.1)),
      ),
    )

pub returns-in_err-write_whole-clause-part : goal.returns-in_err-write_whole-clause-part
returns-in_err-write_whole-clause-part g c =
    let text = c.args.text.now.text.now in
    let i = c.loop-piece.invariant in
    let k = i.1.0 in
    let piece = c.in-Some.piece.now in
    let parts = c.in-Some.ensures.steps.1.0 in
    let out = g.O.Output.written c.loop-piece.out in
    let new = g.O.Output.written c.write_whole.new.out in
    let meant = means text c.args.text.now.is_octets c.args.text.now.is_text in
    let adds = c.in-Ok.ensures.text tt k.front k.fed (octets_read k _ piece parts c.are_octets.ensures) in
    let stands = AppendsPrefixOf-part c.in-Ok.octets.now out new _ c.in_err-write_whole.ensures.part.1 in
    at_refusal _ (piece_stands k _ piece c.in-Ok.octets.now (meaning text) (g.O.Output.written c.args.out.now) out new parts c.are_octets.ensures
    meant adds i.1.1.0 stands)

pub returns-in_err-write_whole-clause-fails : goal.returns-in_err-write_whole-clause-fails
returns-in_err-write_whole-clause-fails g c =
    let same = c.loop-piece.invariant.1.1.1.0 in
    search (rules, same)

pub returns-in_err-write_whole-clause-unfinished : goal.returns-in_err-write_whole-clause-unfinished
returns-in_err-write_whole-clause-unfinished g c = at_refusal _ (c.write_whole.ensures.endings ∙ c.loop-piece.invariant.1.1.1.1)

pub unreachable-requires-in_default-finish : goal.unreachable-requires-in_default-finish
unreachable-requires-in_default-finish g c =
    let text = c.args.text.now.text.now in
    let k = c.loop-piece.invariant.1.0 in
    let front : k.front ≡ text = all_read k c.in-None.ensures.steps.1.0 in
    let meant = means text c.args.text.now.is_octets c.args.text.now.is_text in
    let refused = c.in_default-finish.ensures.refused tt k.front k.fed (subst IsOctets (sym front) c.are_octets.ensures) in
    cc (sym refused ∙ ap (λ t. decoded (without_line_end t)) front ∙ meant)

pub returns-clause-all : goal.returns-clause-all
returns-clause-all g c =
    let i = c.loop-piece.invariant in
    let k = i.1.0 in
    let old = g.O.Output.written c.args.out.now in
    let last = c.in-Ok-finish.octets.now in
    let all = all_written k c.args.text.now.is_octets c.args.text.now.is_text c.are_octets.ensures last c.in-None.ensures.steps.1.0
    (c.in-Ok-finish.ensures.text tt k.front k.fed) in
    on_success c.emit.result c.emit.ensures.all (λ wrote. wrote ∙ ap (λ t. t ++ last) i.1.1.0 ∙ append_assoc old (octets_of_groups (settled k.front)) last
    ∙ ap (λ t. old ++ t) (sym all))

pub returns-clause-works : goal.returns-clause-works
returns-clause-works g c = on_success c.emit.result c.emit.ensures.works (λ same. same ∙ c.loop-piece.invariant.1.1.1.0)

pub returns-clause-part : goal.returns-clause-part
returns-clause-part g c =
    let i = c.loop-piece.invariant in
    let k = i.1.0 in
    let old = g.O.Output.written c.args.out.now in
    let new = g.O.Output.written c.emit.new.out in
    let last = c.in-Ok-finish.octets.now in
    let all = all_written k c.args.text.now.is_octets c.args.text.now.is_text c.are_octets.ensures last c.in-None.ensures.steps.1.0
    (c.in-Ok-finish.ensures.text tt k.front k.fed) in
    on_refusal c.emit.result c.emit.ensures.part (λ stands. subst (λ t. AppendsPrefixOf t old new) (sym all)
    (behind old (octets_of_groups (settled k.front)) last new (subst (λ o. AppendsPrefixOf last o new) i.1.1.0 stands)))

pub returns-clause-fails : goal.returns-clause-fails
returns-clause-fails g c =
    let same = c.loop-piece.invariant.1.1.1.0 in
    search (rules, same)

pub returns-clause-finished : goal.returns-clause-finished
returns-clause-finished g c = on_success c.emit.result c.emit.ensures.finished (λ once. (once.0, once.1 ∙ ap next_count c.loop-piece.invariant.1.1.1.1))

pub returns-clause-unfinished : goal.returns-clause-unfinished
returns-clause-unfinished g c = on_refusal c.emit.result c.emit.ensures.unfinished (λ same. same ∙ c.loop-piece.invariant.1.1.1.1)
