use Rattle.std.proofs.Common.{rules, ◌≡◌, length, Err, sym, ap, subst, ◌∙◌}
use Rattle.octets.specs.Base64url.{decoded}
use Rattle.octets.specs.LineEnds.{without_line_end}
use Rattle.octets.specs.Octets.{IsOctets}
use Rattle.objects.proofs.ReceivedTexts.{as_long, none_with_line_end, meant_by, nothing_read, octets_read, piece_read, piece_refused, all_read}
use Rattle.objects.proofs.content.payload.check.Goals as goal

pub returns-in_err-needs : goal.returns-in_err-needs
returns-in_err-needs c =
    let none = none_with_line_end c.args.text.now c.are_octets.ensures in
    search (rules, none)

pub loop-piece-init : goal.loop-piece-init
loop-piece-init c = (search rules, nothing_read (search rules) c.start-reader.ensures)

pub loop-piece-preserved : goal.loop-piece-preserved
loop-piece-preserved c =
    let k = c.loop-piece.invariant.1 in
    let piece = c.in-Some.piece.now in
    let parts = c.in-Some.ensures.steps.1.0 in
    (search rules, piece_read k c.feed.new.self _ piece parts (c.in_ok-feed.ensures.fed tt k.front k.fed (octets_read k _ piece parts c.are_octets.ensures)))

pub returns-in_err-feed : goal.returns-in_err-feed
returns-in_err-feed c =
    let text = c.args.text.now in
    let k = c.loop-piece.invariant.1 in
    let long : length (without_line_end text) ≡ length text = search rules in
    let refused = piece_refused k _ c.in-Some.piece.now _ c.in-Some.ensures.steps.1.0 c.are_octets.ensures (c.in_err-feed.ensures.refused tt k.front k.fed) in
    let none : decoded text ≡ Err c.in_err-feed.field-0.0 = ap decoded (sym (as_long text long)) ∙ refused in
    search (rules, none)

pub returns-in_err-finish : goal.returns-in_err-finish
returns-in_err-finish c =
    let text = c.args.text.now in
    let k = c.loop-piece.invariant.1 in
    let long : length (without_line_end text) ≡ length text = search rules in
    let front : k.front ≡ text = all_read k c.in-None.ensures.steps.1.0 in
    let refused = c.in_err-finish.ensures.refused tt k.front k.fed (subst IsOctets (sym front) c.are_octets.ensures) in
    let none : decoded text ≡ Err c.in_err-finish.field-0.0 = ap decoded (sym (as_long text long) ∙ ap without_line_end (sym front)) ∙ refused in
    search (rules, none)

pub returns : goal.returns
returns c =
    let text = c.args.text.now in
    let k = c.loop-piece.invariant.1 in
    let long : length (without_line_end text) ≡ length text = search rules in
    let front : k.front ≡ text = all_read k c.in-None.ensures.steps.1.0 in
    let all = c.in_ok-finish.ensures.text tt k.front k.fed (subst IsOctets (sym front) c.are_octets.ensures) in
    meant_by text _ (ap decoded (sym (as_long text long) ∙ ap without_line_end (sym front)) ∙ all)
