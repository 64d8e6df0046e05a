use Rattle.std.proofs.Common.{rules, [], ◌≡◌, Ok, ◌++◌, take, sym, ◌∙◌, ap, append-nil, refl, subst, length, ◌≤◌, length-append, arith, List, ℕ}
use Rattle.octets.specs.Devices.{appended}
use Rattle.octets.specs.Code.Streams.{behind}
use Rattle.octets.proofs.Decoded.{IsOctets-take, IsOctets-append, IsOctets-nil}
use Rattle.octets.specs.Octets.{IsOctets}
use Rattle.std.proofs.Math.Seq.{drop-length}
use Rattle.octets.proofs.Agreement.{at_refusal}
use Rattle.octets.proofs.Prefixes.{AppendsPrefixOf-kept, AppendsPrefixOf-part, AppendsPrefixOf-front}
use Rattle.octets.proofs.Streaming.{Due, Last, last_may_stand, Stands-written, may_stand, untouched_more, read_more}
use Rattle.octets.proofs.Pumping.{behind_grows, behind_adds, behind_ends, behind_refuses, extends_itself, extended_by, octets_with, something_read, first_due, due_read, due_more, due_rest, refused_may_stand, last_due, last_rest, refused_all, agrees_err}
use Rattle.octets.proofs.transform.pump.Given.{Over}
use Rattle.octets.proofs.transform.pump.Goals.{In_ok-text, In_ok-text-2}
use Rattle.octets.proofs.transform.pump.Goals as goal

-- ---- a piece was read

-- The text that the transform returned is due after the text that already was.
text_due : (g : Over) (c : In_ok-text g) (job : g.T.Transform.Job) → g.T.Transform.is_fed c.args.transform job []
    → Due (behind c.args.before.now (g.T.Transform.plan job)) (g.I.Input.consumed c.args.content.now) (g.I.Input.consumed c.read_piece.new.content)
    (g.O.Output.written c.args.out.now) (g.O.Output.written c.pieces.out)
    (c.pieces.front.now ++ c.in_ok-text.text.now)
text_due g c job fed =
    let i = c.pieces.invariant in
    let is = IsOctets-take c.in_ok-n.n c.read_piece.new.buf c.in_ok-n.ensures.octets in
    due_more _ _ _ _ _ _ _ _ _ (i.due job fed) c.in_ok-n.ensures.piece is
    (behind_adds c.args.before.now (g.T.Transform.plan job) _ _ _ (c.in_ok-text.ensures.text job _ (i.fed job fed) (IsOctets-append _ _ i.octets is)))

-- ---- the end was found

no_more : (read now buf : List ℕ) (n : ℕ) → now ≡ read ++ take n buf → n ≡ 0 → now ≡ read
no_more read now buf n piece none = piece ∙ ap (λ n. read ++ take n buf) none ∙ append-nil read

-- The last text that the transform returned completes the answer.
last_text : (g : Over) (c : In_ok-text-2 g) (job : g.T.Transform.Job) → g.T.Transform.is_fed c.args.transform job []
    → Last (behind c.args.before.now (g.T.Transform.plan job)) (g.I.Input.consumed c.args.content.now) (g.I.Input.consumed c.read_piece.new.content)
    (g.O.Output.written c.args.out.now) (g.O.Output.written c.pieces.out)
    (c.pieces.front.now ++ c.in_ok-text-2.text.now)
last_text g c job fed =
    let i = c.pieces.invariant in
    subst (λ l. Last (behind c.args.before.now (g.T.Transform.plan job)) (g.I.Input.consumed c.args.content.now) l (g.O.Output.written c.args.out.now)
    (g.O.Output.written c.pieces.out) (c.pieces.front.now ++ c.in_ok-text-2.text.now))
    (sym (no_more _ _ _ _ c.in_ok-n.ensures.piece c.if-n-eq0.true))
    (last_due _ _ _ _ _ _ _ (i.due job fed) (behind_ends c.args.before.now (g.T.Transform.plan job) _ _
    (c.in_ok-text-2.ensures.text job _ (i.fed job fed) i.octets)))

-- ---- every way to return

pub returns-in_err-n-clause-beginning : goal.returns-in_err-n-clause-beginning
returns-in_err-n-clause-beginning g c job fed grows =
    at_refusal _ (may_stand _ (behind_grows _ _ grows) _ _ _ _ _ _ _ (due_read _ _ _ _ _ _ _ (c.pieces.invariant.due job fed) c.in_err-n.ensures.fails.0)
    (AppendsPrefixOf-kept _ _))

pub returns-in_err-text-clause-answer : goal.returns-in_err-text-clause-answer
returns-in_err-text-clause-answer g c job whole fed possible =
    let i = c.pieces.invariant in
    let is = IsOctets-take c.in_ok-n.n c.read_piece.new.buf c.in_ok-n.ensures.octets in
    let none = refused_all (g.T.Transform.plan job) _ _ _ _ whole _ _ i.extends i.octets c.in_ok-n.ensures.piece is
    (c.in_err-text.ensures.refused job _ (i.fed job fed)) possible in
    agrees_err _ _ _ _ (search rules) (behind_refuses c.args.before.now (g.T.Transform.plan job) whole _ none)

pub returns-in_err-text-clause-beginning : goal.returns-in_err-text-clause-beginning
returns-in_err-text-clause-beginning g c job fed grows =
    let is = IsOctets-take c.in_ok-n.n c.read_piece.new.buf c.in_ok-n.ensures.octets in
    at_refusal _ (refused_may_stand _ (behind_grows _ _ grows) _ _ _ _ _ _ _ _ (c.pieces.invariant.due job fed) c.in_ok-n.ensures.piece is)

pub returns-in_err-write_whole-clause-beginning : goal.returns-in_err-write_whole-clause-beginning
returns-in_err-write_whole-clause-beginning g c job fed grows =
    let due = text_due g (goal.at.returns-in_err-write_whole-clause-beginning g c).In_ok-text job fed in
    at_refusal _ (may_stand _ (behind_grows _ _ grows) _ _ _ _ _ _ _ due
    (AppendsPrefixOf-front _ _ _ _ (AppendsPrefixOf-part _ _ _ _ c.in_err-write_whole.ensures.part.1)))

pub returns-in_err-write_whole-2-clause-beginning : goal.returns-in_err-write_whole-2-clause-beginning
returns-in_err-write_whole-2-clause-beginning g c job fed grows =
    let due = text_due g (goal.at.returns-in_err-write_whole-2-clause-beginning g c).In_ok-text job fed in
    at_refusal _ (may_stand _ (behind_grows _ _ grows) _ _ _ _ _ _ _ (due_rest _ _ _ _ _ _ _ _ due c.in_ok-write_whole.ensures.all)
    (AppendsPrefixOf-part _ _ _ _ c.in_err-write_whole-2.ensures.part.1))

pub pieces-preserved : goal.pieces-preserved
pieces-preserved g c =
    let i = c.pieces.invariant in
    let consumed = g.I.Input.consumed in
    let written = g.O.Output.written in
    let first = consumed c.args.content.now in
    let more = c.in_ok-n.ensures.piece in
    let text = c.in_ok-text.text.now in
    let is = IsOctets-take c.in_ok-n.n c.read_piece.new.buf c.in_ok-n.ensures.octets in
    let same = read_more first (consumed c.pieces.content) (consumed c.read_piece.new.content) _ i.extends more in
    let out2 = written c.write_whole.new.out in
    let wrote_front = c.in_ok-write_whole.ensures.all in
    let wrote_text = c.in_ok-write_whole-2.ensures.all in
    let longer : length (written c.args.out.now) ≤ length out2 =
    omega (arith, i.grown, ap length wrote_front, length-append (written c.pieces.out) c.pieces.front.now) in
    record {
      extends = extended_by first _ _ _ i.extends more;
      octets = octets_with first _ _ _ i.extends i.octets more is;
      due = λ job fed. Stands-written _ _ _ _ _ text _ (due_rest _ _ _ _ _ _ _ _ (text_due g (goal.at.pieces-preserved g c).In_ok-text job fed) wrote_front)
          wrote_text;
      fed = λ job fed. subst (g.T.Transform.is_fed c.feed.new.self job) (sym same)
          (c.in_ok-text.ensures.fed job _ (i.fed job fed) (IsOctets-append _ _ i.octets is));
      front_written = λ some. refl;
      unread = λ none. absurd (something_read c.in_ok-n.n c.read_piece.new.buf _ _ c.if-n-eq0.false (search rules) same none);
      longer = extended_by _ out2 _ text (extended_by _ _ out2 c.pieces.front.now i.longer wrote_front) wrote_text;
      grown = omega (arith, longer, ap length wrote_text, length-append out2 text);
      untouched = untouched_more written c.args.out.now c.write_whole.new.out c.write_whole-in-pieces.new.out text longer
          (untouched_more written c.args.out.now c.pieces.out c.write_whole.new.out c.pieces.front.now i.grown i.untouched wrote_front
          c.write_whole.ensures.nothing)
          wrote_text c.write_whole-in-pieces.ensures.nothing;
      source = c.read_piece.ensures.same_source ∙ i.source;
      read = c.in_ok-n.ensures.works ∙ i.read;
      wrote = c.in_ok-write_whole-2.ensures.works ∙ c.in_ok-write_whole.ensures.works ∙ i.wrote;
      endings = c.write_whole-in-pieces.ensures.endings ∙ c.write_whole.ensures.endings ∙ i.endings;
      finite = c.read_piece.ensures.nearer.0;
    }

pub returns-in_err-text-2-clause-beginning : goal.returns-in_err-text-2-clause-beginning
returns-in_err-text-2-clause-beginning g c job fed grows =
    let stay = no_more _ _ _ _ c.in_ok-n.ensures.piece c.if-n-eq0.true in
    at_refusal _ (may_stand _ (behind_grows _ _ grows) _ _ _ _ _ _ _ (due_read _ _ _ _ _ _ _ (c.pieces.invariant.due job fed) stay) (AppendsPrefixOf-kept _ _))

pub returns-in_err-write_whole-3-clause-beginning : goal.returns-in_err-write_whole-3-clause-beginning
returns-in_err-write_whole-3-clause-beginning g c job fed grows =
    let all = last_text g (goal.at.returns-in_err-write_whole-3-clause-beginning g c).In_ok-text-2 job fed in
    let ended = c.read_piece.ensures.end (c.in_ok-n.was ∙ ap Ok c.if-n-eq0.true) in
    at_refusal _ (last_may_stand _ _ _ _ _ _ _ _ all ended (AppendsPrefixOf-front _ _ _ _ (AppendsPrefixOf-part _ _ _ _ c.in_err-write_whole-3.ensures.part.1)))

pub returns-in_err-write_whole-4-clause-beginning : goal.returns-in_err-write_whole-4-clause-beginning
returns-in_err-write_whole-4-clause-beginning g c job fed grows =
    let all = last_text g (goal.at.returns-in_err-write_whole-4-clause-beginning g c).In_ok-text-2 job fed in
    let ended = c.read_piece.ensures.end (c.in_ok-n.was ∙ ap Ok c.if-n-eq0.true) in
    at_refusal _ (last_may_stand _ _ _ _ _ _ _ _ (last_rest _ _ _ _ _ _ _ _ all c.in_ok-write_whole-3.ensures.all) ended
    (AppendsPrefixOf-part _ _ _ _ c.in_err-write_whole-4.ensures.part.1))

pub pieces-init : goal.pieces-init
pieces-init g c =
    let consumed = g.I.Input.consumed c.args.content.now in
    let written = g.O.Output.written c.args.out.now in
    let none : appended consumed consumed ≡ [] = drop-length consumed in
    record {
      extends = extends_itself consumed;
      octets = subst IsOctets (sym none) IsOctets-nil;
      due = λ job fed. first_due c.args.before.now (g.T.Transform.plan job) consumed written (g.met.T.Transform.starts_with_nothing c.args.transform job fed);
      fed = λ job fed. subst (g.T.Transform.is_fed c.args.transform job) (sym none) fed;
      front_written = λ some. absurd (some none);
      unread = λ none. refl;
      longer = extends_itself written;
      grown = omega arith;
      untouched = λ same. refl;
      source = refl;
      read = refl;
      wrote = refl;
      endings = refl;
      finite = c.requires;
    }
