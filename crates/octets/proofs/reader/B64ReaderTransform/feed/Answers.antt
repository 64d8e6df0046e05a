use Rattle.std.proofs.Common.{rules, ◌≡◌, ℕ, ◌+◌, ◌-◌, ◌*◌, ◌/◌, List, ◌++◌, ◌∙◌, Err, length, take, drop, ap, sym, arith}
use Rattle.std.proofs.Math.Seq.{take-append_seam}
use Rattle.std.proofs.lemmas.List.{drop-take}
use Rattle.std.proofs.lemmas.Grind.{common_steps}
use Rattle.octets.specs.Base64url.{decoded}
use Rattle.octets.specs.Code.Streams.{settled, unsettled, settling, RefusesFrom}
use Rattle.octets.proofs.Agreement.{of_refusal}
use Rattle.octets.proofs.Decoding.{settled_adds, settled_refuses}
use Rattle.octets.proofs.Settling.{joined, settled_front, unsettled_front, unsettled-append}
use Rattle.octets.proofs.reader.B64ReaderTransform.feed.Goals.{After-saturating_sub}
use Rattle.octets.proofs.reader.B64ReaderTransform.feed.Goals as goal

-- The cells hold the waiting characters, followed by the piece.
text_is : (c : After-saturating_sub) → (take (c.self.inside.count + length c.args.piece.now) c.join.new.octets ≡ c.args.self.now ++ c.args.piece.now)
    × (length (c.args.self.now ++ c.args.piece.now) ≡ c.self.inside.count + length c.args.piece.now)
text_is c = joined c.self.inside.waiting c.join.new.octets c.args.piece.now c.args.self.now c.self.inside.count
    (omega (arith, c.self.told, c.self.invariant)) c.self.view_is c.join.ensures

-- The characters that are decoded are those that are settled now.
front_is : (c : After-saturating_sub) (p : List ℕ) → c.args.self.now ≡ unsettled p
    → take (c.saturating_sub.result / 4 * 4) c.join.new.octets ≡ settled (unsettled p ++ c.args.piece.now)
front_is c p fed =
    let text = text_is c in
    settled_front c.join.new.octets (c.args.self.now ++ c.args.piece.now) (c.self.inside.count + length c.args.piece.now)
    (c.saturating_sub.result / 4 * 4) text.0 text.1 (ap (λ n. n / 4 * 4) c.saturating_sub.ensures)
    ∙ ap (λ l. settled (l ++ c.args.piece.now)) fed

pub returns-in_err-len-clause-refused : goal.returns-in_err-len-clause-refused
returns-in_err-len-clause-refused c job p fed =
    let refused = c.in_err-len.ensures.refused in
    of_refusal (RefusesFrom settling (p ++ c.args.piece.now)) c.from_residual.result _ (search rules ∙ ap Err refused.0)
    (settled_refuses p c.args.piece.now (ap decoded (sym (front_is (goal.at.returns-in_err-len-clause-refused c).After-saturating_sub p fed.0)) ∙ refused.1))

pub returns-clause-fed : goal.returns-clause-fed
returns-clause-fed c job p fed octets =
    let piece = c.args.piece.now in
    let all = c.self.inside.count + length piece in
    let whole = c.saturating_sub.result / 4 * 4 in
    let at = (goal.at.returns-clause-fed c).After-saturating_sub in
    let text = text_is at in
    let back : all ≡ whole + (all - whole) = omega (arith, c.saturating_sub.ensures) in
    let part : drop whole (take all c.join.new.octets) ≡ c.copy_from_slice.new.self =
    ap (λ n. drop whole (take n c.join.new.octets)) back ∙ drop-take whole (all - whole) c.join.new.octets ∙ sym c.copy_from_slice.ensures.after in
    let len : length c.copy_from_slice.new.self ≡ all - whole = grind (arith, common_steps, c.copy_from_slice.ensures.len, c.join.array_long) in (
      rw (← len) (take-append_seam c.copy_from_slice.new.self _) ∙ sym part
          ∙ unsettled_front c.join.new.octets (c.args.self.now ++ piece) all whole text.0 text.1 (ap (λ n. n / 4 * 4) c.saturating_sub.ensures)
          ∙ ap (λ l. unsettled (l ++ piece)) fed.0 ∙ sym (unsettled-append p piece),
      (settled_adds p piece _ octets fed.1 (ap decoded (sym (front_is at p fed.0)) ∙ c.in_ok-len.ensures.octets)).0,
    )

pub returns-clause-text : goal.returns-clause-text
returns-clause-text c job p fed octets =
    (settled_adds p c.args.piece.now _ octets fed.1 (ap decoded (sym (front_is (goal.at.returns-clause-text c).After-saturating_sub p fed.0))
    ∙ c.in_ok-len.ensures.octets)).1
