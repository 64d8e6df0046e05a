use Rattle.std.proofs.Common.{◌≡◌, ◌+◌, ◌-◌, ◌*◌, ◌/◌, ◌++◌, ◌∙◌, length, take, drop, ap, sym, arith, length-append}
use Rattle.std.proofs.Math.Seq.{take-append_seam}
use Rattle.std.proofs.lemmas.List.{length-take-le, drop-take}
use Rattle.std.proofs.lemmas.Grind.{common_steps}
use Rattle.octets.specs.Base64url.{base64url, whole_groups}
use Rattle.octets.specs.Code.Streams.{part_group}
use Rattle.octets.proofs.Groups.{whole_front, part_front, part-append, base64url_whole-append}
use Rattle.octets.proofs.writer.B64Writer.feed.Goals as goal

module _ (c : goal.After-copy_from_slice) where
  held : length (take c.self.inside.count c.self.inside.waiting) ≡ c.self.inside.count
  held = length-take-le c.self.inside.count c.self.inside.waiting (omega (arith, c.self.told, c.self.invariant))

  joined : take (c.self.inside.count + length c.args.piece.now) c.join.new.octets ≡ c.args.self.now ++ c.args.piece.now
  joined = ap (λ n. take (n + length c.args.piece.now) c.join.new.octets) (sym held) ∙ c.join.ensures ∙ ap (λ x. x ++ c.args.piece.now) c.self.view_is

  counted : length (c.args.self.now ++ c.args.piece.now) ≡ c.self.inside.count + length c.args.piece.now
  counted = length-append c.args.self.now c.args.piece.now ∙ ap (λ n. n + length c.args.piece.now) (ap length (sym c.self.view_is) ∙ held)

pub returns-clause-text : goal.returns-clause-text
returns-clause-text c fed waits =
    let piece = c.args.piece.now in
    let text = c.encode_onto-written.ensures.text
    ∙ ap base64url (whole_front c.join.new.octets (c.args.self.now ++ piece) (c.self.inside.count + length piece) (joined c) (counted c)) in
    base64url_whole-append fed piece ∙ ap (λ w. base64url (whole_groups fed) ++ base64url (whole_groups (w ++ piece))) (sym waits)
    ∙ ap (λ t. base64url (whole_groups fed) ++ t) (sym text)

pub returns-clause-waits : goal.returns-clause-waits
returns-clause-waits c fed waits =
    let piece = c.args.piece.now in
    let all = c.self.inside.count + length piece in
    let back : all ≡ all / 3 * 3 + (all - all / 3 * 3) = omega arith in
    let part : drop (all / 3 * 3) (take all c.join.new.octets) ≡ c.copy_from_slice.new.self =
    ap (λ n. drop (all / 3 * 3) (take n c.join.new.octets)) back ∙ drop-take (all / 3 * 3) (all - all / 3 * 3) c.join.new.octets
    ∙ sym c.copy_from_slice.ensures.after in
    let len : length c.copy_from_slice.new.self ≡ all - all / 3 * 3 =
    grind (arith, common_steps, c.copy_from_slice.ensures.len, c.join.array_long, c.told-out) in
    rw (← len) (take-append_seam c.copy_from_slice.new.self _) ∙ sym part
    ∙ part_front c.join.new.octets (c.args.self.now ++ piece) all (joined c) (counted c)
    ∙ ap (λ w. part_group (w ++ piece)) waits ∙ sym (part-append fed piece)
