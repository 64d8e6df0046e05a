use Rattle.std.proofs.Common.{◌≡◌, ◌+◌, ◌-◌, ◌*◌, ◌/◌, ◌<◌, [], ◌++◌, length, take, drop, refl, sym, ap, subst, ◌∙◌, arith, length-append, append-nil}
use Rattle.modes.specs.Ghash.{ghash_number, numbers}
use Rattle.modes.specs.Code.Views.{HoldsGhash}
use Rattle.modes.proofs.Numbers.{no_numbers, fed_numbers, filled_numbers}
use Rattle.modes.proofs.Pieces.{fed_waiting, filled_waiting}
use Rattle.modes.proofs.ghash.Ghash.feed.Goals as goal

pub returns-then-octets-space : goal.returns-then-octets-space
returns-then-octets-space c h p f =
    let w = c.args.self.now.waiting in
    let x = c.args.octets.now in
    let short : length (w ++ x) < 16 = omega (arith, length-append w x, c.space-space.ensures.space, c.if-octets-space.true) in
    let none : numbers (p ++ x) ≡ numbers p = fed_numbers p w f.waiting x [] (w ++ x) 0 refl refl short ∙ ap (λ t. numbers p ++ t) (no_numbers [] (omega arith))
    ∙ append-nil (numbers p) in
    record {
      key = f.key;
      sum = f.sum ∙ ap (ghash_number c.args.self.now.subkey.h) (sym none);
      waiting = c.push.ensures ∙ fed_waiting p w f.waiting x [] (w ++ x) 0 refl refl short;
    }

pub returns : goal.returns
returns c h p f =
    let s = c.args.self.now in
    let w = s.waiting in
    let front = c.split_at.result.0.now in
    let rest = c.split_at.result.1.now in
    let left = take (length rest - length rest / 16 * 16) (drop (length rest / 16 * 16) rest) in
    let fills : length w + length front ≡ 16 = omega (arith, c.space-space.ensures.space, c.split_at.ensures.front_len) in
    let first = c.add_blocks-self.ensures (numbers p) f.sum ∙ ap (λ b. ghash_number s.subkey.h (numbers p ++ numbers b)) c.complete-block.ensures.block in
    let fed = record s { sum = c.add_blocks-self-2.result; waiting = c.push-2.new.self } in
    subst (λ x. HoldsGhash fed h (p ++ x)) (sym c.split_at.ensures.by_index.0) record {
      key = f.key;
      sum =
          c.add_blocks-self-2.ensures (numbers p ++ numbers (w ++ front)) first
          ∙ ap (ghash_number s.subkey.h) (sym (filled_numbers p w f.waiting front rest fills));
      waiting =
          c.push-2.ensures
          ∙ ap (λ t. t ++ left) c.complete-block.ensures.none
          ∙ filled_waiting p w f.waiting front rest fills;
    }
