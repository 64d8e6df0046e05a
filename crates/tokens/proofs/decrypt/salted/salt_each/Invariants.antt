use Rattle.std.proofs.Common.{◌≡◌, length, map, take, drop}
use Rattle.tokens.specs.Code.Trying.{salted_with}
use Rattle.tokens.proofs.decrypt.salted.salt_each.Given as goal

-- the keys so far are salted, and the others are as they were
abbrev pub invariant-loop-i : goal.invariant-loop-i
invariant-loop-i l = record {
  front : take l.i l.keys.items ≡ map (salted_with l.p2s) (take l.i l.initial.keys.items);
  back : drop l.i l.keys.items ≡ drop l.i l.initial.keys.items;
  long : length l.keys.items ≡ length l.initial.keys.items;
}
