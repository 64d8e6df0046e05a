use Rattle.std.proofs.Common.{◌≡◌, ◌≤◌, true, length, map, take}
use Rattle.objects.specs.Code.Views.{signature_view}
use Rattle.tokens.specs.Code.Heads.{covers}
use Rattle.tokens.proofs.verify.heads.chosen_of.Given as goal

-- the heads so far cover the signatures so far, and are not more
abbrev pub invariant-loop-signature : goal.invariant-loop-signature
invariant-loop-signature l = record {
  few : length l.chosen ≤ l.signature-index;
  all : covers (map signature_view l.chosen) (map signature_view (take l.signature-index l.signatures)) ≡ true;
}
