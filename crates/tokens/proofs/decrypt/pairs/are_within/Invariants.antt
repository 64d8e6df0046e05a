use Rattle.std.proofs.Common.{◌≡◌, ◌≤◌, drop, map, List}
use Rattle.keys.specs.Limits.{limits}
use Rattle.keys.specs.Code.Views.{key_view}
use Rattle.objects.specs.declared.jwe.recipient.Recipient.{Recipient as Code}
use Rattle.objects.specs.Code.Views.{recipient_view}
use Rattle.tokens.specs.Decrypting.{Pair, with_iterations, all_pairs, are_within}
use Rattle.tokens.specs.Code.Trying.{within_to}
use Rattle.tokens.proofs.decrypt.pairs.are_within.Given as goal

-- the pairs of the recipients that are left, after those so far, are within the limits exactly if all pairs are
abbrev pub invariant-loop-recipient : goal.invariant-loop-recipient
invariant-loop-recipient l =
    let pairs : List Code → List Pair = λ recipients. all_pairs limits.management (map key_view l.keys) (map recipient_view recipients) in
    record {
      same : within_to l.most l.sum (pairs (drop l.recipient-index l.recipients)) ≡ are_within (with_iterations l.most_iterations limits) (pairs l.recipients);
      so_far : l.sum ≤ l.most;
      bounded : l.most ≤ limits.p2c_sum;
    }
