use Rattle.std.proofs.Common.{◌≡◌, ◌≤◌, true, None, take, drop, map}
use Rattle.keys.specs.Limits.{limits}
use Rattle.keys.specs.Code.Views.{key_view}
use Rattle.objects.specs.Code.Views.{recipient_view}
use Rattle.tokens.specs.Decrypting.{SealedContent, pairs_with, first_opened}
use Rattle.tokens.specs.Code.Trying.{AreSalted, within_after}
use Rattle.tokens.specs.Code.Work.{no_work, with_pairs}
use Rattle.tokens.specs.Code.Views.{algorithms_view, sealed_with_view, work_view}
use Rattle.tokens.proofs.decrypt.recipients.open_candidates.Given as goal

-- the pairs so far open nothing, those that are left open the same as all, and their iterations are the rest of the whole and within the
-- limits
abbrev pub invariant-loop-i : goal.invariant-loop-i
invariant-loop-i l =
    let s : SealedContent = sealed_with_view l.sealed l.initial.octets in
    let r = recipient_view l.recipient in
    let a = algorithms_view l.algorithms in
    let keys = l.initial.salted.keys.now in
    let left = pairs_with r a (map key_view (drop l.i keys)) in
    let all = pairs_with r a (map key_view keys) in
    record {
      octets : l.octets ≡ l.initial.octets;
      tried : first_opened s (pairs_with r a (map key_view (take l.i keys))) ≡ None;
      opened : first_opened s left ≡ first_opened s all;
      work : with_pairs s (work_view l.work) left ≡ with_pairs s no_work all;
      within : within_after l.work.iterations left ≡ true;
      iterations : l.work.iterations ≤ limits.p2c_sum;
      unwraps : l.work.unwraps ≤ l.i;
      openings : l.work.openings ≤ l.i;
      keys : l.salted.keys ≡ l.initial.salted.keys;
      salted : AreSalted l.salted;
      salt : l.salted.p2s ≡ l.initial.salted.p2s;
    }
