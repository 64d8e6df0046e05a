use Rattle.std.proofs.Common.{◌≡◌, ◌≤◌, ◌*◌, true, length, take, drop, map}
use Rattle.keys.specs.Limits.{limits}
use Rattle.keys.specs.Code.Views.{key_view}
use Rattle.objects.specs.Code.Views.{recipient_view}
use Rattle.tokens.specs.Decrypting.{SealedContent, all_pairs, first_opened}
use Rattle.tokens.specs.Code.Trying.{AreSalted, AreTried, within_after}
use Rattle.tokens.specs.Code.Work.{no_work, with_pairs}
use Rattle.tokens.specs.Code.Views.{sealed_with_view, work_view}
use Rattle.tokens.proofs.decrypt.recipients.open_recipients.Given as goal

-- the recipients so far open nothing, those that are left open the same as all, and their iterations are the rest of the whole and within
-- the limits
abbrev pub invariant-loop-i : goal.invariant-loop-i
invariant-loop-i l =
    let s : SealedContent = sealed_with_view l.sealed l.initial.octets in
    let keys = map key_view l.initial.salted.keys.now in
    let left = all_pairs limits.management keys (map recipient_view (drop l.i l.recipients)) in
    let all = all_pairs limits.management keys (map recipient_view l.recipients) in
    record {
      octets : l.octets ≡ l.initial.octets;
      tried : AreTried s keys (take l.i l.tried) (take l.i l.recipients);
      opened : first_opened s left ≡ first_opened s all;
      work : with_pairs s (work_view l.work) left ≡ with_pairs s no_work all;
      within : within_after l.work.iterations left ≡ true;
      iterations : l.work.iterations ≤ limits.p2c_sum;
      unwraps : l.work.unwraps ≤ limits.keys * l.i;
      openings : l.work.openings ≤ limits.keys * l.i;
      keys : l.salted.keys ≡ l.initial.salted.keys;
      salted : AreSalted l.salted;
      room : length l.tried ≡ limits.recipients;
    }
