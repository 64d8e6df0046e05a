use Rattle.std.proofs.Common.{map, sym}
use Rattle.keys.specs.Code.Views.{key_view}
use Rattle.tokens.specs.Code.Views.{sealed_with_view}
use Rattle.tokens.proofs.Decrypting.Tried.{repeated}
use Rattle.tokens.proofs.decrypt.recipients.open_recipient.Goals as goal

pub returns-in-Some-clause-opened : goal.returns-in-Some-clause-opened
returns-in-Some-clause-opened c =
    sym (repeated (sealed_with_view c.args.sealed c.args.octets.now) (map key_view c.args.salted.now.keys.now) c.args.work_before.now c.args.before.now c.in-Some.j
    (record { iterations = 0; unwraps = 0; openings = 0 }) c.args.recipient.now
    c.in-Some.ensures.within c.requires.as_many c.requires.tried c.in-Some.ensures.same).none

pub returns-in-Some-clause-work : goal.returns-in-Some-clause-work
returns-in-Some-clause-work c =
    (repeated (sealed_with_view c.args.sealed c.args.octets.now) (map key_view c.args.salted.now.keys.now) c.args.work_before.now c.args.before.now c.in-Some.j
    (record { iterations = 0; unwraps = 0; openings = 0 }) c.args.recipient.now
    c.in-Some.ensures.within c.requires.as_many c.requires.tried c.in-Some.ensures.same).counted
