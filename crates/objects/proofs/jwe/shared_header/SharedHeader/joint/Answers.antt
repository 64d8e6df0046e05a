use Rattle.serde_json.specs.View.{members_view}
use Rattle.objects.proofs.SharedParameters.{read_in_joint}
use Rattle.objects.proofs.jwe.shared_header.SharedHeader.joint.Goals as goal

pub returns-clause-read : goal.returns-clause-read
returns-clause-read c =
    read_in_joint (members_view c.args.protected.now.entries) (members_view c.args.unprotected.now.entries) (members_view c.args.per_recipient.now.entries)
    c.args.self.now.parameters c.requires.read
