use Rattle.std.proofs.Common.{map}
use Rattle.keys.specs.Code.Views.{key_view}
use Rattle.objects.specs.Code.Views.{signature_view}
use Rattle.tokens.specs.Code.Heads.{pointed_views}
use Rattle.tokens.proofs.Verifying.Heads.{heads_decide}
use Rattle.tokens.proofs.verify.detached.has_signed_next.Goals as goal

pub loop-head-init : goal.loop-head-init
loop-head-init g c later payload h =
    (heads_decide payload (key_view c.args.key.now) (pointed_views c.args.heads.now) (map signature_view c.args.signatures.now) c.requires, h)
