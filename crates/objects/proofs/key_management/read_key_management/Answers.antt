use Rattle.std.proofs.Common.{◌≡◌, true}
use Rattle.objects.specs.KeyManagement.{management_by}
use Rattle.objects.specs.Code.KeyManagementView.{management_view, is_management_of}
use Rattle.objects.specs.Code.Views.{header_view}
use Rattle.objects.proofs.KeyManagements.{management_is}
use Rattle.objects.proofs.Steps.{if_ok}
use Rattle.objects.proofs.key_management.read_key_management.Goals as goal

pub returns-clause-of_alg : goal.returns-clause-of_alg
returns-clause-of_alg c =
    rw (← c.named.ensures)
    (if_ok management_view c.read_management.result (management_by c.named.result (header_view c.args.header)) (λ m. is_management_of c.named.result m ≡ true)
    (management_is c.named.result (header_view c.args.header)) c.read_management.ensures)
