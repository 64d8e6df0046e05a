use Rattle.std.proofs.Common.{◌≡◌, Ok, rules}
use Rattle.std.specs.Option.{ok_or}
use Rattle.octets.specs.declared.refusal.Refusal.TheVariants.{Usage}
use Rattle.jose.specs.Invocations.{hash_asked, settings_view}
use Rattle.jose.proofs.Doing.{wrote_whole}
use Rattle.jose.proofs.Rows.{thp_is}
use Rattle.jose.proofs.commands.jwk.thumbprints.Goals as goal

pub returns : goal.returns
returns g c =
    let options = settings_view c.args.invocation.now.options.items in
    let asked : ok_or (hash_asked options) Usage ≡ Ok c.in_ok-hash.hash = search rules in
    rw c.requires.command (wrote_whole c.write_thumbprints.result (thp_is options c.in_ok-hash.hash asked) c.in_ok-whole.ensures
    (rw c.deref.ensures.value at c.write_thumbprints.ensures))
