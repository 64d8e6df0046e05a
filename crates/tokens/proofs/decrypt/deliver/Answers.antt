use Rattle.std.proofs.Common.{sym, subst, ◌∙◌}
use Rattle.ciphers.specs.Code.Views.{parameters_view}
use Rattle.tokens.specs.Decrypting.{cek_of}
use Rattle.tokens.proofs.Decrypting.Openings.{delivers}
use Rattle.octets.specs.Octets.{IsOctets}
use Rattle.tokens.proofs.decrypt.deliver.Goals as goal

pub returns-clause-cek : goal.returns-clause-cek
unfolding cek_of
returns-clause-cek c =
    rw (
      ← c.requires.key,
      ← c.management.ensures.management,
      ← c.parameters-parameters.ensures,
      ← c.encrypted_key.ensures,
    )
    (delivers c.delivers_exactly.ensures c.args.pair.now.algorithms.management c.args.pair.now.algorithms.encryption c.args.salted.now.key
    (parameters_view c.parameters-parameters.result) c.encrypted_key.result.now
    c.unwrap_cek_salted.result.0 (subst IsOctets (c.octets.ensures ∙ sym c.requires.key) c.are_octets.ensures) c.unwrap_cek_salted.ensures.delivers
    c.unwrap_cek_salted.ensures.nothing)
