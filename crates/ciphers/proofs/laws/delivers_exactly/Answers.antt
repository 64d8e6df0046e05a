use Rattle.ciphers.proofs.Found.{delivers}
use Rattle.ciphers.proofs.laws.delivers_exactly.Goals as goal

pub returns : goal.returns
returns c = λ alg enc key p encrypted cek octets.
    delivers c.search_finds_octets.ensures alg enc key p encrypted (λ x y. c.delivery_is_unique.ensures alg enc key p encrypted x y octets) cek
