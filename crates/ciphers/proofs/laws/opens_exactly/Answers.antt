use Rattle.ciphers.proofs.Found.{opens}
use Rattle.ciphers.proofs.laws.opens_exactly.Goals as goal

pub returns : goal.returns
returns c = λ alg cek iv aad c' tag p key start.
    opens c.encrypted_block_is_cipher.ensures c.search_finds_octets.ensures alg cek iv aad c' tag key start
    (λ x y. c.opening_is_unique.ensures alg cek iv aad c' tag x y key start) p
