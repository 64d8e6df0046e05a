-- What the ciphers' values hold: the words of the key expansion, as a list of their octets.
use Rattle.std.specs.Prelude.{ℕ, List}
use Rattle.aes.specs.declared.aes.Aes128.{Aes128}
use Rattle.aes.specs.declared.aes.Aes192.{Aes192}
use Rattle.aes.specs.declared.aes.Aes256.{Aes256}

abbrev pub round_keys_128 : Aes128 → List ℕ
round_keys_128 k = k.round_keys

abbrev pub round_keys_192 : Aes192 → List ℕ
round_keys_192 k = k.round_keys

abbrev pub round_keys_256 : Aes256 → List ℕ
round_keys_256 k = k.round_keys
