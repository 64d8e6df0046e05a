-- The operations that a key may be used for (RFC 7517 sections 4.2 and 4.3).
use Rattle.std.specs.Prelude.{ℕ, List, [], ◌∷◌, codes}
use Rattle.keys.specs.declared.operation.Operation.{Operation}
use Rattle.keys.specs.declared.operation.Operation.TheVariants.{Sign, Verify, Encrypt, Decrypt, WrapKey, UnwrapKey, WrapByPassword, UnwrapByPassword}

-- the name in `key_ops` (RFC 7517 section 4.3)
abbrev pub operation_name : Operation → List ℕ
operation_name Sign = codes "sign"
operation_name Verify = codes "verify"
operation_name Encrypt = codes "encrypt"
operation_name Decrypt = codes "decrypt"
operation_name WrapKey = codes "wrapKey"
operation_name UnwrapKey = codes "unwrapKey"
operation_name WrapByPassword = codes "wrapKey"
operation_name UnwrapByPassword = codes "unwrapKey"

-- the names of the derivation by which a password wraps (RFC 7517 section 4.3, docs/SPECIFICATION.md "Keys" 4)
abbrev pub derivation_names : Operation → List (List ℕ)
derivation_names Sign = []
derivation_names Verify = []
derivation_names Encrypt = []
derivation_names Decrypt = []
derivation_names WrapKey = []
derivation_names UnwrapKey = []
derivation_names WrapByPassword = codes "deriveKey" ∷ codes "deriveBits" ∷ []
derivation_names UnwrapByPassword = codes "deriveKey" ∷ codes "deriveBits" ∷ []

-- the names in `key_ops` that allow the operation (RFC 7517 section 4.3, docs/SPECIFICATION.md "Keys" 4)
abbrev pub operation_names : Operation → List (List ℕ)
operation_names operation = operation_name operation ∷ derivation_names operation

-- the `use` that allows the operation (RFC 7517 section 4.2)
abbrev pub operation_use : Operation → List ℕ
operation_use Sign = codes "sig"
operation_use Verify = codes "sig"
operation_use Encrypt = codes "enc"
operation_use Decrypt = codes "enc"
operation_use WrapKey = codes "enc"
operation_use UnwrapKey = codes "enc"
operation_use WrapByPassword = codes "enc"
operation_use UnwrapByPassword = codes "enc"
