-- What a base64url text that the code keeps stands for.
use Rattle.std.specs.Prelude.{ℕ, List, []}
use Rattle.std.specs.Result.{result_unwrap_or}
use Rattle.octets.specs.Base64url.{decoded}

-- the octets of the text, if it is a base64url text
abbrev pub meaning : List ℕ → List ℕ
meaning text = result_unwrap_or (decoded text) []
