use Rattle.std.proofs.Common.{◌≡◌, ◌⊎◌, false, refl, List, map, Result, Err, string_bytes, inl, inr, rules}
use Rattle.clap.specs.Words.{Text}
use Rattle.octets.specs.declared.refusal.Refusal.{Refusal}
use Rattle.octets.specs.declared.refusal.Refusal.TheVariants.{Memory}
use Rattle.octets.specs.Outcomes.{is_external}
use Rattle.octets.specs.Code.Results.{is_memory}
use Rattle.jose.specs.Words.{invocation_of}
use Rattle.jose.specs.Runs.{Serves}
use Rattle.jose.proofs.serve.Goals as goal

-- A refusal of `parse` is Memory or the refusal of the words.
refused : (R U F : Type 0) (words : List Text) (refusal : Refusal) (result : Result (Unit {0}) Refusal) → result ≡ Err refusal
    → (is_memory refusal ≡ false → (invocation_of words ≡ Err refusal) × (is_external refusal ≡ false))
    → (result ≡ Err Memory) ⊎ Serves R U F words result
refused R U F words Memory result is agrees = inl is
refused R U F words refusal result is agrees = inr (rw (agrees refl).0 is)

pub returns-in_err-invocation : goal.returns-in_err-invocation
returns-in_err-invocation g c =
    refused _ _ _ (map string_bytes c.args.words.now) c.in_err-invocation.field-0.0 c.from_residual.result (search rules) c.in_err-invocation.ensures

pub returns : goal.returns
returns g c =
    inr (rw c.in_ok-invocation.ensures (record {
      inputs = c.inputs-inputs.result;
      outputs = c.outputs-outputs.result;
      inputs_after = c.run.new.inputs;
      outputs_after = c.run.new.outputs;
      new_inputs = c.inputs-inputs.ensures;
      new_outputs = c.outputs-outputs.ensures;
      does = c.run.ensures;
    }))
