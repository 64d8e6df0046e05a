use Rattle.std.proofs.Common.{inr}
use Rattle.tools.proofs.serve_verify_all.Goals as goal

pub returns : goal.returns
returns g c =
    inr (rw c.in_ok-request.ensures (record {
      inputs = c.inputs-inputs.result;
      outputs = c.outputs-outputs.result;
      inputs_after = c.verify_all.new.inputs;
      outputs_after = c.verify_all.new.outputs;
      new_inputs = c.inputs-inputs.ensures;
      new_outputs = c.outputs-outputs.ensures;
      verifies = c.verify_all.ensures;
    }))
