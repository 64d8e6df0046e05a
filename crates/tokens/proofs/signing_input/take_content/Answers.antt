use Rattle.std.proofs.Common.{◌≡◌, ◌++◌, [], refl, sym, ap, subst, ◌∙◌, append-nil}
use Rattle.std.proofs.Math.Seq.{drop-length}
use Rattle.octets.specs.Base64url.{base64url, whole_groups}
use Rattle.octets.specs.Code.Streams.{part_group, encoding_starts}
use Rattle.octets.specs.Devices.{appended}
use Rattle.tokens.specs.Code.SigningInputs.{HoldEach}
use Rattle.tokens.proofs.signing_input.take_content.Goals as goal

pub pieces-init : goal.pieces-init
pieces-init g c =
    let first = g.I.Input.consumed c.args.content.now in
    let none : appended first first ≡ [] = drop-length first in
    record {
      extends = sym (ap (λ l. first ++ l) none ∙ append-nil first);
      taken = λ starts h. subst (HoldEach g.S.SigningInput.has_taken c.args.inputs.now starts)
          (sym (ap (λ p. base64url (whole_groups p)) none ∙ encoding_starts)) h;
      waits = c.start-writer.ensures ∙ ap part_group (sym none);
      len = refl;
      source = refl;
      read = refl;
      finite = c.requires;
    }
