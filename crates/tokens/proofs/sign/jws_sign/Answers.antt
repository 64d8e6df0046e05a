use Rattle.std.proofs.Common.{rules, map, string_bytes, ap, refl}
use Rattle.tokens.specs.contracts.signing_input.HmacInputSigningInput.TheImpl.{has_taken-value}
use Rattle.tokens.proofs.Signing.Payload.{fills_inside, fills_beside}
use Rattle.tokens.proofs.Streamed.{ended_early}
use Rattle.tokens.proofs.sign.jws_sign.Goals as goal
use Rattle.octets.proofs.Lemmas.{not_memory}

pub write_inside-requires-clause-framed : goal.write_inside-requires-clause-framed
write_inside-requires-clause-framed g c =
    let f = c.in_ok-texts-in-None.ensures.framed in
    (_, (fills_inside has_taken-value.it _ _ _ _ _ (λ rest. rest.items) _ _ f (c.start.ensures _ f.started) (ap (map string_bytes) c.deref.ensures.value)))

pub write_beside-requires-clause-framed : goal.write_beside-requires-clause-framed
write_beside-requires-clause-framed g c =
    let f = c.in_ok-texts-in-Some.ensures.framed in (
      _,
      (fills_beside has_taken-value.it _ _ _ _ _ (λ rest. rest.items) _ _ f (c.start-in-Some.ensures _ f.started)
          (ap (map string_bytes) c.deref-in-Some.ensures.value)),
    )

pub returns-in_err-texts-in-None-clause-streams : goal.returns-in_err-texts-in-None-clause-streams
returns-in_err-texts-in-None-clause-streams g c =
    rw (c.in-None.is) (ended_early _ _ _ _ _ _ tt _ (λ inside. (c.in_err-texts-in-None.ensures.refused (not_memory _ inside)).1) c.from_residual.result
    c.from_residual.ensures.1)

pub returns-in_err-texts-in-Some-clause-streams : goal.returns-in_err-texts-in-Some-clause-streams
returns-in_err-texts-in-Some-clause-streams g c =
    rw (c.in-Some.is) (ended_early _ _ _ _ _ _ refl _ (λ inside. (c.in_err-texts-in-Some.ensures.refused (not_memory _ inside)).1)
    c.from_residual-in_err-texts-in-Some.result c.from_residual-in_err-texts-in-Some.ensures.1)

pub returns-in_ok-texts-in-None-clause-streams : goal.returns-in_ok-texts-in-None-clause-streams
returns-in_ok-texts-in-None-clause-streams g c =
    let f = c.in_ok-texts-in-None.ensures.framed in
    rw (c.in-None.is, f.is) (c.write_inside.ensures.streams _
    (fills_inside has_taken-value.it _ _ _ _ _ (λ rest. rest.items) _ _ f (c.start.ensures _ f.started) (ap (map string_bytes) c.deref.ensures.value)))

pub returns-in_ok-texts-in-Some-clause-streams : goal.returns-in_ok-texts-in-Some-clause-streams
returns-in_ok-texts-in-Some-clause-streams g c =
    let f = c.in_ok-texts-in-Some.ensures.framed in
    rw (c.in-Some.is, f.is) (c.write_beside.ensures.streams _
    (fills_beside has_taken-value.it _ _ _ _ _ (λ rest. rest.items) _ _ f (c.start-in-Some.ensures _ f.started)
    (ap (map string_bytes) c.deref-in-Some.ensures.value)))

pub returns-in_err-texts-in-Some-clause-faults : goal.returns-in_err-texts-in-Some-clause-faults
returns-in_err-texts-in-Some-clause-faults g c =
    rw (c.in-Some.is) (search rules)

pub returns-in_ok-texts-in-Some-clause-faults : goal.returns-in_ok-texts-in-Some-clause-faults
returns-in_ok-texts-in-Some-clause-faults g c =
    rw (c.in-Some.is) c.write_beside.ensures.faults
