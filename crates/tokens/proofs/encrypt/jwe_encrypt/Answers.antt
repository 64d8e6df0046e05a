use Rattle.std.proofs.Common.{rules, map, string_bytes, ap, refl}
use Rattle.octets.proofs.Lemmas.{seen_possible}
use Rattle.ciphers.specs.contracts.content_alg.ContentSealerSealer.TheImpl.{is_sealing-value}
use Rattle.tokens.proofs.Encrypting.Ciphertext.{fills_inside, fills_beside}
use Rattle.tokens.proofs.Streamed.{ended_early}
use Rattle.tokens.proofs.encrypt.jwe_encrypt.Goals as goal

pub write_inside-requires-clause-framed : goal.write_inside-requires-clause-framed
write_inside-requires-clause-framed g c =
    let u = c.in_ok-texts-in-None.ensures.unsealed _ (seen_possible g.I.Input.consumed g.I.Input.is_at_end c.args.random.now c.prepare.new.random) in
    (_, (fills_inside is_sealing-value.it _ _ _ _ _ _ _ u (c.start.ensures _ u.started) (ap (map string_bytes) c.deref.ensures.value)))

pub write_beside-requires-clause-framed : goal.write_beside-requires-clause-framed
write_beside-requires-clause-framed g c =
    let u = c.in_ok-texts-in-Some.ensures.unsealed _ (seen_possible g.I.Input.consumed g.I.Input.is_at_end c.args.random.now c.prepare-in-Some.new.random) in
    (_, (fills_beside is_sealing-value.it _ _ _ _ _ _ _ u (c.start-in-Some.ensures _ u.started) (ap (map string_bytes) c.deref-in-Some.ensures.value)))

pub returns-in_err-texts-in-None-clause-streams : goal.returns-in_err-texts-in-None-clause-streams
returns-in_err-texts-in-None-clause-streams g c octets may =
    rw (c.in-None.is) (ended_early _ _ _ _ _ _ tt _ (λ inside whole. c.in_err-texts-in-None.ensures.refused octets whole may inside) c.from_residual.result
    c.from_residual.ensures.1)

pub returns-in_err-texts-in-Some-clause-streams : goal.returns-in_err-texts-in-Some-clause-streams
returns-in_err-texts-in-Some-clause-streams g c octets may =
    rw (c.in-Some.is) (ended_early _ _ _ _ _ _ refl _ (λ inside whole. c.in_err-texts-in-Some.ensures.refused octets whole may inside)
    c.from_residual-in_err-texts-in-Some.result c.from_residual-in_err-texts-in-Some.ensures.1)

pub returns-in_ok-texts-in-None-clause-streams : goal.returns-in_ok-texts-in-None-clause-streams
returns-in_ok-texts-in-None-clause-streams g c octets may =
    let u = c.in_ok-texts-in-None.ensures.unsealed octets may in
    rw (c.in-None.is, u.is) (c.write_inside.ensures.streams _
    (fills_inside is_sealing-value.it _ _ _ _ _ _ _ u (c.start.ensures _ u.started) (ap (map string_bytes) c.deref.ensures.value)))

pub returns-in_ok-texts-in-Some-clause-streams : goal.returns-in_ok-texts-in-Some-clause-streams
returns-in_ok-texts-in-Some-clause-streams g c octets may =
    let u = c.in_ok-texts-in-Some.ensures.unsealed octets may in
    rw (c.in-Some.is, u.is) (c.write_beside.ensures.streams _
    (fills_beside is_sealing-value.it _ _ _ _ _ _ _ u (c.start-in-Some.ensures _ u.started) (ap (map string_bytes) c.deref-in-Some.ensures.value)))

pub returns-in_err-texts-in-Some-clause-faults : goal.returns-in_err-texts-in-Some-clause-faults
returns-in_err-texts-in-Some-clause-faults g c =
    rw (c.in-Some.is) (search rules)

pub returns-in_ok-texts-in-Some-clause-faults : goal.returns-in_ok-texts-in-Some-clause-faults
returns-in_ok-texts-in-Some-clause-faults g c =
    rw (c.in-Some.is) (search rules)

pub returns-in_err-texts-in-None-clause-same_source : goal.returns-in_err-texts-in-None-clause-same_source
returns-in_err-texts-in-None-clause-same_source g c = (c.prepare.ensures.same_source, refl)

pub returns-in_err-texts-in-Some-clause-same_source : goal.returns-in_err-texts-in-Some-clause-same_source
returns-in_err-texts-in-Some-clause-same_source g c = (c.prepare-in-Some.ensures.same_source, refl)

pub returns-in_ok-texts-in-None-clause-same_source : goal.returns-in_ok-texts-in-None-clause-same_source
returns-in_ok-texts-in-None-clause-same_source g c = (c.prepare.ensures.same_source, c.write_inside.ensures.same_source)

pub returns-in_ok-texts-in-Some-clause-same_source : goal.returns-in_ok-texts-in-Some-clause-same_source
returns-in_ok-texts-in-Some-clause-same_source g c = (c.prepare-in-Some.ensures.same_source, c.write_beside.ensures.same_source)
