-- The plan if keys and a template settle an encryption and all random octets are drawn.
use Rattle.std.proofs.Common.{◌≡◌, ℕ, Bool, true, List, ◌++◌, length, take, nat_le, Ok, refl, sym, ap, ◌∙◌, arith, length-append}
use Rattle.std.proofs.lemmas.Bool.{le-leb}
use Rattle.std.proofs.lemmas.List.{take-append-le}
use Rattle.std.proofs.Math.Seq.{take-length}
use Rattle.octets.specs.Plan.{plan_from}
use Rattle.keys.specs.Keys.{OctetKey}
use Rattle.keys.specs.Limits.{Limits}
use Rattle.tokens.specs.Choosing.{EncryptionPlan, read_encryption}
use Rattle.tokens.specs.Encrypting.{enc_plan, random_len, plan_by}

-- The plan depends only on the octets that are drawn, whatever follows in the random input.
pub plan_of_drawn : (limits : Limits) (compact detach : Bool) (keys : List OctetKey) (template : List ℕ) (e : EncryptionPlan) (random octets rest : List ℕ)
    → read_encryption limits compact keys template ≡ Ok e → length random ≡ random_len e → octets ≡ random ++ rest
    → plan_from (enc_plan limits compact detach keys template) octets ≡ Ok (plan_by limits compact detach e random)
unfolding enc_plan
plan_of_drawn limits compact detach keys template e random octets rest is drawn continues =
    let enough : nat_le (random_len e) (length octets) ≡ true =
    le-leb (random_len e) (length octets) (omega (arith, drawn, ap length continues, length-append random rest)) in
    let all : take (random_len e) octets ≡ random =
    ap (take (random_len e)) continues ∙ take-append-le (random_len e) random rest (omega (arith, drawn))
    ∙ ap (λ n. take n random) (sym drawn) ∙ take-length random in
    rw (is, enough, all) refl
