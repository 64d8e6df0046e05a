use Rattle.std.proofs.Common.{◌≡◌, true}
use Rattle.tokens.proofs.Encrypting.RecipientKeys.{held, all_fit, all_counted, all_stand_together}
use Rattle.tokens.proofs.encrypt.settle.settle_encryption.Goals as goal

pub invariant_of-result-clause-fit : goal.invariant_of-result-clause-fit
invariant_of-result-clause-fit c =
    let may : c.all_may_encrypt.result ≡ true = held _ _ _ c.in_ok-needs-2.ensures in
    all_fit c.in_ok-encryption.encryption c.in_ok-recipient_keys.recipient_keys.items cc

pub invariant_of-result-clause-counted : goal.invariant_of-result-clause-counted
invariant_of-result-clause-counted c =
    let written : c.p2c_may_be_written.result ≡ true = held _ _ _ c.in_ok-needs-4.ensures in
    all_counted c.in_ok-p2c.p2c c.in_ok-recipient_keys.recipient_keys.items cc

pub invariant_of-result-clause-alone : goal.invariant_of-result-clause-alone
invariant_of-result-clause-alone c =
    let together : c.direct_key_is_alone.result ≡ true = held _ _ _ c.in_ok-needs.ensures in
    all_stand_together c.in_ok-recipient_keys.recipient_keys.items cc
