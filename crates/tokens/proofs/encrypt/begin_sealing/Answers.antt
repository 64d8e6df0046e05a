use Rattle.std.proofs.Common.{rules}
use Rattle.tokens.specs.Code.Views.{encryption_plan_view}
use Rattle.tokens.proofs.Encrypting.Frames.{unsealed_frame}
use Rattle.tokens.proofs.Encrypting.RecipientKeys.{direct_is_cek}
use Rattle.tokens.proofs.encrypt.begin_sealing.Goals as goal

pub deliver_to_all-requires-clause-direct : goal.deliver_to_all-requires-clause-direct
deliver_to_all-requires-clause-direct c =
    let e = c.args.encryption in
    direct_is_cek e.recipient_keys.items c.split_at-2.result.0.now c.content_key-cek.result e.alone c.content_key-cek.ensures.cek

pub returns-in_err-texts-clause-memory : goal.returns-in_err-texts-clause-memory
returns-in_err-texts-clause-memory c =
    let is = unsealed_frame c.args.compact c.args.detach (encryption_plan_view c.args.encryption) c.args.random.now c.requires.built in
    search (rules, is)

pub returns-clause-framed : goal.returns-clause-framed
returns-clause-framed c =
    let is = unsealed_frame c.args.compact c.args.detach (encryption_plan_view c.args.encryption) c.args.random.now c.requires.built in
    search (rules, is)
