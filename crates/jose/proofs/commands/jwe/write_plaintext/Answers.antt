use Rattle.std.proofs.Common.{◌≡◌, Ok, false}
use Rattle.objects.specs.Code.Views.{jwe_view}
use Rattle.keys.specs.KeySets.{key_set}
use Rattle.keys.specs.Limits.{limits}
use Rattle.tokens.specs.Decrypting.{decrypted}
use Rattle.octets.specs.Devices.{output_members}
use Rattle.jose.proofs.Wrote.{wrote_content}
use Rattle.jose.proofs.commands.jwe.write_plaintext.Goals as goal

pub returns : goal.returns
returns g c =
    let o = g.O.Output in
    let d = c.jwe_decrypt.ensures in
    let k : key_set limits c.args.whole.keys.items false ≡ Ok c.in_ok-set.set = rw (← c.deref.ensures.value) c.in_ok-set.ensures in
    rw (k, ← c.deref-2.ensures.value, c.in_ok-jwe.ensures.exact)
    (wrote_content (output_members o.written o.is_finished o.endings o.failures) (decrypted limits c.in_ok-set.set (jwe_view c.in_ok-jwe.jwe))
    c.args.outputs.now c.jwe_decrypt.new.out c.jwe_decrypt.result.1
    d.answer d.held_back d.beginning d.finished d.unfinished d.faults)
