use Rattle.std.proofs.Common.{◌++◌, length, sym, ap, ap₂, subst, ◌∙◌}
use Rattle.std.proofs.lemmas.List.{take_at}
use Rattle.modes.specs.Ctr.{ctr}
use Rattle.modes.specs.Code.Views.{HoldsKeyStream}
use Rattle.modes.proofs.ctr.Ctr32.feed.Goals as goal

pub returns-clause-fed : goal.returns-clause-fed
returns-clause-fed g c e f p k =
    let fed = c.apply.ensures.fed f p (subst (λ d. HoldsKeyStream c.args.self.now.stream d f p) (sym k.cipher) k.stream) in
    record {
      cipher = k.cipher;
      stream = subst (λ d. HoldsKeyStream c.apply.new.self d f (p ++ c.args.piece.now)) k.cipher
          (subst (λ t. HoldsKeyStream c.apply.new.self (g.B.Block.encrypted c.args.self.now.cipher) f (p ++ t)) c.copy_from_slice.ensures.after fed);
    }

pub returns-clause-text : goal.returns-clause-text
returns-clause-text g c e f p k =
    let copied = c.copy_from_slice.ensures.after in
    let out = c.apply.new.octets in
    sym (ap₂ (λ d t. ctr d f (p ++ t)) k.cipher copied)
    ∙ c.apply.ensures.text f p (subst (λ d. HoldsKeyStream c.args.self.now.stream d f p) (sym k.cipher) k.stream)
    ∙ ap (λ d. ctr d f p ++ out) k.cipher
    ∙ ap (λ t. ctr e f p ++ t) (sym (take_at out _ (length c.args.piece.now) (c.apply.auto.octets ∙ ap length copied)))
