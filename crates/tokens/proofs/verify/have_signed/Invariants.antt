use Rattle.keys.specs.Code.Views.{key_view}
use Rattle.objects.specs.Code.Views.{jws_view}
use Rattle.tokens.specs.Verifying.{has_signed}
use Rattle.tokens.proofs.Verifying.Counted.{Counted}
use Rattle.tokens.proofs.verify.have_signed.Given as goal

-- the keys so far were counted
abbrev pub invariant-loop-key : goal.invariant-loop-key
invariant-loop-key l =
    Counted (λ key. has_signed (jws_view l.jws) (key_view key)) l.least l.keys l.key-index l.tally.wanted l.tally.left
