use Rattle.std.proofs.Common.{◌<◌, refl, arith, List, [], ◌∷◌, length, drop, map, string_bytes, inr, Ok, Err}
use Rattle.clap.specs.Words.{Text}
use Rattle.octets.specs.declared.refusal.Refusal.TheVariants.{Usage}
use Rattle.jose.specs.Words.{invocation_of}
use Rattle.jose.specs.Runs.{Serves}
use Rattle.jose.proofs.perform.Goals as goal

-- Without arguments there are no words, and so there is no command: the refusal is Usage.
nothing_is_asked : (R U F : Type 0) {A : Type 0} (text : A → Text) (args : List A) → length args < 1 → Serves R U F (drop 1 (map text args)) (Err Usage)
unfolding invocation_of
nothing_is_asked R U F text [] below = refl
nothing_is_asked R U F text (arg ∷ args) below = absurd (omega (arith, below))

pub returns-in_default : goal.returns-in_default
returns-in_default g c =
    inr (
      Ok (map string_bytes c.in_ok-args.args.items),
      (
        c.in_ok-args.ensures.given,
        nothing_is_asked _ _ _ string_bytes c.in_ok-args.args.items (rw c.as_slice.ensures.value at c.in_default.len_below),
      ),
    )
