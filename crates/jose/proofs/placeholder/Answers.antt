use Rattle.std.proofs.Common.{ℕ, List, [], Bor, inl, inr}
use Rattle.jose.proofs.Mapped.{mapped-at}
use Rattle.jose.proofs.placeholder.Goals as goal

-- a default that no index below the length reads
abbrev no_folder : Bor (List ℕ)
no_folder = record { ref_ptr = (0, 0); now = [] }

pub returns-in-Ok-clause-held : goal.returns-in-Ok-clause-held
returns-in-Ok-clause-held g c =
    c.loop-folder.invariant c.if_standard.result
    (rw (mapped-at (λ text. text.now) c.args.folders.now c.loop-folder.folder-index no_folder c.loop-folder-test.true)
    (inr (c.in-Ok.folder, (c.in-Ok.ensures, c.if_standard.ensures))))

pub loop-folder-preserved : goal.loop-folder-preserved
loop-folder-preserved g c = λ held rest.
    c.loop-folder.invariant held
    (rw (mapped-at (λ text. text.now) c.args.folders.now c.loop-folder.folder-index no_folder c.loop-folder-test.true)
    (inl (c.in-Err.e, (c.in-Err.ensures, rest))))
