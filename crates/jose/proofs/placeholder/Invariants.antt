use Rattle.std.proofs.Common.{Option, drop, map}
use Rattle.jose.specs.System.{HoldsFirst}
use Rattle.jose.proofs.placeholder.Given as goal

-- if the folders that are left decide what is held, all folders decide the same
abbrev pub invariant-loop-folder : goal.invariant-loop-folder
invariant-loop-folder g l =
    let gives = g.S.ReadFiles.open_gives l.system in
    let number = g.S.File.AsRawFd.raw_fd in
    let names = map (λ text. text.now) l.folders in
    (held : Option g.row.S-File.Denot) → HoldsFirst gives number (drop l.folder-index names) held → HoldsFirst gives number names held
