use Rattle.std.proofs.Common.{◌≡◌, ◌+◌, ◌++◌, take, drop, length, Ok, ap, ◌∙◌, arith}
use Rattle.std.proofs.lemmas.Grind.{common_steps}
use Rattle.octets.specs.Code.Views.{front_of, read_count}
use Rattle.octets.proofs.Contents.{contents_same}
use Rattle.octets.proofs.Pieces.{take_copied}
use Rattle.octets.proofs.memory.MemoryInputInput.read.Goals as goal

pub returns-clause-does : goal.returns-clause-does
returns-clause-does c =
    let n = c.min-n.result in
    let buf = c.copy_from_slice.new.self ++ drop n c.args.buf.now in record {
      octets = (
        grind (arith, common_steps),
        take_copied c.self.inside.position n c.self.inside.octets.now c.copy_from_slice.new.self (drop n c.args.buf.now) (grind (arith, common_steps))
            (grind (arith, common_steps))
            ∙ ap (λ front. front ++ take n buf) (ap front_of c.self.view_is),
      );
      no_room = λ none.
          let count : c.min-n.result ≡ 0 = grind (arith, common_steps) in (
            ap Ok count,
            contents_same _ _ (ap (λ s. s.octets) c.self.view_is) (omega (arith, count, ap (λ s. s.position) c.self.view_is)) (ap (λ s. s.step) c.self.view_is),
          );
      end = grind (arith, common_steps);
      stays_at_end = grind (arith, common_steps);
      nearer = grind (arith, common_steps);
      same_source = grind (arith, common_steps);
      works = grind (arith, common_steps);
      fails = grind (arith, common_steps);
    }

pub returns-clause-moves : goal.returns-clause-moves
returns-clause-moves c =
    let count : c.min-n.result ≡ read_count c.args.self.now (length c.args.buf.now) = grind (arith, common_steps) in
    contents_same _ _ (ap (λ s. s.octets) c.self.view_is) (ap (λ s. s.position + c.min-n.result) c.self.view_is ∙ ap (λ n. c.args.self.now.position + n) count)
    (ap (λ s. s.step) c.self.view_is)
