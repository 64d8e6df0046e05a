-- Whole files that were read.
use Rattle.std.proofs.Common.{◌≡◌, ◌∙◌, ℕ, Vec, Global, false, List, [], ◌++◌, Some, Result, Ok, Err, ap, sym, subst}
use Rattle.std.specs.Prelude.{IfOk, IsTrue}
use Rattle.std.specs.Iterator.{at_most}
use Rattle.octets.specs.declared.refusal.Refusal.{Refusal}
use Rattle.octets.specs.declared.streams.ReaderInput.{ReaderInput}
use Rattle.octets.specs.Code.Views.{reader_of, consumed_of, is_at_end_of, remaining_of, read_failures_of}
use Rattle.octets.specs.Code.Streams.{most_octets}
use Rattle.jose.specs.declared.files.Source.{Source}
use Rattle.jose.specs.Files.{IsUnopenedSource, origin_named, origin_of}
use Rattle.tools.specs.Disks.{IsReadWhole}

pub read_is : {R F : Type 0} (path : List ℕ) (before after : ReaderInput (Source R F)) (source : Source R F) (r : Result (Vec ℕ Global) Refusal)
    → reader_of before ≡ source → origin_of source ≡ origin_named false (Some path) → IsUnopenedSource source → consumed_of before ≡ []
    → is_at_end_of before ≡ false → remaining_of before ≡ at_most most_octets → read_failures_of before ≡ 0
    → IfOk r (λ text. (consumed_of after ≡ consumed_of before ++ text.items) × IsTrue (is_at_end_of after)) → IsReadWhole R F path r
read_is {R} {F} path before after source r reader named unopened consumed begins remaining failures whole = record {
  before = before;
  after = after;
  new = record {
    source = ap origin_of reader ∙ named;
    unopened = subst IsUnopenedSource (sym reader) unopened;
    consumed = consumed;
    begins = begins;
    remaining = remaining;
    failures = failures;
  };
  whole = by_result r whole;
}
  where
    by_result : (r : Result (Vec ℕ Global) Refusal)
        → IfOk r (λ text. (consumed_of after ≡ consumed_of before ++ text.items) × IsTrue (is_at_end_of after))
        → IfOk r (λ text. (consumed_of after ≡ text.items) × IsTrue (is_at_end_of after))
    by_result (Ok text) h = (h.0 ∙ ap (λ front. front ++ text.items) consumed, h.1)
    by_result (Err refusal) h = tt
