use Rattle.std.proofs.Common.{◌≡◌, ◌∙◌, true, refl, ap, sym}
use Rattle.std.specs.Result.{result_ok}
use Rattle.tools.specs.Words.{is_number}
use Rattle.tools.proofs.Numbers.{number_is}
use Rattle.tools.proofs.words.number_of.Goals as goal

pub returns-then-is_number : goal.returns-then-is_number
returns-then-is_number c =
    let is : is_number c.args.word.now ≡ true = ap is_number (sym c.as_bytes.ensures.value) ∙ sym c.is_number.ensures ∙ c.if-is_number.true in
    c.ok.ensures.value ∙ ap result_ok (number_is c.args.word.now c.parse.result c.parse.ensures.value.0 is) ∙ rw is refl
