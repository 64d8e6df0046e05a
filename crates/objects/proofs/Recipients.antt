-- Lists of recipients and the views of them.
use Rattle.std.proofs.Common.{◌≡◌, ℕ, ◌≤◌, List, [], ◌∷◌, length, map, slice_index_or, sym, ap, ◌∙◌, arith}
use Rattle.std.proofs.lemmas.List.Folds.{list_all-map}
use Rattle.std.specs.List.{list_all}
use Rattle.std.specs.Str.{bytes_eq}
use Rattle.objects.specs.Jwe.{have_enc, have_one_enc}
use Rattle.objects.specs.Code.Views.{recipient_view}
use Rattle.objects.specs.declared.jwe.recipient.Recipient.{Recipient as Code}

-- All views have this `enc` exactly if all recipients do.
all_have_enc : (enc : List ℕ) (recipients : List Code)
    → have_enc enc (map recipient_view recipients) ≡ list_all (λ (r : Code). bytes_eq (recipient_view r).enc enc) recipients
all_have_enc enc = list_all-map (λ r. bytes_eq r.enc enc) recipient_view

-- All views have the same `enc` exactly if all recipients have that of the first.
pub one_enc : (recipients : List Code) (first : Code) → 1 ≤ length recipients → first ≡ slice_index_or recipients 0 first
    → have_one_enc (map recipient_view recipients) ≡ list_all (λ (r : Code). bytes_eq (recipient_view r).enc (recipient_view first).enc) recipients
one_enc [] first some is = absurd (omega arith)
one_enc (r ∷ recipients) first some is =
    ap (λ (f : Code). have_enc (recipient_view f).enc (map recipient_view (r ∷ recipients))) (sym is) ∙ all_have_enc (recipient_view first).enc (r ∷ recipients)
