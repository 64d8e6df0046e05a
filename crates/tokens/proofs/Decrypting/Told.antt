-- The work that is reported with a refusal.
use Rattle.std.proofs.Common.{◌≡◌, List, Result, Ok, Err, IsErrAnd, refl, sym, ap, ◌∙◌}
use Rattle.octets.specs.declared.refusal.Refusal.{Refusal}
use Rattle.octets.specs.declared.refusal.Refusal.TheVariants as refusal
use Rattle.objects.specs.Jwe.{EncryptedObject}
use Rattle.tokens.specs.Decrypting.{Pair}
use Rattle.tokens.specs.Code.Work.{work_told}

-- The work depends on a refusal alone, whatever the result of the call would have been.
told_by : (X Y : Type 0) (o : EncryptedObject) (pairs : List Pair) (e : Refusal)
    → work_told {X = X} o (Ok pairs) (Err e) ≡ work_told {X = Y} o (Ok pairs) (Err e)
told_by X Y o pairs refusal.Usage = refl
told_by X Y o pairs refusal.Read = refl
told_by X Y o pairs refusal.Write = refl
told_by X Y o pairs refusal.Memory = refl
told_by X Y o pairs refusal.Random = refl
told_by X Y o pairs refusal.Base64 = refl
told_by X Y o pairs refusal.Json = refl
told_by X Y o pairs refusal.Number = refl
told_by X Y o pairs refusal.Key = refl
told_by X Y o pairs refusal.Form = refl
told_by X Y o pairs refusal.Header = refl
told_by X Y o pairs refusal.Unsupported = refl
told_by X Y o pairs refusal.NoAlgorithm = refl
told_by X Y o pairs refusal.KeyDoesNotFit = refl
told_by X Y o pairs refusal.Limit = refl
told_by X Y o pairs refusal.NotCompact = refl
told_by X Y o pairs refusal.NotOpened = refl

pub same_told : (X Y : Type 0) (o : EncryptedObject) (pairs : Result (List Pair) Refusal) (e : Refusal) (result : Result Y Refusal)
    → IsErrAnd result (λ r. r ≡ e) → work_told {X = X} o pairs (Err e) ≡ work_told {X = Y} o pairs result
same_told X Y o (Err r) e result h = refl
same_told X Y o (Ok pairs) e (Ok y) h = absurd h
same_told X Y o (Ok pairs) e (Err r) h = told_by X Y o pairs e ∙ ap (λ x. work_told {X = Y} o (Ok pairs) (Err x)) (sym h)
