-- The keys that are read from objects, one after another.
use Rattle.std.proofs.Common.{◌≡◌, suc, Bool, true, false, List, [], ◌∷◌, ◌++◌, length, map, Result, Ok, Err, refl, sym, ap, ◌∙◌, append_assoc}
use Rattle.std.proofs.lemmas.List.{map-append}
use Rattle.serde_json.specs.View.{view, items_view}
use Rattle.serde_json.specs.declared.value.Value.{Value}
use Rattle.octets.specs.declared.refusal.Refusal.{Refusal}
use Rattle.octets.specs.Outcomes.{◌>>=◌}
use Rattle.keys.specs.declared.key.Key.{Key}
use Rattle.keys.specs.Keys.{OctetKey, AreOctetKeys, octet_key}
use Rattle.keys.specs.Code.Views.{key_view}
use Rattle.keys.specs.Limits.{limits}
use Rattle.keys.specs.KeySets.{unless_bad, octet_keys, items_count}

-- the keys so far, followed by those that are left
abbrev pub after : List OctetKey → Result (List OctetKey) Refusal → Result (List OctetKey) Refusal
after done (Ok keys) = Ok (done ++ keys)
after done (Err refusal) = Err refusal

-- the keys so far, followed by those of the objects that are left
abbrev pub keys_with : Bool → List Key → List Value → Result (List OctetKey) Refusal
keys_with strict done left = after (map key_view done) (octet_keys limits strict (items_view left))

unchanged : (r : Result (List OctetKey) Refusal) → after [] r ≡ r
unchanged (Ok keys) = refl
unchanged (Err refusal) = refl

pub keys_with-none : (strict : Bool) (left : List Value) → octet_keys limits strict (items_view left) ≡ keys_with strict [] left
keys_with-none strict left = sym (unchanged (octet_keys limits strict (items_view left)))

one_more : (done : List OctetKey) (key : OctetKey) (r : Result (List OctetKey) Refusal)
    → after done (r >>= λ others. Ok (key ∷ others)) ≡ after (done ++ key ∷ []) r
one_more done key (Ok keys) = ap Ok (sym (append_assoc done (key ∷ []) keys))
one_more done key (Err refusal) = refl

pub keys_with-good : (strict : Bool) (done : List Key) (key : Key) (value : Value) (left : List Value) → octet_key limits (view value) ≡ Ok (key_view key)
    → keys_with strict done (value ∷ left) ≡ keys_with strict (done ++ key ∷ []) left
keys_with-good strict done key value left is =
    ap (λ r. after (map key_view done) (unless_bad strict r (octet_keys limits strict (items_view left)))) is
    ∙ one_more (map key_view done) (key_view key) (octet_keys limits strict (items_view left))
    ∙ ap (λ front. after front (octet_keys limits strict (items_view left))) (sym (map-append key_view done (key ∷ [])))

pub keys_with-passed : (done : List Key) (value : Value) (left : List Value) (refusal : Refusal) → octet_key limits (view value) ≡ Err refusal
    → keys_with false done (value ∷ left) ≡ keys_with false done left
keys_with-passed done value left refusal is = ap (λ r. after (map key_view done) (unless_bad false r (octet_keys limits false (items_view left)))) is

pub keys_with-refused : (done : List Key) (value : Value) (left : List Value) (refusal : Refusal) → octet_key limits (view value) ≡ Err refusal
    → keys_with true done (value ∷ left) ≡ Err refusal
keys_with-refused done value left refusal is = ap (λ r. after (map key_view done) (unless_bad true r (octet_keys limits true (items_view left)))) is

-- The number of items of a view is the number of values.
pub items_counted : (values : List Value) → items_count (items_view values) ≡ length values
items_counted [] = refl
items_counted (value ∷ values) = ap suc (items_counted values)

pub keys_counted : (keys : List Key) → length (map key_view keys) ≡ length keys
keys_counted [] = refl
keys_counted (key ∷ keys) = ap suc (keys_counted keys)

-- The octets of keys are octets.
pub have_octets : (keys : List Key) → AreOctetKeys (map key_view keys)
have_octets [] = tt
have_octets (key ∷ keys) = (key.known, have_octets keys)
