use Rattle.std.proofs.Common.{◌≡◌, ◌∙◌, ◌+◌, ◌<◌, ℕ, List, [], ◌∷◌, ◌++◌, length, map, take, slice_index_or, string_bytes, ap, sym, subst, arith}
use Rattle.std.proofs.lemmas.List.{take_more, get_or-map, length-map}
use Rattle.tools.specs.Words.{verifying_words}
use Rattle.tools.proofs.words.verifying_words.Goals as goal

-- With one more of the others copied, the words are those of the keys and of one more.
one_more : {X : Type 0} (name : X → List ℕ) (rest : List X) (i : ℕ) (x : X) (keys : List ℕ) (old new : List (List ℕ)) → i < length rest
    → x ≡ slice_index_or rest i x → old ≡ verifying_words keys (take i (map name rest)) → new ≡ old ++ name x ∷ []
    → new ≡ verifying_words keys (take (i + 1) (map name rest))
one_more name rest i x keys old new below here whole added =
    let within : i < length (map name rest) = subst (λ n. i < n) (sym (length-map rest name)) below in
    added ∙ ap (λ words. words ++ name x ∷ []) whole
    ∙ ap (λ text. verifying_words keys (take i (map name rest) ++ text ∷ [])) (sym (get_or-map name rest i x [] below ∙ ap name (sym here)))
    ∙ ap (verifying_words keys) (sym (take_more (map name rest) i [] within))

pub loop-word-preserved : goal.loop-word-preserved
loop-word-preserved c =
    one_more string_bytes c.args.rest.now c.loop-word.word-index c.word-item.result c.args.keys.now _ _ (omega arith) c.word-item.is c.loop-word.invariant
    (c.in_ok-push_word-6.ensures ∙ ap (λ text. map string_bytes c.loop-word.words.items ++ text ∷ []) c.as_str.ensures.value)
