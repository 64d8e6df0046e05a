use Rattle.std.proofs.Common.{◌++◌, ◌∷◌, [], length, map, take, string_bytes, arith, sym, ap, ◌∙◌, inl, inr, append_assoc, append-nil}
use Rattle.octets.proofs.Lemmas.{on_success, at_refusal, on_refusal}
use Rattle.tokens.proofs.Signing.Signatures.{text_refused, signature_refused, one_written, last_left, part_left, all_left, is_last, no_more}
use Rattle.tokens.proofs.sign.payload.VecValues.write.Goals as goal

pub returns-in_err-write_whole-clause-beginning : goal.returns-in_err-write_whole-clause-beginning
returns-in_err-write_whole-clause-beginning g c values given =
    let starts = given.starts in
    let text = given.text in
    let h = given.hold in
    rw given.are (
    let steps = c.in-Some.ensures.steps in
    at_refusal c.from_residual.result
    (text_refused g.S.SigningInput.has_taken _ _ c.in-Some.input _ _ c.as_bytes.result.now text _ _ _ (c.loop-input.invariant.left starts text h) steps.0.0
    (ap (map string_bytes) steps.1 ∙ ap (λ t. t ∷ map string_bytes c.next.new.self.b.rest.now) (sym c.as_bytes.ensures.value))
    (g.O.Output.written c.write_whole.new.out) _ c.in_err-write_whole.ensures.part.1))

pub returns-in_err-write_whole-2-clause-beginning : goal.returns-in_err-write_whole-2-clause-beginning
returns-in_err-write_whole-2-clause-beginning g c values given =
    let starts = given.starts in
    let text = given.text in
    let h = given.hold in
    rw given.are (
    let steps = c.in-Some.ensures.steps in
    at_refusal c.from_residual-in_err-write_whole-2.result
    (signature_refused g.S.SigningInput.has_taken _ _ c.in-Some.input _ _ c.as_bytes.result.now text _ _ _ (c.loop-input.invariant.left starts text h) steps.0.0
    (ap (map string_bytes) steps.1 ∙ ap (λ t. t ∷ map string_bytes c.next.new.self.b.rest.now) (sym c.as_bytes.ensures.value))
    c.octets.result.now (take c.encode_onto-len.result c.encode_onto-len.new.out) (λ f key taken k. c.octets.ensures ∙ c.sign-signature.ensures f key taken k)
    c.encode_onto-len.ensures.text
    (g.O.Output.written c.write_whole.new.out) c.in_ok-write_whole.ensures.all
    (g.O.Output.written c.write_whole-in-loop-input.new.out) _ c.in_err-write_whole-2.ensures.part.1))

pub loop-input-preserved : goal.loop-input-preserved
loop-input-preserved g c =
    let i = c.loop-input.invariant in
    let steps = c.in-Some.ensures.steps in
    record {
      left = λ starts text h.
          one_written g.S.SigningInput.has_taken _ _ c.in-Some.input _ _ c.as_bytes.result.now text _ _ _ (i.left starts text h) steps.0.0
          (ap (map string_bytes) steps.1 ∙ ap (λ t. t ∷ map string_bytes c.next.new.self.b.rest.now) (sym c.as_bytes.ensures.value))
          c.octets.result.now (take c.encode_onto-len.result c.encode_onto-len.new.out)
          (λ f key taken k. c.octets.ensures ∙ c.sign-signature.ensures f key taken k) c.encode_onto-len.ensures.text
          (g.O.Output.written c.write_whole.new.out) c.in_ok-write_whole.ensures.all
          (g.O.Output.written c.write_whole-in-loop-input.new.out) c.in_ok-write_whole-2.ensures.all;
      places = omega (arith, i.places, ap length steps.0.0, ap length steps.1);
      count = omega (arith, i.count, ap length steps.0.0, steps.0.1);
      front = (
        i.front.0 ++ (c.in-Some.text.now ∷ []),
        i.front.1 ∙ ap (λ l. i.front.0 ++ l) steps.1
            ∙ sym (append_assoc i.front.0 (c.in-Some.text.now ∷ []) c.next.new.self.b.rest.now),
      );
      wrote = c.in_ok-write_whole-2.ensures.works ∙ c.in_ok-write_whole.ensures.works ∙ i.wrote;
      endings = c.write_whole-in-loop-input.ensures.endings ∙ c.write_whole.ensures.endings ∙ i.endings;
    }

pub returns-clause-all : goal.returns-clause-all
returns-clause-all g c values given =
    let starts = given.starts in
    let text = given.text in
    let h = given.hold in
    rw given.are (
    let i = c.loop-input.invariant in
    let none = no_more c.loop-input.input-iterator.a.rest.len c.loop-input.input-iterator.a.rest.items c.loop-input.input-iterator.b.rest.now i.places i.count
    (elim c.in-None.ensures.steps [ inl w ↦ inl w.1.0 | inr w ↦ inr w.1.0 ]) in
    let last = is_last c.args.texts.now i.front.0 c.loop-input.input-iterator.b.rest.now c.index-texts-texts.result i.front.1 none.1 in
    let left = last_left g.S.SigningInput.has_taken _ _ c.as_bytes-2.result.now text _ _ _ (i.left starts text h) none.0
    (ap (map string_bytes) last ∙ ap (λ s. string_bytes s ∷ []) (sym c.index-texts-texts.is) ∙ ap (λ t. t ∷ []) (sym c.as_bytes-2.ensures.value)) in
    on_success c.emit.result c.emit.ensures.all (all_left _ _ _ _ _ left))

pub returns-clause-beginning : goal.returns-clause-beginning
returns-clause-beginning g c values given =
    let starts = given.starts in
    let text = given.text in
    let h = given.hold in
    rw given.are (
    let i = c.loop-input.invariant in
    let none = no_more c.loop-input.input-iterator.a.rest.len c.loop-input.input-iterator.a.rest.items c.loop-input.input-iterator.b.rest.now i.places i.count
    (elim c.in-None.ensures.steps [ inl w ↦ inl w.1.0 | inr w ↦ inr w.1.0 ]) in
    let last = is_last c.args.texts.now i.front.0 c.loop-input.input-iterator.b.rest.now c.index-texts-texts.result i.front.1 none.1 in
    let left = last_left g.S.SigningInput.has_taken _ _ c.as_bytes-2.result.now text _ _ _ (i.left starts text h) none.0
    (ap (map string_bytes) last ∙ ap (λ s. string_bytes s ∷ []) (sym c.index-texts-texts.is) ∙ ap (λ t. t ∷ []) (sym c.as_bytes-2.ensures.value)) in
    on_refusal c.emit.result c.emit.ensures.part (λ part. part_left c.as_bytes-2.result.now [] _ _ _ _ _ left (sym (append-nil c.as_bytes-2.result.now)) part))
