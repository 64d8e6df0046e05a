use Rattle.std.proofs.Common.{◌≡◌, ℕ, ◌+◌, ◌-◌, ◌*◌, ◌/◌, ◌<◌, ◌≤◌, List, [], ◌++◌, length, take, drop, refl, sym, ap, ap₂, subst, ◌∙◌, arith, length-append, length-take, append_assoc}
use Rattle.std.proofs.lemmas.List.{take_at, drop-drop}
use Rattle.std.proofs.lemmas.Slice.{drop-append-drop}
use Rattle.modes.specs.Cbc.{chained, cbc_blocks}
use Rattle.modes.specs.Code.Views.{HoldsCbc}
use Rattle.modes.proofs.Chaining.{none_alone}
use Rattle.modes.proofs.Fed.{fed_previous, fed_text, filled_previous, filled_text}
use Rattle.modes.proofs.Pieces.{fed_waiting, filled_waiting}
use Rattle.modes.proofs.cbc.Cbc.feed.Goals as goal

front_of : (x y z : List ℕ) (n : ℕ) → length x + length y ≡ n → take n (x ++ (y ++ z)) ≡ x ++ y
front_of x y z n h = ap (take n) (sym (append_assoc x y z)) ∙ take_at (x ++ y) z n (length-append x y ∙ h)

behind : (x y out : List ℕ) (n : ℕ) → length x ≡ 16 → length y ≡ n → drop (16 + n) (x ++ (y ++ drop n (drop 16 out))) ≡ drop (16 + n) out
behind x y out n sixteen long =
    ap (λ t. drop (16 + n) (x ++ (y ++ t))) (drop-drop n 16 out)
    ∙ ap (drop (16 + n)) (sym (append_assoc x y (drop (16 + n) out)))
    ∙ drop-append-drop (16 + n) out (x ++ y) (16 + n) (omega arith) (length-append x y ∙ omega (arith, sixteen, long))

pub returns-then-piece-space-clause-fed : goal.returns-then-piece-space-clause-fed
unfolding chained
returns-then-piece-space-clause-fed g c e iv p f =
    let s = c.args.self.now in
    let w = s.waiting in
    let x = c.args.piece.now in
    let short : length (w ++ x) < 16 = omega (arith, length-append w x, c.space-space.ensures.space, c.if-piece-space.true) in
    record {
      cipher = f.cipher;
      previous = fed_previous e iv p s.previous w f.previous f.waiting x [] (w ++ x) 0 refl refl short;
      waiting = c.push.ensures ∙ fed_waiting p w f.waiting x [] (w ++ x) 0 refl refl short;
    }

pub returns-then-piece-space-clause-text : goal.returns-then-piece-space-clause-text
returns-then-piece-space-clause-text g c e iv p f =
    let s = c.args.self.now in
    let w = s.waiting in
    let x = c.args.piece.now in
    let short : length (w ++ x) < 16 = omega (arith, length-append w x, c.space-space.ensures.space, c.if-piece-space.true) in
    fed_text e iv p s.previous w f.previous f.waiting x [] (w ++ x) 0 refl refl short
    ∙ ap (λ t. cbc_blocks e iv p ++ t) (none_alone e s.previous [] (omega arith))

-- The block that is filled is encrypted in one step.
first_block : (e h : List ℕ → List ℕ) (previous last b block : List ℕ) → last ≡ chained h previous b (length b / 16) → b ≡ block → length block ≡ 16 → h ≡ e
    → last ≡ chained e previous block 1
first_block e h previous last b block is same sixteen cipher =
    is ∙ ap₂ (λ f x. chained f previous x (length x / 16)) cipher same
    ∙ ap (chained e previous block) (let z : length block / 16 ≡ 1 = omega (arith, sixteen) in z)

pub returns-clause-fed : goal.returns-clause-fed
returns-clause-fed g c e iv p f =
    let s = c.args.self.now in
    let w = s.waiting in
    let front = c.split_at.result.0.now in
    let rest = c.split_at.result.1.now in
    let blocks = take (length rest / 16 * 16) rest in
    let left = take (length rest - length rest / 16 * 16) (drop (length rest / 16 * 16) rest) in
    let fills : length w + length front ≡ 16 = omega (arith, c.space-space.ensures.space, c.split_at.ensures.front_len) in
    let first = first_block e (g.B.Block.encrypted s.cipher) s.previous c.encrypt_blocks.new.previous c.complete-block.result (w ++ front)
    c.encrypt_blocks.ensures.last c.complete-block.ensures.block (length-append w front ∙ fills) f.cipher in
    let fed = record s { previous = c.encrypt_blocks-2.new.previous; waiting = c.push-2.new.self } in
    subst (λ x. HoldsCbc g.B.Block.encrypted fed e iv (p ++ x)) (sym c.split_at.ensures.by_index.0) record {
      cipher = f.cipher;
      previous =
          c.encrypt_blocks-2.ensures.last
          ∙ ap₂ (λ h t. chained h t blocks (length blocks / 16)) f.cipher first
          ∙ filled_previous e iv p s.previous w f.previous f.waiting front rest fills;
      waiting =
          c.push-2.ensures
          ∙ ap (λ t. t ++ left) c.complete-block.ensures.none
          ∙ filled_waiting p w f.waiting front rest fills;
    }

pub returns-clause-text : goal.returns-clause-text
returns-clause-text g c e iv p f =
    let s = c.args.self.now in
    let w = s.waiting in
    let front = c.split_at.result.0.now in
    let rest = c.split_at.result.1.now in
    let blocks = take (length rest / 16 * 16) rest in
    let fills : length w + length front ≡ 16 = omega (arith, c.space-space.ensures.space, c.split_at.ensures.front_len) in
    let first = first_block e (g.B.Block.encrypted s.cipher) s.previous c.encrypt_blocks.new.previous c.complete-block.result (w ++ front)
    c.encrypt_blocks.ensures.last c.complete-block.ensures.block (length-append w front ∙ fills) f.cipher in
    let others = c.split_at_mut-first.result.1.now in
    let sizes : length c.encrypt_blocks.new.out + length c.encrypt_blocks-2.new.out ≡ 16 + length rest / 16 * 16 =
    omega (
      arith,
      c.encrypt_blocks.auto.out,
      c.encrypt_blocks-2.auto.out,
      c.split_at_mut-first.ensures.front_len,
      c.split_at_mut-first.ensures.back_len,
      c.split_at.ensures.back_len,
      length-take (length rest / 16 * 16) others,
    ) in
    ap (λ x. cbc_blocks e iv (p ++ x)) c.split_at.ensures.by_index.0
    ∙ filled_text e iv p s.previous w f.previous f.waiting front rest fills
    ∙ ap (λ t. cbc_blocks e iv p ++ t)
    (ap₂ (λ a b. a ++ b)
    (ap₂ (λ h t. cbc_blocks h s.previous t) (sym f.cipher) (sym c.complete-block.ensures.block) ∙ sym c.encrypt_blocks.ensures.text)
    (ap₂ (λ h t. cbc_blocks h t blocks) (sym f.cipher) (sym first) ∙ sym c.encrypt_blocks-2.ensures.text)
    ∙ sym (front_of c.encrypt_blocks.new.out c.encrypt_blocks-2.new.out _ (16 + length rest / 16 * 16) sizes))

pub returns-clause-rest : goal.returns-clause-rest
returns-clause-rest g c =
    let n = length c.split_at.result.1.now / 16 * 16 in
    let others = c.split_at_mut-first.result.1.now in
    let room : n ≤ length others = omega (arith, c.split_at_mut-first.ensures.back_len, c.split_at.ensures.back_len, c.requires, c.told-out) in
    ap (λ t. drop (16 + n) (c.encrypt_blocks.new.out ++ (c.encrypt_blocks-2.new.out ++ drop n t))) c.split_at_mut-first.ensures.back
    ∙ behind c.encrypt_blocks.new.out c.encrypt_blocks-2.new.out c.args.out.now n
    (omega (arith, c.encrypt_blocks.auto.out, c.split_at_mut-first.ensures.front_len))
    (c.encrypt_blocks-2.auto.out ∙ length-take n others ∙ omega (arith, room))
