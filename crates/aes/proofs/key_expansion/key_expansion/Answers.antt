use Rattle.std.proofs.Common.{◌≡◌, ◌+◌, ◌-◌, ◌*◌, ◌<◌, ◌≤◌, length, slice_index, ap, subst, ◌∙◌, arith, ext_get_or, ⊎_elim, drop}
use Rattle.std.proofs.lemmas.Bool.{cases_lt}
use Rattle.std.proofs.lemmas.List.{get_or_append_left}
use Rattle.aes.specs.KeyExpansion.{key_expansion}
use Rattle.aes.proofs.KeyWords.{length-key_expansion, key_octet, next_key_word}
use Rattle.aes.proofs.Parts.{now, at_before, at_part}
use Rattle.aes.proofs.key_expansion.key_expansion.Goals as goal

pub loop-i-init : goal.loop-i-init
loop-i-init c p h =
    let k = c.args.key.now in
    let copied = c.copy_from_slice.ensures.after in
    get_or_append_left c.copy_from_slice.new.self (drop (4 * c.args.nk) c.args.round_keys.now) 0 p (omega (arith, ap length copied, c.requires.key, h))
    ∙ ap (λ l. slice_index l p) copied
    ∙ key_octet c.args.nk k c.requires.size.0 c.requires.key p (omega (arith, c.requires.key, h))

pub loop-i-preserved : goal.loop-i-preserved
loop-i-preserved c p h =
    let nk = c.args.nk in
    let i = c.loop-i.i in
    let w = c.loop-i.round_keys in
    let x = c.copy_from_slice-in-loop-i.new.self in
    let whole = key_expansion nk c.args.key.now in
    let n = 4 * i + 4 - 4 * i in
    let four : n ≡ 4 = omega arith in
    let room : 4 * i + n ≤ length w = omega arith in
    let long : length x ≡ n = c.copy_from_slice-in-loop-i.auto.self ∙ omega (arith, room) in
    ⊎_elim
    (λ b. at_before w x (4 * i) n long room p b ∙ c.loop-i.invariant p b)
    (λ b.
    let r = p - 4 * i in
    let here : 4 * i + r ≡ p = omega (arith, b) in
    let below : r < 4 = omega (arith, b, h) in
    subst (λ q. slice_index (now w x (4 * i) n long room) q ≡ slice_index whole q) here
    (at_part w x (4 * i) n long room r (omega (arith, below, four))
    ∙ ap (λ l. slice_index l r) c.copy_from_slice-in-loop-i.ensures.after
    ∙ c.next_word-word.ensures r below
    ∙ next_key_word nk c.args.key.now c.requires.size.0 c.requires.key w i r (omega arith) (omega arith) below c.loop-i.invariant))
    (cases_lt p (4 * i))

pub returns : goal.returns
returns c =
    let size = length-key_expansion c.args.nk c.args.key.now c.requires.size.0 c.requires.key in
    ext_get_or 0 c.loop-i.round_keys (key_expansion c.args.nk c.args.key.now) (omega (arith, size)) (λ p h. c.loop-i.invariant p (omega arith))
