use Rattle.std.proofs.Common.{◌≡◌, ◌+◌, ◌*◌, ◌/◌, drop, ℕ, refl, sym, ap, ◌∙◌, arith}
use Rattle.std.specs.Ordering.{nat_cmp}
use Rattle.std.specs.Cmp.Lexicographic.{slice_cmp}
use Rattle.std.specs.Int.{w64, from_be_bytes}
use Rattle.std.proofs.lemmas.List.{take_rest}
use Rattle.table_types.proofs.ByteOrder.{by_words}
use Rattle.table_types.proofs.byte_order.compare_bytes.Goals as goal

pub loop-word-init : goal.loop-word-init
loop-word-init c = refl

pub returns-then-one-other : goal.returns-then-one-other
returns-then-one-other c =
    let at : ℕ = 8 * c.loop-word.word in
    let t = by_words c.args.left.now c.args.right.now c.type_inv.left c.type_inv.right at (omega arith) (omega arith) c.loop-word.invariant in
    c.cmp.ensures ∙ ap (λ x. nat_cmp x c.word_at-other.result) c.word_at-one.ensures ∙ ap (nat_cmp (from_be_bytes w64 (drop at c.args.left.now))) c.word_at-other.ensures
    ∙ t.0 (λ e. c.if-one-other.true (c.word_at-one.ensures ∙ e ∙ sym c.word_at-other.ensures))

pub loop-word-preserved : goal.loop-word-preserved
loop-word-preserved c =
    let at : ℕ = 8 * c.loop-word.word in
    let next : at + 8 ≡ 8 * (c.loop-word.word + 1) = omega arith in
    let t = by_words c.args.left.now c.args.right.now c.type_inv.left c.type_inv.right at (omega arith) (omega arith) c.loop-word.invariant in
    t.1 (sym c.word_at-one.ensures ∙ c.if-one-other.false ∙ c.word_at-other.ensures)
    ∙ ap (λ k. slice_cmp nat_cmp (drop k c.args.left.now) (drop k c.args.right.now)) next

pub returns : goal.returns
returns c =
    let words : ℕ = c.loop-word.word in
    let end : c.min-words.result / 8 ≡ words = omega (arith, c.loop-word.auto.word-end, c.loop-word-test.false) in
    c.cmp-2.ensures
    ∙ (λ i. slice_cmp nat_cmp (take_rest c.args.left.now (8 * (c.min-words.result / 8)) i) (take_rest c.args.right.now (8 * (c.min-words.result / 8)) i))
    ∙ ap (λ k. slice_cmp nat_cmp (drop (8 * k) c.args.left.now) (drop (8 * k) c.args.right.now)) end
    ∙ sym c.loop-word.invariant
