use Rattle.std.proofs.Common.{◌≡◌, ℕ, ◌+◌, inl, inr, sym, subst, ◌∙◌, arith}
use Rattle.std.specs.List.{count_by}
use Rattle.std.proofs.lemmas.Bool.{cases_eq}
use Rattle.table_shards.specs.Roll.{has_number}
use Rattle.table_shards.proofs.roll.are_all_there.Goals as goal

pub loop-before-preserved : goal.loop-before-preserved
loop-before-preserved c = λ number above within.
    let one : count_by (has_number (c.loop-before.before + 1)) c.args.seats.now ≡ 1 = sym c.count.ensures ∙ c.if-count-ne1.false in
    elim (cases_eq number (c.loop-before.before + 1)) [
      | inl is ↦ subst (λ (n : ℕ). count_by (has_number n) c.args.seats.now ≡ 1) (sym is) one
      | inr other ↦ c.loop-before.invariant number above (omega (arith, other, within))
    ]
