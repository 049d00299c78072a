use Rattle.std.proofs.Common.{◌≡◌, Bool, true, false, not, ℕ, List, refl, sym, ap, ◌∙◌}
use Rattle.std.specs.BTreeMap.{is_at}
use Rattle.std.specs.List.{list_any}
use Rattle.std.specs.Ordering.{nat_cmp}
use Rattle.std.specs.Set.{remove_key}
use Rattle.learner.proofs.DueAcks.{undone}
use Rattle.learner.proofs.intake.Intake.remember.Goals as goal

not_true : (b : Bool) → not b ≡ true → b ≡ false
not_true true h = sym h
not_true false h = refl

pub returns-in-Err-clause-stays : goal.returns-in-Err-clause-stays
returns-in-Err-clause-stays c =
    let id : ℕ = c.args.update.table in
    let before : List ℕ = c.self.inside.due.keys in
    let none : list_any (is_at (nat_cmp id)) before ≡ false = not_true _ (sym c.in_ok-is_new.ensures.added ∙ c.if-is_new.true) in
    let due : c.remove.new.self.keys ≡ before = c.remove.ensures.keys ∙ ap (λ (ids : List ℕ). remove_key (is_at (nat_cmp id)) ids) c.in_ok-is_new.ensures.keys ∙ undone id before none in
    rw (c.in-Err.ensures.stays, due) c.self.view_is
