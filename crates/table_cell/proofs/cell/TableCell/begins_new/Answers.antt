use Rattle.std.proofs.Common.{◌≡◌, ◌==◌, ◌++◌, false, Some, None, eq-eqb, subst, sym, true≢false, ◌∙◌}
use Rattle.std.specs.Prelude.{IsTrue}
use Rattle.std.proofs.lemmas.Bool.{eqb-true}
use Rattle.table_cell.specs.Cells.{IsNewFrom}
use Rattle.table_cell.specs.Histories.{CellState}
use Rattle.table_cell.specs.Machine.{new_table}
use Rattle.table_cell.proofs.AnewLaws.{begins_so, not_begun, same_first, same_limits}
use Rattle.table_cell.proofs.cell.TableCell.begins_new.Goals as goal

pub returns-then-not-has_limits : goal.returns-then-not-has_limits
returns-then-not-has_limits c =
    let a = c.self.inside in
    subst (λ (x : CellState). (IsTrue false → x.base ≡ new_table x.state.definition c.args.size c.args.nopurge c.args.first) × (x.base ≡ new_table x.state.definition c.args.size c.args.nopurge c.args.first → IsTrue false)) c.self.view_is (
      (λ no. absurd (true≢false (sym no))),
      (λ is. sym c.if-not-has_limits.true ∙ c.has_limits.ensures.1 (same_limits a.origin.base a.table (a.origin.past ++ a.history.items) c.args.size c.args.first c.args.nopurge c.self.invariant.sound.replayed is)),
    )

pub returns-in-Some : goal.returns-in-Some
returns-in-Some c =
    let a = c.self.inside in
    let limits = c.has_limits.ensures.0 c.if-not-has_limits.false in
    let new : IsNewFrom a.origin.base (Some c.in-Some.begun) = subst (IsNewFrom a.origin.base) c.in-Some.is c.first.ensures in
    subst (λ (x : CellState). (IsTrue (c.in-Some.begun == c.from.result) → x.base ≡ new_table x.state.definition c.args.size c.args.nopurge c.args.first) × (x.base ≡ new_table x.state.definition c.args.size c.args.nopurge c.args.first → IsTrue (c.in-Some.begun == c.from.result))) c.self.view_is (
      (λ same. begins_so a.origin.base a.table (a.origin.past ++ a.history.items) c.args.size c.in-Some.begun c.args.first c.args.nopurge c.self.invariant.sound.replayed new limits.0 limits.1 (eqb-true c.in-Some.begun c.from.result same ∙ c.from.ensures)),
      (λ is. eq-eqb c.in-Some.begun c.from.result (same_first a.origin.base a.table.definition c.args.size c.in-Some.begun c.args.first c.args.nopurge new is ∙ sym c.from.ensures)),
    )

pub returns-in-None : goal.returns-in-None
returns-in-None c =
    let a = c.self.inside in
    let new : IsNewFrom a.origin.base None = subst (IsNewFrom a.origin.base) c.in-None.is c.first.ensures in
    subst (λ (x : CellState). (IsTrue false → x.base ≡ new_table x.state.definition c.args.size c.args.nopurge c.args.first) × (x.base ≡ new_table x.state.definition c.args.size c.args.nopurge c.args.first → IsTrue false)) c.self.view_is (
      (λ no. absurd (true≢false (sym no))),
      (λ is. absurd (not_begun a.origin.base a.table.definition c.args.size c.args.first c.args.nopurge new is)),
    )
