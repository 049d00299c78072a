use Rattle.std.proofs.Common.{◌≡◌, ◌∙◌, ℕ, ◌+◌, ◌%◌, ◌^◌, [], ap, sym, subst}
use Rattle.table_cell.specs.Cells.{IsCell, OriginState, cell_of}
use Rattle.table_cell.specs.Histories.{CellState, events_of}
use Rattle.table_cell.specs.Machine.{TableState}
use Rattle.table_cell.specs.Renumbering.{renumbered}
use Rattle.table_cell.proofs.RenumberLaws.{begun_at, none_open, renumbered_parts}
use Rattle.table_cell.proofs.SlideLaws.{Copies, Entries}
use Rattle.table_cell.proofs.cell.TableCell.renumber.Goals as goal

pub invariant_of-self-2 : goal.invariant_of-self-2
invariant_of-self-2 c =
    let a = c.self.inside in
    let before = events_of (cell_of a.origin a.history.items a.table) in
    let none : a.table.sessions ≡ [] = none_open a.table.sessions (sym c.has_sessions.ensures ∙ c.if-has_sessions.false) in
    let table : c.renumber.new.self ≡ renumbered a.table = c.in-Ok.ensures.renumbered in
    let events : c.events-events.result ≡ before = c.events-events.ensures.events ∙ sym (ap events_of c.self.view_is) in
    let renewals : (c.renewals-renewals.result + 1) % 2 ^ 64 ≡ (a.origin.renewals + 1) % 2 ^ 64 =
    ap (λ (n : ℕ). (n + 1) % 2 ^ 64) (c.renewals-renewals.ensures ∙ sym (ap (λ (x : CellState). x.renewals) c.self.view_is)) in
    let origin : c.at.result ≡ begun_at (renumbered a.table) before ((a.origin.renewals + 1) % 2 ^ 64) =
    c.at.ensures ∙ ap (λ (s : TableState). begun_at s c.events-events.result ((c.renewals-renewals.result + 1) % 2 ^ 64)) table ∙ ap (λ (n : ℕ). begun_at (renumbered a.table) n ((c.renewals-renewals.result + 1) % 2 ^ 64)) events
    ∙ ap (begun_at (renumbered a.table) before) renewals in
    subst (λ (o : OriginState). IsCell o c.new-2.result.items c.renumber.new.self c.new.result.entries) (sym origin)
    (subst (λ (hs : Entries). IsCell (begun_at (renumbered a.table) before ((a.origin.renewals + 1) % 2 ^ 64)) hs c.renumber.new.self c.new.result.entries) (sym c.new-2.ensures)
    (subst (λ (s : TableState). IsCell (begun_at (renumbered a.table) before ((a.origin.renewals + 1) % 2 ^ 64)) [] s c.new.result.entries) (sym table)
    (subst (λ (cs : Copies). IsCell (begun_at (renumbered a.table) before ((a.origin.renewals + 1) % 2 ^ 64)) [] (renumbered a.table) cs) (sym c.new.ensures.empty)
    (renumbered_parts a.origin a.table a.history.items a.latest_copies.entries none c.self.invariant))))
