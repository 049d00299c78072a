use Rattle.std.proofs.Common.{◌≡◌, ◌<◌, ◌+◌, Some, arith, ap, not, refl, sym, subst, take, ◌∙◌}
use Rattle.std.specs.Prelude.{slice_get}
use Rattle.table_stock.specs.Shelves.{IsSwept, ListInLog, current, logged_in, row_in}
use Rattle.table_stock.proofs.LogLaws.{entry_kept, entry_left, nothing_swept, sweep_ended}
use Rattle.table_stock.proofs.SlotLaws.{none_lent}
use Rattle.table_stock.proofs.log.Log.sweep_one.Goals as goal

-- the sweep has looked at every entry
pub returns-then-self : goal.returns-then-self
returns-then-self c =
    let log = c.self.inside in
    let at = row_in c.args.slots.now.rows in
    subst (λ (l : ListInLog). IsSwept at l.entries (logged_in (take log.kept log.entries.items) 0 0)) c.self.view_is
    (sweep_ended at log.entries.items log.kept log.unswept log.end c.self.invariant.0 c.self.invariant.1 c.self.invariant.2 (omega (arith, c.if-self.true)))

pub returns-in_default : goal.returns-in_default
returns-in_default c = nothing_swept (row_in c.args.slots.now.rows) c.args.self.now.entries c.args.self.now.entries refl

-- the entry is stale
pub returns-then-is_none : goal.returns-then-is_none
returns-then-is_none c =
    let log = c.self.inside in
    let at = row_in c.args.slots.now.rows in
    let within : log.unswept < log.end = omega (arith, c.if-self.false) in
    let found : slice_get log.entries.items log.unswept ≡ Some c.in-Some.entry = sym c.get.ensures ∙ sym c.copied.ensures ∙ c.in-Some.is in
    let stale = none_lent c.row_of.result (current at c.in-Some.entry) (c.is_none.ensures ∙ ap not c.if-is_none.true) c.row_of.ensures in
    subst (λ (l : ListInLog). IsSwept at l.entries (logged_in (take log.end log.entries.items) log.kept (log.unswept + 1))) c.self.view_is
    (entry_left at log.entries.items log.kept log.unswept log.end c.in-Some.entry within found stale)

-- and is kept otherwise
pub returns : goal.returns
returns c =
    let log = c.self.inside in
    let at = row_in c.args.slots.now.rows in
    let within : log.unswept < log.end = omega (arith, c.if-self.false) in
    let found : slice_get log.entries.items log.unswept ≡ Some c.in-Some.entry = sym c.get.ensures ∙ sym c.copied.ensures ∙ c.in-Some.is in
    subst (λ (l : ListInLog). IsSwept at l.entries (logged_in (take log.end c.replace.new.self.items) (log.kept + 1) (log.unswept + 1))) c.self.view_is
    (entry_kept at log.entries.items c.replace.new.self.items log.kept log.unswept log.end c.in-Some.entry c.self.invariant.0 within c.self.invariant.2 found c.replace.ensures.put)
