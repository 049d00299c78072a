use Rattle.std.proofs.Common.{◌≡◌, ◌-◌, ℕ, ◌∷◌, List, [], Some, None, ap, subst, sym, ◌∙◌}
use Rattle.std.specs.Prelude.{filter, nat_lt}
use Rattle.std.proofs.lemmas.Option.{none-some, same_Some}
use Rattle.table_types.specs.declared.key.Key.{Key}
use Rattle.table_types.specs.Rows.{StoredRow}
use Rattle.table_stock.specs.Shelves.{TakesRow, UpdatesSlot, row_in, rows_in}
use Rattle.table_stock.proofs.LogLaws.{above_rows}
use Rattle.table_stock.proofs.StockSteps.{same_head}
use Rattle.table_stock.proofs.stock.take_from.Goals as goal

-- there are no rows from the number on
pub returns-in_default : goal.returns-in_default
returns-in_default c = λ e rest first.
    let at = row_in c.args.slots.now.rows in
    let log = c.args.log.now.entries in
    let all : c.new.result ≡ filter (λ q. nat_lt (c.args.number - 1) q.1.number) (rows_in at log) =
    c.new.ensures ∙ ap (rows_in at) (c.first_above-first.ensures 1 c.requires.0 c.requires.1) ∙ above_rows at c.saturating_sub.result log
    ∙ ap (λ (m : ℕ). filter (λ q. nat_lt m q.1.number) (rows_in at log)) c.saturating_sub.ensures in
    let both : [] ≡ e ∷ rest = sym c.in_default.ensures.steps.0 ∙ all ∙ first in
    absurd cc

-- the first of them is in its key's slot
pub returns-in-Some-remove : goal.returns-in-Some-remove
returns-in-Some-remove c = λ e rest first.
    let at = row_in c.args.slots.now.rows in
    let log = c.args.log.now.entries in
    let all : c.new.result ≡ filter (λ q. nat_lt (c.args.number - 1) q.1.number) (rows_in at log) =
    c.new.ensures ∙ ap (rows_in at) (c.first_above-first.ensures 1 c.requires.0 c.requires.1) ∙ above_rows at c.saturating_sub.result log
    ∙ ap (λ (m : ℕ). filter (λ q. nat_lt m q.1.number) (rows_in at log)) c.saturating_sub.ensures in
    let one = same_head (c.in-Some.key.now, c.in-Some.field-0-1.now) e c.next.new.self rest (sym c.in-Some.ensures.steps ∙ all ∙ first) in
    subst (λ (q : Key × StoredRow). TakesRow q.0 c.args.keys.now.entries c.remove.new.self.entries c.args.slots.now.rows c.take.new.self.rows) one
    (record {
      named = c.remove.ensures.updates.0;
      taken = λ slot is. subst (λ (n : ℕ). UpdatesSlot c.args.slots.now.rows c.take.new.self.rows n None) (same_Some c.in-Some-remove.slot slot (c.in-Some-remove.ensures.value ∙ is)) c.take.ensures;
    })

pub returns-in_default-remove : goal.returns-in_default-remove
returns-in_default-remove c = λ e rest first.
    let at = row_in c.args.slots.now.rows in
    let log = c.args.log.now.entries in
    let all : c.new.result ≡ filter (λ q. nat_lt (c.args.number - 1) q.1.number) (rows_in at log) =
    c.new.ensures ∙ ap (rows_in at) (c.first_above-first.ensures 1 c.requires.0 c.requires.1) ∙ above_rows at c.saturating_sub.result log
    ∙ ap (λ (m : ℕ). filter (λ q. nat_lt m q.1.number) (rows_in at log)) c.saturating_sub.ensures in
    let one = same_head (c.in-Some.key.now, c.in-Some.field-0-1.now) e c.next.new.self rest (sym c.in-Some.ensures.steps ∙ all ∙ first) in
    subst (λ (q : Key × StoredRow). TakesRow q.0 c.args.keys.now.entries c.remove.new.self.entries c.args.slots.now.rows c.args.slots.now.rows) one
    (record {
      named = c.remove.ensures.updates.0;
      taken = λ slot is. absurd (none-some slot (c.in_default-remove.ensures.value ∙ is));
    })
