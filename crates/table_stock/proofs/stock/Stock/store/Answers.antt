use Rattle.std.proofs.Common.{◌≡◌, ℕ, ◌+◌, ◌<◌, ◌^◌, ◌∷◌, ◌++◌, List, [], Option, ◌∙◌, ap, subst, sym}
use Rattle.table_types.specs.declared.key.Key.{Key}
use Rattle.table_types.specs.Rows.{StoredRow}
use Rattle.table_stock.specs.Shelves.{IsSwept, row_in, rows_in}
use Rattle.table_stock.specs.Stock.{Stocked, stocked}
use Rattle.table_stock.proofs.CallLaws.{on_err, stored_rows, stored_shelved}
use Rattle.table_stock.proofs.ShelfLaws.{has_row, same_shelved, unused_end}
use Rattle.table_stock.proofs.stock.Stock.store.Goals as goal

-- a slot that is a key's has a row
pub put_row-requires : goal.put_row-requires
put_row-requires c =
    let stock = c.self.inside in
    record { found = has_row stock.keys.entries (row_in stock.slots.rows) stock.log.entries stock.next stock.ends.keys c.self.invariant c.args.key }

pub invariant_of-self-2 : goal.invariant_of-self-2
invariant_of-self-2 c =
    let stock = c.self.inside in
    let slot = c.in_ok-slot.slot in
    let after = c.put_row.new.slots.rows in
    let next : stock.next ≡ c.args.self.now.next = ap (λ (s : Stocked). s.next) c.self.view_is in
    let left : stock.next < 2 ^ 32 = subst (λ (n : ℕ). n < 2 ^ 32) (sym next) c.requires.left in
    let number : c.args.row.number ≡ stock.next = c.requires.number ∙ sym next in
    let pushed : c.push.new.self.entries ≡ stock.log.entries ++ (stock.next, slot) ∷ [] =
    c.push.ensures ∙ ap (λ (l : List (ℕ × ℕ)). l ++ (c.number-number.result, slot) ∷ []) c.make_room.ensures.stays ∙ ap (λ (n : ℕ). stock.log.entries ++ (n, slot) ∷ []) (c.number-number.ensures ∙ number) in
    let swept = subst (λ (l : List (ℕ × ℕ)). IsSwept (row_in after) l c.sweep.new.self.entries) pushed c.sweep.ensures in
    stored_shelved stock.keys.entries stock.slots.rows stock.log.entries stock.next stock.ends.keys c.self.invariant c.args.key c.args.row number slot c.put_row.new.keys.entries after c.in_ok-slot.ensures.put c.sweep.new.self.entries swept left
    c.in_ok-slot.ensures.within c.put_row.new.ends.keys c.in_ok-slot.ensures.ends

pub returns-clause-stored : goal.returns-clause-stored
returns-clause-stored c =
    let stock = c.self.inside in
    let slot = c.in_ok-slot.slot in
    let after = c.put_row.new.slots.rows in
    let next : stock.next ≡ c.args.self.now.next = ap (λ (s : Stocked). s.next) c.self.view_is in
    let number : c.args.row.number ≡ stock.next = c.requires.number ∙ sym next in
    let pushed : c.push.new.self.entries ≡ stock.log.entries ++ (stock.next, slot) ∷ [] =
    c.push.ensures ∙ ap (λ (l : List (ℕ × ℕ)). l ++ (c.number-number.result, slot) ∷ []) c.make_room.ensures.stays ∙ ap (λ (n : ℕ). stock.log.entries ++ (n, slot) ∷ []) (c.number-number.ensures ∙ number) in
    let swept = subst (λ (l : List (ℕ × ℕ)). IsSwept (row_in after) l c.sweep.new.self.entries) pushed c.sweep.ensures in
    rw (← c.self.view_is)
    (ap (stocked (stock.next + 1)) (stored_rows stock.keys.entries stock.slots.rows stock.log.entries stock.next stock.ends.keys c.self.invariant c.args.key c.args.row number slot c.put_row.new.keys.entries after c.in_ok-slot.ensures.put c.sweep.new.self.entries swept))

-- memory ran out, and there are the same rows, keys, entries and ends again
pub invariant_of-self-in_err-slot : goal.invariant_of-self-in_err-slot
invariant_of-self-in_err-slot c =
    let stock = c.self.inside in
    let next : stock.next ≡ c.args.self.now.next = ap (λ (s : Stocked). s.next) c.self.view_is in
    let unused = unused_end stock.keys.entries (row_in stock.slots.rows) stock.log.entries stock.next stock.ends.keys c.self.invariant c.args.row (c.requires.number ∙ sym next) in
    same_shelved stock.keys.entries (row_in stock.slots.rows) stock.log.entries stock.next stock.ends.keys c.self.invariant c.put_row.new.keys.entries (row_in c.put_row.new.slots.rows) c.make_room.new.self.entries c.put_row.new.ends.keys
    c.in_err-slot.ensures.same_keys (λ slot. ap (λ (l : List (Option (Key × StoredRow))). row_in l slot) c.in_err-slot.ensures.same_rows) c.make_room.ensures.stays (c.in_err-slot.ensures.as_before unused)

pub returns-in_err-slot-clause-stays : goal.returns-in_err-slot-clause-stays
returns-in_err-slot-clause-stays c =
    let stock = c.self.inside in
    let after = row_in c.put_row.new.slots.rows in
    on_err c.from_residual-in_err-slot.result
    (ap (λ (l : List (ℕ × ℕ)). stocked stock.next (rows_in after l)) c.make_room.ensures.stays
    ∙ ap (λ (l : List (Option (Key × StoredRow))). stocked stock.next (rows_in (row_in l) stock.log.entries)) c.in_err-slot.ensures.same_rows
    ∙ c.self.view_is)
