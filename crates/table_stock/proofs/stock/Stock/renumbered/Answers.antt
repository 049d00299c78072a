use Rattle.std.proofs.Common.{◌≡◌, ◌∙◌, ◌+◌, List, length, suc, ap, refl, subst, arith}
use Rattle.table_types.specs.declared.key.Key.{Key}
use Rattle.table_types.specs.Rows.{StoredRow}
use Rattle.table_stock.specs.Stock.{IsStock, Stocked}
use Rattle.table_stock.proofs.NumberedLaws.{one_stored, rise_count}
use Rattle.table_stock.proofs.StockSteps.{all_above}
use Rattle.table_stock.proofs.stock.Stock.renumbered.Goals as goal

pub loop-key-init : goal.loop-key-init
loop-key-init c =
    let sound = subst IsStock c.self.view_is c.self.invariant.sound in
    let all : c.into_iter-key-iterator.result ≡ c.args.self.now.rows =
    c.into_iter-key-iterator.ensures.into_iter_gives ∙ c.above-key-items.ensures ∙ all_above 1 c.args.self.now.next c.args.self.now.rows (omega arith) sound.numbers in
    rw (all, c.new-stock.ensures) (refl, omega arith)

pub store_copy-requires : goal.store_copy-requires
store_copy-requires c =
    let sound = subst IsStock c.self.view_is c.self.invariant.sound in
    let count = rise_count 1 c.args.self.now.next c.args.self.now.rows sound.numbers in
    let size : length c.loop-key.key-iterator ≡ suc (length c.next.new.self) = ap (λ (l : List (Key × StoredRow)). length l) c.in-Some.ensures.steps in
    omega (arith, count, sound.most, c.loop-key.invariant.1, size)

pub loop-key-preserved : goal.loop-key-preserved
loop-key-preserved c =
    let sound = subst IsStock c.self.view_is c.self.invariant.sound in
    let size : length c.loop-key.key-iterator ≡ suc (length c.next.new.self) = ap (λ (l : List (Key × StoredRow)). length l) c.in-Some.ensures.steps in
    let next : c.store_copy.new.self.next ≡ c.loop-key.stock.next + 1 = ap (λ (s : Stocked). s.next) c.in_ok-store_copy.ensures in (
      one_stored c.loop-key.stock.rows c.args.self.now.rows c.loop-key.key-iterator c.next.new.self c.loop-key.stock.next (c.in-Some.key.now, c.in-Some.row.now) c.store_copy.new.self sound.keys c.loop-key.invariant.0 c.in-Some.ensures.steps c.in_ok-store_copy.ensures,
      omega (arith, c.loop-key.invariant.1, size, next),
    )
