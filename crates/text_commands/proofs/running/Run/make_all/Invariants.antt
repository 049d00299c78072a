use Rattle.std.proofs.Common.{◌≡◌, ◌≤◌, ◌++◌, ℕ, List, length}
use Rattle.std.specs.List.{AllByRecursion}
use Rattle.std.specs.Vec.Iter.{into_iter_items, into_iter_len}
use Rattle.table_cell.specs.Histories.{CellState}
use Rattle.node_text.specs.Calls.{IsCall}
use Rattle.text_commands.specs.Running.{PrintAll}
use Rattle.text_commands.proofs.running.Run.make_all.Given as goal

abbrev pub invariant-loop-number : goal.invariant-loop-number
invariant-loop-number l = record {
  count : into_iter_len l.number-iterator ≡ length (into_iter_items l.number-iterator);
  calls : AllByRecursion (λ call. (1 ≤ call.0) × IsCall call.1) (into_iter_items l.number-iterator);
  printed : (so_far : List ℕ) × (l.self.text.items ≡ l.fn.self.text.items ++ so_far)
      × ((rest : List ℕ) (e : CellState) → PrintAll l.self.cell l.self.given.items (into_iter_items l.number-iterator) rest e
      → PrintAll l.fn.self.cell l.fn.self.given.items l.fn.calls.items (so_far ++ rest) e);
}
