use Rattle.std.proofs.Common.{◌≡◌, ◌++◌, ◌<◌, ◌≤◌, List, length}
use Rattle.std.specs.Prelude.{filter}
use Rattle.table_types.specs.declared.key.Key.{Key}
use Rattle.table_types.specs.Rows.{StoredRow}
use Rattle.table_cell.specs.Pending.{first_number, pending}
use Rattle.table_cell.proofs.UnackedLaws.{is_above}
use Rattle.table_cell.proofs.table.Table.pending_above.Given as goal

-- the rows counted so far are the first of those to be counted, up to the number seen, above which the remaining rows are
abbrev pub invariant-loop-row : goal.invariant-loop-row
invariant-loop-row l = record {
  counted : (counted : List (Key × StoredRow)) × (counted ++ pending l.fn.kind l.fn.bound l.seen l.fn.now l.fn.self.rows ≡ pending l.fn.kind l.fn.bound l.fn.number l.fn.now l.fn.self.rows)
      × (l.count ≡ length counted) × (l.first ≡ first_number counted);
  left : l.row-iterator ≡ filter (is_above l.seen) l.fn.self.rows;
  from : l.fn.number ≤ l.seen;
  onward : 1 ≤ l.looked → l.fn.number < l.seen;
  fewer : l.count ≤ l.looked;
  within : l.looked ≤ l.fn.most;
}
