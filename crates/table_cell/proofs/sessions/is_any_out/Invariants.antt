use Rattle.std.proofs.Common.{◌≡◌, drop}
use Rattle.std.specs.List.{list_any}
use Rattle.table_cell.specs.Machine.{is_out}
use Rattle.table_cell.proofs.sessions.is_any_out.Given as goal

abbrev pub invariant-loop-entry : goal.invariant-loop-entry
invariant-loop-entry l = list_any (λ entry. is_out entry.1) (drop l.entry-index l.sessions) ≡ list_any (λ entry. is_out entry.1) l.sessions
