use Rattle.std.proofs.Common.{◌≡◌, ◌==◌, drop}
use Rattle.std.specs.Map.{lookup}
use Rattle.table_cell.proofs.sessions.progress_in.Given as goal

abbrev pub invariant-loop-entry : goal.invariant-loop-entry
invariant-loop-entry l = lookup (λ id. id == l.session) (drop l.entry-index l.sessions) ≡ lookup (λ id. id == l.session) l.sessions
