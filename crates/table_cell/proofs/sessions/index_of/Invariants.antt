use Rattle.std.proofs.Common.{◌≡◌, ◌+◌, drop}
use Rattle.std.specs.Prelude.{option_map}
use Rattle.table_cell.specs.Parts.{index_of}
use Rattle.table_cell.proofs.sessions.index_of.Given as goal

abbrev pub invariant-loop-index : goal.invariant-loop-index
invariant-loop-index l = option_map (λ n. n + l.index) (index_of l.session (drop l.index l.sessions)) ≡ index_of l.session l.sessions
