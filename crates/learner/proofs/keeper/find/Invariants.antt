use Rattle.std.proofs.Common.{◌≡◌, ◌+◌, drop}
use Rattle.std.specs.Prelude.{option_map}
use Rattle.table_types.specs.Rosters.{table_at}
use Rattle.learner.specs.Rows.{index_of}
use Rattle.learner.proofs.keeper.find.Given as goal

abbrev pub invariant-loop-index : goal.invariant-loop-index
invariant-loop-index l =
    (option_map (λ n. n + l.index) (index_of (drop l.index l.tables) l.id) ≡ index_of l.tables l.id) × (table_at (drop l.index l.tables) l.id ≡ table_at l.tables l.id)
