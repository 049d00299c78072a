use Rattle.std.proofs.Common.{◌≡◌, ◌++◌, ℕ, List, length}
use Rattle.std.specs.Vec.Iter.{into_iter_items, into_iter_len}
use Rattle.interleave_core.specs.Worlds.{WorldState}
use Rattle.text_commands.specs.Worlds.{PrintLines}
use Rattle.text_commands.proofs.world_running.run_lines.Given as goal

abbrev pub invariant-loop-line : goal.invariant-loop-line
invariant-loop-line l = record {
  count : into_iter_len l.line-iterator ≡ length (into_iter_items l.line-iterator);
  printed : (so_far : List ℕ) × (l.text.items ≡ l.fn.text.items ++ so_far)
      × ((rest : List ℕ) (e : WorldState) → PrintLines l.world (into_iter_items l.line-iterator) rest e
      → PrintLines l.fn.world l.fn.lines.items (so_far ++ rest) e);
}
