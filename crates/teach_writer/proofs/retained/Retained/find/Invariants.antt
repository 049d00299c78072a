use Rattle.std.proofs.Common.{ℕ, ◌≤◌}
use Rattle.teach_writer.specs.Retained.{Retains}
use Rattle.teach_writer.proofs.retained.Retained.find.Given as goal

abbrev pub invariant-loop-index : goal.invariant-loop-index
invariant-loop-index l = (slot : ℕ) → slot ≤ l.index → Retains l.self l.slots slot l.name → ⊥
