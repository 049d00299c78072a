use Rattle.std.proofs.Common.{◌≡◌, drop}
use Rattle.std.specs.List.{list_any}
use Rattle.session_core.proofs.progress.has_left.Given as goal

abbrev pub invariant-loop-entry : goal.invariant-loop-entry
invariant-loop-entry l = list_any (λ p. p.left) (drop l.entry-index l.progress) ≡ list_any (λ p. p.left) l.progress
