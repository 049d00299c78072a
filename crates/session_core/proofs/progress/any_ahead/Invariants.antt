use Rattle.std.proofs.Common.{◌≡◌, drop}
use Rattle.std.specs.List.{list_any}
use Rattle.session_core.proofs.progress.any_ahead.Given as goal

abbrev pub invariant-loop-entry : goal.invariant-loop-entry
invariant-loop-entry l = list_any (λ p. p.ahead) (drop l.entry-index l.progress) ≡ list_any (λ p. p.ahead) l.progress
