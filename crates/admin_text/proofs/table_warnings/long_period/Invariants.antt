use Rattle.std.proofs.Common.{◌≡◌, ◌+◌, drop, map}
use Rattle.admin_text.specs.Warnings.{long_period}
use Rattle.admin_text.proofs.table_warnings.long_period.Given as goal

abbrev pub invariant-loop-index : goal.invariant-loop-index
invariant-loop-index l =
    long_period (6 + l.index) (map (λ word. word.now) (drop l.index l.types)) ≡ long_period 6 (map (λ word. word.now) l.types)
