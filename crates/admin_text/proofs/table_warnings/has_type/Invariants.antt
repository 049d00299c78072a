use Rattle.std.proofs.Common.{◌≡◌, drop, map}
use Rattle.admin_text.specs.Warnings.{has_type}
use Rattle.admin_text.proofs.table_warnings.has_type.Given as goal

abbrev pub invariant-loop-other : goal.invariant-loop-other
invariant-loop-other l =
    has_type l.word (map (λ word. word.now) (drop l.other-index l.words)) ≡ has_type l.word (map (λ word. word.now) l.words)
