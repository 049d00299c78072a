use Rattle.std.proofs.Common.{◌≡◌, drop, map}
use Rattle.admin_text.specs.LineKinds.{all_kinds, first_kind, kind_of}
use Rattle.admin_text.proofs.line_kinds.LineKind.of.Given as goal

abbrev pub invariant-loop-kind : goal.invariant-loop-kind
invariant-loop-kind l = first_kind (map (λ word. word.now) l.words) (drop l.kind-index all_kinds) ≡ kind_of (map (λ word. word.now) l.words)
