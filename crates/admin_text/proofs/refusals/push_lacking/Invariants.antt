use Rattle.std.proofs.Common.{◌++◌, ℕ, List, map, take}
use Rattle.admin_text.specs.Refusals.{lacking_head}
use Rattle.admin_text.specs.SaidLines.{AreLines}
use Rattle.admin_text.proofs.refusals.push_lacking.Given as goal

abbrev pub invariant-loop-kind : goal.invariant-loop-kind
invariant-loop-kind l =
    (heads : List (List ℕ)) → AreLines heads l.fn.said.items → AreLines (heads ++ map lacking_head (take l.kind-index l.lacking)) l.said.items
