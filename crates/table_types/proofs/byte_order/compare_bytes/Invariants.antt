use Rattle.std.proofs.Common.{◌≡◌, ◌*◌, drop}
use Rattle.std.specs.Ordering.{nat_cmp}
use Rattle.std.specs.Cmp.Lexicographic.{slice_cmp}
use Rattle.table_types.proofs.byte_order.compare_bytes.Given as goal

abbrev pub invariant-loop-word : goal.invariant-loop-word
invariant-loop-word l = slice_cmp nat_cmp l.fn.left l.fn.right ≡ slice_cmp nat_cmp (drop (8 * l.word) l.fn.left) (drop (8 * l.word) l.fn.right)
