use Rattle.std.proofs.Common.{drop}
use Rattle.std.specs.List.{AllByRecursion}
use Rattle.interleave_core.specs.Bytes.{IsOfBytes}
use Rattle.interleave_core.proofs.byte_laws.a_batch_is_of_bytes.Given as goal

abbrev pub invariant-loop-update : goal.invariant-loop-update
invariant-loop-update l = AllByRecursion IsOfBytes (drop l.update-index l.update-items) → AllByRecursion IsOfBytes l.update-items
