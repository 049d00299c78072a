use Rattle.std.proofs.Common.{drop}
use Rattle.std.specs.List.{AllByRecursion}
use Rattle.interleave_core.specs.Bytes.{IsNamedInBytes}
use Rattle.interleave_core.proofs.byte_laws.a_roster_is_named_in_bytes.Given as goal

abbrev pub invariant-loop-table : goal.invariant-loop-table
invariant-loop-table l = AllByRecursion IsNamedInBytes (drop l.table-index l.table-items) → AllByRecursion IsNamedInBytes l.table-items
