use Rattle.std.proofs.Common.{◌≡◌, drop}
use Rattle.table_types.specs.Tables.{entry_of}
use Rattle.table_types.proofs.table_def.entry_of.Given as goal

abbrev pub invariant-loop-entry : goal.invariant-loop-entry
invariant-loop-entry l = entry_of (drop l.entry-index l.types) l.wanted ≡ entry_of l.types l.wanted
