use Rattle.std.proofs.Common.{◌≡◌, drop}
use Rattle.table_types.specs.Tables.{stores}
use Rattle.table_types.proofs.table_def.stores.Given as goal

abbrev pub invariant-loop-entry : goal.invariant-loop-entry
invariant-loop-entry l = stores l.wanted (drop l.entry-index l.types) ≡ stores l.wanted l.types
