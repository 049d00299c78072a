use Rattle.std.proofs.Common.{◌≡◌, drop}
use Rattle.table_types.specs.Tables.{stores}
use Rattle.admin_text.proofs.type_words.stores.Given as goal

abbrev pub invariant-loop-entry : goal.invariant-loop-entry
invariant-loop-entry l = stores l.data_type (drop l.entry-index l.entries) ≡ stores l.data_type l.entries
