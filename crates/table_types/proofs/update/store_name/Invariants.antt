use Rattle.std.proofs.Common.{◌≡◌, drop}
use Rattle.std.specs.List.{list_any}
use Rattle.table_types.specs.Updates.{is_name_type}
use Rattle.table_types.proofs.update.store_name.Given as goal

abbrev pub invariant-loop-entry : goal.invariant-loop-entry
invariant-loop-entry l =
    list_any (λ t. is_name_type t.0) (drop l.entry-index l.types) ≡ list_any (λ t. is_name_type t.0) l.types
