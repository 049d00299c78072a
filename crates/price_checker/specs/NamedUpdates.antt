-- The number of updates with a name.
use Rattle.std.specs.Prelude.{ℕ, List, is_some, if◌then◌else◌}
use Rattle.table_types.specs.declared.update.Update.{Update}
use Rattle.known_state.specs.Plans.{total}

-- how many of the updates have a name
abbrev pub named_count : List Update → ℕ
named_count us = total (λ u. if is_some u.name then 1 else 0) us
