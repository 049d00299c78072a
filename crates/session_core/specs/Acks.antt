-- Acknowledgements that a peer receives (HAProxy, doc/peers-v2.0.txt, "Acknowledgement Messages").
use Rattle.std.specs.Prelude.{ℕ, List, Option, Some, None, if◌then◌else◌}
use Rattle.table_types.specs.Rosters.{has_id}
use Rattle.table_types.specs.Tables.{Definition}
use Rattle.learner.specs.declared.taken.Taken.{Taken}
use Rattle.learner.specs.declared.taken.Taken.TheVariants as taken

-- the table and the number that a message acknowledges, if it is an acknowledgement of a table of the roster
abbrev pub ack_of : List Definition → Taken → Option (ℕ × ℕ)
ack_of roster (taken.Acked table number) = if has_id table roster then Some (table, number) else None
ack_of roster t = None
