-- What a tolerant reader remembers beside what it takes (profile).
use Rattle.std.specs.Prelude.{ℕ, Bool, not, ◌&&◌, ◌||◌, ◌==◌, nat_le, List, [], length, filter, Option, Some, None, option_and_then}
use Rattle.std.specs.BTreeMap.{insert_entry, is_at}
use Rattle.std.specs.Map.{lookup}
use Rattle.std.specs.Ordering.{nat_cmp}
use Rattle.table_types.specs.Tables.{Definition}
use Rattle.table_types.specs.Rosters.{has_id, table_at}
use Rattle.peers_msg.specs.Received.{Received}
use Rattle.peers_msg.specs.ReceivedIndex.{has_that_name}
use Rattle.tolerant_intake.specs.declared.loose_table.LooseTable.{LooseTable}
use Rattle.tolerant_intake.specs.declared.passed_over.Cause.{Cause}
use Rattle.tolerant_intake.specs.declared.passed_over.PassedOver.{PassedOver}
use Rattle.tolerant_intake.specs.Counts.{none_passed, counted}
use Rattle.tolerant_intake.specs.Loose.{LooseDefinition}
use Rattle.tolerant_intake.specs.StandIns.{loose_table, cause_of}

-- the tables outside the profile, by the peer's ids, in ascending order; and what was passed over
pub record Tolerance : Type 0 where
  pub loose : List (ℕ × LooseTable)
  pub passed_over : PassedOver

-- nothing came yet
abbrev pub nothing_passed : Tolerance
nothing_passed = record { loose = []; passed_over = none_passed }

-- the table outside the profile with an id
abbrev pub loose_at : List (ℕ × LooseTable) → ℕ → Option LooseTable
loose_at ls id = lookup (is_at (nat_cmp id)) ls

-- the selected table, if it is outside the profile
abbrev pub selected_loose : Tolerance → Received → Option LooseTable
selected_loose l h = option_and_then (loose_at l.loose) h.selected

-- the number of tables that a peer may have defined at once
abbrev pub most_tables : ℕ
most_tables = 1024

-- an id that stands for no table, while as many ids as may be do
abbrev pub is_further : Received → ℕ → Bool
is_further h id = nat_le most_tables (length h.tables) && not (has_id id h.tables)

-- something was passed over, and counts if there is a cause
abbrev pub counted_for : Option Cause → Tolerance → Tolerance
counted_for None l = l
counted_for (Some cause) l = record l { passed_over = counted cause l.passed_over }

-- a table outlasts a definition, given its id and what that stands for, unless the definition has that id or that name
abbrev pub outlasts : Definition → ℕ → Option Definition → Bool
outlasts new id stood_for = not (id == new.id || has_that_name stood_for new.name)

-- of these tables outside the profile, those that a definition doesn't replace, given the tables received before it
abbrev pub outlasting : Definition → List Definition → List (ℕ × LooseTable) → List (ℕ × LooseTable)
outlasting new ds ls = filter (λ l. outlasts new l.0 (table_at ds l.0)) ls

-- a table of the profile is defined
abbrev pub redefined : Definition → Received → Tolerance → Tolerance
redefined new h l = record l { loose = outlasting new h.tables l.loose }

-- `new` stands in for the definition `d`
abbrev pub replaced : LooseDefinition → Definition → Received → Tolerance → Tolerance
replaced d new h l = record {
  loose = insert_entry nat_cmp (outlasting new h.tables l.loose) d.id (loose_table d);
  passed_over = counted (cause_of d) l.passed_over;
}
