-- Batches: updates that fit the tables of a roster (profile).
use Rattle.std.specs.Prelude.{◌≡◌, ◌≤◌, ℕ, ◌+◌, true, not, nat_lt, List, [], ◌∷◌, length, Option, Some, None, if◌then◌else◌}
use Rattle.std.specs.List.{AllByRecursion}
use Rattle.table_types.specs.declared.update.Update.{Update}
use Rattle.table_types.specs.declared.batch.BatchError.{BatchError}
use Rattle.table_types.specs.declared.batch.BatchError.TheVariants as errors
use Rattle.table_types.specs.Tables.{Definition}
use Rattle.table_types.specs.Updates.{fits}
use Rattle.table_types.specs.Rosters.{table_at}

-- the update is one for a roster: the roster has its table, and the update fits it
abbrev pub IsUpdateFor : List Definition → Update → Type 0
IsUpdateFor roster u =
    (d : Definition) × (table_at roster u.table ≡ Some d)
    × (fits d u ≡ true)

-- the updates are a batch for a roster: at most 4,096, each of them one for the roster
abbrev pub IsBatchFor : List Definition → List Update → Type 0
IsBatchFor roster us = (length us ≤ 4096) × AllByRecursion (IsUpdateFor roster) us

-- ---- the first fault

-- what is wrong with the update at an index, given the roster's table for its id
abbrev pub fault_in : ℕ → Option Definition → Update → Option BatchError
fault_in index None u = Some (errors.NoTable index)
fault_in index (Some d) u = if not (fits d u) then Some (errors.Misfit index) else None

-- the first of two faults
abbrev pub or_else : Option BatchError → Option BatchError → Option BatchError
or_else (Some e) next = Some e
or_else None next = next

-- the first fault of the updates, the first of which has this index; a batch counts from 0
abbrev pub faults_from : ℕ → List Definition → List Update → Option BatchError
faults_from index roster [] = None
faults_from index roster (u ∷ us) = or_else (fault_in index (table_at roster u.table) u) (faults_from (index + 1) roster us)

-- the first thing that keeps updates from being a batch for a roster: there are more than 4,096, or one of them has no
-- table in the roster or doesn't fit it
abbrev pub batch_fault : List Definition → List Update → Option BatchError
batch_fault roster us = if nat_lt 4096 (length us) then Some errors.TooMany else faults_from 0 roster us
