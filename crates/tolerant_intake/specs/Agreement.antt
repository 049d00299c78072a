-- How a tolerant reader differs from a strict one (profile).
use Rattle.std.specs.Prelude.{◌≡◌, ◌⊎◌, ℕ, true, false, List, [], ◌++◌, Option, Some, None, option_map, Ok}
use Rattle.std.specs.List.{AllByRecursion}
use Rattle.table_types.specs.Tables.{Definition}
use Rattle.table_types.specs.Keys.{number_of}
use Rattle.table_types.specs.Rosters.{table_at}
use Rattle.peers_msg.specs.declared.fault.Breach.TheVariants.{BadDefinition, BadValue, SizeLimit, UnknownDataType}
use Rattle.peers_msg.specs.declared.meaning.Meaning.TheVariants as meanings
use Rattle.peers_msg.specs.Received.{selected_table}
use Rattle.peers_msg.specs.Reading.{Frame, frame_at, meant}
use Rattle.learner.specs.declared.fault.Fault.{Fault}
use Rattle.learner.specs.declared.fault.Fault.TheVariants as faults
use Rattle.learner.specs.declared.taken.Taken.{Taken}
use Rattle.learner.specs.LocalTables.{local_table}
use Rattle.learner.specs.Intake.{Taking}
use Rattle.tolerant_intake.specs.declared.loose_table.LooseTable.{LooseTable}
use Rattle.tolerant_intake.specs.declared.passed_over.Cause.{Cause}
use Rattle.tolerant_intake.specs.declared.passed_over.Cause.TheVariants as causes
use Rattle.tolerant_intake.specs.Loose.{LooseDefinition, LooseUpdate, loose_definition_at}
use Rattle.tolerant_intake.specs.Tolerance.{Tolerance, is_further, selected_loose}
use Rattle.tolerant_intake.specs.Policy.{Passage, Counts, StandsIn, Breaks, IsFurther, loose_front, numbered, writes}
use Rattle.tolerant_intake.specs.Reading.{AreRead}

-- what has to be known of a table of the profile to read its updates loosely
abbrev pub as_loose : Definition → LooseTable
as_loose d = record { kind = number_of d.kind; key_length = d.key_length; types = d.types; further = false }

-- the message at the front is an update of the selected table; read loosely, it ends with its name field, has a number, and writes
-- no name
abbrev pub IsSilent : Taking → Type 0
IsSilent t =
    (u : LooseUpdate)
    × (n : ℕ × ℕ)
    × (loose_front (option_map as_loose (selected_table t.state.received)) (frame_at t.unread) ≡ Some (Ok u))
    × (u.rest ≡ [])
    × (numbered t.state u.number ≡ Some n)
    × (writes u.name ≡ false)

-- the message at the front is a definition, of which id, name and four integers are read as `d`
abbrev pub DefinesLoosely : Taking → LooseDefinition → Type 0
DefinesLoosely t d =
    (f : Frame)
    × (rest : List ℕ)
    × (frame_at t.unread ≡ Ok (Some (f, rest)))
    × (meant f.class f.message_type ≡ meanings.Define)
    × (loose_definition_at f.body ≡ Ok d)

abbrev pub IsLooselyDefined : Taking → Type 0
IsLooselyDefined t = (d : LooseDefinition) × DefinesLoosely t d

-- ---- what becomes of a message at which the strict intake stops

-- the message is passed over and counts for this cause; it writes no name
abbrev pub CountsAs : Cause → Passage → Type 0
CountsAs cause (Counts r (Some counts)) = (counts ≡ cause) × (r.written ≡ None)
CountsAs cause p = ⊥

-- another definition stands in for the one at the front, whose id isn't a further one; or the reader stops at it, since its id is
abbrev pub StandsInUnlessFurther : Taking → Passage → Type 0
StandsInUnlessFurther t (StandsIn d) = DefinesLoosely t d × (is_further t.state.received d.id ≡ false)
StandsInUnlessFurther t (Breaks SizeLimit) = (d : LooseDefinition) × DefinesLoosely t d × (is_further t.state.received d.id ≡ true)
StandsInUnlessFurther t p = ⊥

-- what becomes of the message if this fault doesn't stand
abbrev pub IsListed : Taking → Fault → Passage → Type 0
IsListed t faults.EmptySlot p = CountsAs causes.Slot p
IsListed t (faults.Breach BadValue) p = CountsAs causes.Value p
IsListed t (faults.Breach UnknownDataType) p = StandsInUnlessFurther t p
IsListed t (faults.Breach BadDefinition) p = StandsInUnlessFurther t p
IsListed t fault p = ⊥

-- whether a message at which the strict intake stops with this fault is passed over, or else is a definition of a further id
abbrev pub IsPassable : Fault → Taking → Type 0
IsPassable faults.EmptySlot t = Unit {0}
IsPassable (faults.Breach BadValue) t = IsSilent t
IsPassable (faults.Breach UnknownDataType) t = IsLooselyDefined t
IsPassable (faults.Breach BadDefinition) t = IsLooselyDefined t
IsPassable fault t = ⊥

-- ---- what is read

-- the tolerant reader reads these messages too, or the first of them, up to a definition of a further id
abbrev pub AreReadToo : Tolerance → Taking → List Taken → Taking → Type 0
AreReadToo l t answers e =
    AreRead (Some l) t answers e (Some l)
    ⊎ ((first : List Taken) × (others : List Taken) × (mid : Taking)
    × (answers ≡ first ++ others)
    × AreRead (Some l) t first mid (Some l)
    × IsFurther mid)

-- the message at the front is an update of the selected table, which is outside the profile; it can be read loosely
abbrev pub IsLoose : Tolerance → Taking → LooseUpdate → Type 0
IsLoose l t u = loose_front (selected_loose l t.state.received) (frame_at t.unread) ≡ Some (Ok u)

-- the id of a table outside the profile stands for one that is no local table, among those received
abbrev pub IsApart : List Definition → List Definition → (ℕ × LooseTable) → Type 0
IsApart roster ds l = (d : Definition) × (table_at ds l.0 ≡ Some d) × (local_table roster d ≡ None)

-- so it is of each table outside the profile
abbrev pub AreApart : Option Tolerance → Taking → Type 0
AreApart None t = Unit {0}
AreApart (Some l) t = AllByRecursion (IsApart t.roster t.state.received.tables) l.loose
