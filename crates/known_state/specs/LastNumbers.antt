-- The last number of each table that had an update, and what a definition does to it (HAProxy, doc/peers-v2.0.txt,
-- "Stick Table Messages"; which last numbers a definition drops is the profile's choice).
use Rattle.std.specs.Prelude.{ℕ, ◌<◌, Bool, not, ◌||◌, ◌==◌, nat_lt, List, [], ◌∷◌, filter, Option, Some, None, if◌then◌else◌}
use Rattle.std.specs.List.{AllByRecursion}
use Rattle.table_types.specs.Tables.{Definition}
use Rattle.table_types.specs.Rosters.{is_same_name, table_at}
use Rattle.peers_msg.specs.Received.{Received}
use Rattle.peers_msg.specs.OwnTables.{is_own_one}
use Rattle.peers_msg.specs.ReceivedIndex.{is_id}
use Rattle.known_state.specs.declared.last_numbers.LostIds.{LostIds}

-- the last number of an id
abbrev pub last_of : List (ℕ × ℕ) → ℕ → Option ℕ
last_of [] id = None
last_of (l ∷ ls) id = if l.0 == id then Some l.1 else last_of ls id

-- a last number put among last numbers in ascending order of id, in place of the one that the id had
abbrev pub set_last : ℕ → ℕ → List (ℕ × ℕ) → List (ℕ × ℕ)
set_last id number [] = (id, number) ∷ []
set_last id number (l ∷ ls) =
    if l.0 == id then (id, number) ∷ ls
    else (if nat_lt id l.0 then (id, number) ∷ (l ∷ ls) else l ∷ set_last id number ls)

-- whether an id keeps its last number at a definition, given the table that it stood for: the defined id keeps it only
-- if the name is unchanged, and any other id loses it if it stood for a table of that name
abbrev pub keeps_last : Definition → Option Definition → ℕ → Bool
keeps_last new None id = not (id == new.id)
keeps_last new (Some d) id = if id == new.id then is_same_name d.name new.name else not (is_same_name d.name new.name)

-- an id loses its last number at a definition
abbrev pub is_lost : LostIds → ℕ → Bool
is_lost lost id = is_id lost.defined id || is_id lost.other id

-- the last numbers of the roster's own tables
abbrev pub own_last_numbers : List Definition → Received → List (ℕ × ℕ) → List (ℕ × ℕ)
own_last_numbers roster h last_numbers = filter (λ last. is_own_one roster (table_at h.tables last.0)) last_numbers

-- last numbers are in ascending order of id, at most one for each id
abbrev pub AreRising : List (ℕ × ℕ) → Type 0
AreRising [] = Unit {0}
AreRising (l ∷ ls) = AllByRecursion (λ other. l.0 < other.0) ls × AreRising ls
