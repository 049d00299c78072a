-- The tables of a script make a world.
use Rattle.std.proofs.Common.{◌≡◌, ◌≤◌, ℕ, List, [], ◌∷◌, map, Option, Some, None, IfSome, refl, sym, ap, subst, ◌∙◌, arith}
use Rattle.std.specs.List.{AllByRecursion}
use Rattle.std.specs.Prelude.{length, option_map}
use Rattle.table_types.specs.Rosters.{roster_fault}
use Rattle.table_types.specs.Tables.{Definition}
use Rattle.table_types.specs.declared.version.Version.{Version}
use Rattle.table_cell.specs.Histories.{CellState}
use Rattle.node_text.specs.Worlds.{definitions, versions_or_one}
use Rattle.node_text.specs.declared.script_tables.ScriptTable.{ScriptTable}
use Rattle.interleave_core.specs.Opened.{CanBegin}
use Rattle.interleave_core.specs.Worlds.{roster_of}
use Rattle.text_commands.specs.Running.{cell_of}

same_roster : (ts : List ScriptTable) → roster_of (map cell_of ts) ≡ definitions ts
same_roster [] = refl
same_roster (t ∷ ts) = ap (λ (ds : List Definition). t.definition ∷ ds) (same_roster ts)

-- the new tables make a roster
pub new_roster : (ts : List ScriptTable) (cells : List CellState) → cells ≡ map cell_of ts → roster_fault (definitions ts) ≡ None → roster_fault (roster_of cells) ≡ None
new_roster ts cells is sound =
    ap (λ (cs : List CellState). roster_fault (roster_of cs)) is ∙ ap (λ (ds : List Definition). roster_fault ds) (same_roster ts) ∙ sound

each_begins : (count : ℕ) (ts : List ScriptTable) → count ≤ 16 → AllByRecursion (CanBegin count) (map cell_of ts)
each_begins count [] few = tt
each_begins count (t ∷ ts) few = (record { none = refl; room = omega arith }, each_begins count ts few)

-- no session is open in them yet, and they have room to open 16
pub all_begin : (count : ℕ) (ts : List ScriptTable) (cells : List CellState) → cells ≡ map cell_of ts → count ≤ 16 → AllByRecursion (CanBegin count) cells
all_begin count ts cells is few = subst (λ (cs : List CellState). AllByRecursion (CanBegin count) cs) (sym is) (each_begins count ts few)

-- a script has 1 to 16 sessions
pub sessions_within : {A : Type 0} (items : A → List Version) (o : Option A) → IfSome o (λ vs. (1 ≤ length (items vs)) × (length (items vs) ≤ 16))
    → (1 ≤ length (versions_or_one (option_map items o))) × (length (versions_or_one (option_map items o)) ≤ 16)
sessions_within items None within = (omega arith, omega arith)
sessions_within items (Some vs) within = within
