-- Rows that get new numbers.
use Rattle.std.proofs.Common.{◌≡◌, ℕ, ◌+◌, ◌%◌, ◌^◌, ◌<◌, ◌≤◌, true, false, List, [], ◌∷◌, length, refl, sym, ap, subst, arith}
use Rattle.std.specs.Prelude.{nat_lt}
use Rattle.std.specs.List.{AllByRecursion}
use Rattle.std.proofs.lemmas.Bool.{ltb-false, ltb-true}
use Rattle.table_types.specs.declared.key.Key.{Key}
use Rattle.table_types.specs.Tables.{Definition}
use Rattle.table_types.specs.Rows.{StoredRow}
use Rattle.table_stock.specs.NumberedRows.{numbered_from}
use Rattle.table_stock.proofs.RowsLaws.{some_none}
use Rattle.table_stock.proofs.NumberedLaws.{as_many, differ_numbered, numbered_rise, rise_count}
use Rattle.table_cell.specs.Machine.{TableState}
use Rattle.table_cell.specs.Soundness.{EntryFits, IsBoundBelow, IsProgressBelow, IsSound}
use Rattle.table_cell.specs.declared.events.CellEvent.{CellEvent}
use Rattle.table_cell.specs.declared.events.CellReply.{CellReply}
use Rattle.table_cell.specs.Histories.{CellState, IsSoundCell, begun_anew, events_of}
use Rattle.table_cell.specs.Cells.{IsCell, OriginState, cell_of}
use Rattle.table_cell.specs.LearnedRuns.{IsLearnedRun, IsPassedWithin}
use Rattle.table_cell.specs.Renumbering.{renewed, renumbered}

entries_numbered : (d : Definition) (latest first : ℕ) (es : List (Key × StoredRow)) → AllByRecursion (EntryFits d latest) es → AllByRecursion (EntryFits d latest) (numbered_from first es)
entries_numbered d latest first [] all = tt
entries_numbered d latest first (e ∷ es) (fits, all) = (fits, entries_numbered d latest (first + 1) es all)

-- ---- a table, and a table with its history

pub renumbered_sound : (s : TableState) → IsSound s → s.sessions ≡ [] → IsSound (renumbered s)
renumbered_sound s sound none =
    let count = rise_count 1 s.next s.rows sound.numbers in
    let size = as_many 1 s.rows in
    let within = sound.within in
    let last = sound.last in
    record {
      definition = sound.definition;
      some = sound.some;
      numbers = numbered_rise 1 1 (length s.rows + 1) s.rows (omega arith) (omega arith);
      keys = differ_numbered 1 s.rows sound.keys;
      entries = entries_numbered s.definition s.latest 1 s.rows sound.entries;
      within = omega (arith, size, within);
      last = omega (arith, count, last);
      least = sound.least;
      most = sound.most;
      progress = subst (AllByRecursion (IsProgressBelow (length s.rows + 1))) (sym none) tt;
      bounds = subst (AllByRecursion (IsBoundBelow (length s.rows + 1))) (sym none) tt;
      sessions = sound.sessions;
      few = sound.few;
    }

pub renumbered_cell : (c : CellState) → IsSoundCell c → c.state.sessions ≡ [] → IsSoundCell (begun_anew (renewed c))
renumbered_cell c cell none =
    let sound = renumbered_sound c.state cell.sound none in
    let few = cell.few in
    record { base = sound; timely = tt; replayed = refl; sound = sound; slid = omega arith; held = λ session h absent. absurd (some_none h (sym absent)); within = omega arith; few = omega arith }

-- ---- the parts of a cell

abbrev pub begun_at : TableState → ℕ → ℕ → OriginState
begun_at s before renewals = record { base = s; dropped = before; past = []; held = []; renewals = renewals }

pub renumbered_parts : (o : OriginState) (s : TableState) (hs : List (CellEvent × CellReply)) (copies : List (ℕ × (CellEvent × CellReply))) → s.sessions ≡ [] → IsCell o hs s copies
    → IsCell (begun_at (renumbered s) (events_of (cell_of o hs s)) ((o.renewals + 1) % 2 ^ 64)) [] (renumbered s) []
renumbered_parts o s hs copies none parts = record { sound = renumbered_cell (cell_of o hs s) parts.sound none; latest = λ session. refl }

-- ---- whether a session is open

pub none_open : {A : Type 0} (xs : List A) → nat_lt 0 (length xs) ≡ false → xs ≡ []
none_open [] none = refl
none_open (x ∷ xs) none = let below : length (x ∷ xs) ≤ 0 = ltb-false 0 (length (x ∷ xs)) none in absurd (omega arith)

pub some_open : {A : Type 0} (xs : List A) → nat_lt 0 (length xs) ≡ true → xs ≡ [] → ⊥
some_open xs some is =
    let above : 0 < length xs = ltb-true 0 (length xs) some in
    let size : length xs ≡ 0 = ap (λ (l : List _). length l) is in
    omega (arith, above, size)

-- no number is passed yet
pub none_passed : (next latest : ℕ) (rows : List (Key × StoredRow)) → 0 < next → IsLearnedRun 0 0 next latest rows
none_passed next latest rows some = record { given = some; passed = each rows }
  where
    each : (es : List (Key × StoredRow)) → AllByRecursion (IsPassedWithin 0 0 latest) es
    each [] = tt
    each (e ∷ es) = ((λ over under. absurd (omega (arith, over, under))), each es)
