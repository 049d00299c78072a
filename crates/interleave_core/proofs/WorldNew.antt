-- A new world is sound.
use Rattle.std.proofs.Common.{◌≡◌, ◌≤◌, ◌<◌, ℕ, zero, suc, ◌+◌, List, [], ◌∷◌, length, Some, None, refl, sym, ap, subst, ◌∙◌, inl, inr, arith}
use Rattle.std.specs.Prelude.{map, nat_eq, slice_get}
use Rattle.std.specs.List.{AllByRecursion}
use Rattle.std.specs.Map.{lookup}
use Rattle.std.proofs.lemmas.Bool.{cases_eq, ne_eqb}
use Rattle.table_types.specs.Rosters.{roster_fault}
use Rattle.table_types.specs.Tables.{Definition}
use Rattle.table_types.specs.declared.version.Version.{Version}
use Rattle.table_cell.specs.declared.events.CellEvent.TheVariants as events
use Rattle.table_cell.specs.declared.events.CellReply.TheVariants as replies
use Rattle.table_cell.specs.declared.progress.Progress.{Progress}
use Rattle.table_cell.specs.Machine.{progress_of}
use Rattle.table_cell.specs.Histories.{CellState, IsSoundCell, Made, is_history_full}
use Rattle.table_cell.specs.Handing.{KeepsUp}
use Rattle.table_cell.proofs.HandingSessions.{others_stay}
use Rattle.table_cell.proofs.HandingSteps.{closed_keeps, made_keeps}
use Rattle.table_cell.proofs.RefusalLaws.{open_granted}
use Rattle.table_cell.proofs.RunLaws.{made_sound}
use Rattle.interleave_core.specs.Opened.{CanBegin, CanOpen}
use Rattle.interleave_core.specs.Since.{HasNewConnection}
use Rattle.interleave_core.specs.SoundWorlds.{IsSoundWorld}
use Rattle.interleave_core.specs.Ties.{AreSoundTables, IsJustOpened}
use Rattle.interleave_core.specs.Worlds.{ConnectionState, cell_at, connection_at, new_connection, new_world, roster_of, version_after, with_session, with_sessions}
use Rattle.interleave_core.proofs.Beginning.{can_open_more, new_connections}
use Rattle.interleave_core.proofs.TieCells.{none_there, same_one}
use Rattle.interleave_core.proofs.TiePairs.{open_tied}
use Rattle.interleave_core.proofs.WorldTold.{new_sound}

-- ---- one table

-- the table is sound and keeps up, and the sessions up to `last` were just opened
record IsBegun (last : ℕ) (c : CellState) : Type 0 where
  pub sound : IsSoundCell c
  pub keep : (n : ℕ) → KeepsUp n c
  pub just : (n : ℕ) → 1 ≤ n → n ≤ last → IsJustOpened n c

open_made : (n : ℕ) (v : Version) (c : CellState) → CanOpen n c → Made c (events.Open n v) replies.Open (with_session n v c)
open_made n v c can = (((open_granted (is_history_full c) c.state n can).1, refl, refl), refl)

begun_more : (last : ℕ) (v : Version) (c : CellState) → CanOpen (suc last) c → IsBegun last c → IsBegun (suc last) (with_session (suc last) v c)
begun_more last v c can begun = record {
  sound = made_sound c (with_session (suc last) v c) (events.Open (suc last) v) replies.Open tt (open_granted (is_history_full c) c.state (suc last) can).0 begun.sound made;
  keep = λ n. made_keeps c (with_session (suc last) v c) (events.Open (suc last) v) replies.Open n begun.sound made (begun.keep n);
  just = just;
}
  where
    made : Made c (events.Open (suc last) v) replies.Open (with_session (suc last) v c)
    made = open_made (suc last) v c can

    just : (n : ℕ) → 1 ≤ n → n ≤ suc last → IsJustOpened n (with_session (suc last) v c)
    just n some most = elim (cases_eq (suc last) n) [
      | inl same ↦
          let tie = open_tied (suc last) v [] c (with_session (suc last) v c) replies.Open made tt in
          subst (λ (k : ℕ). IsJustOpened k (with_session (suc last) v c)) same (v, c.state.next, tie.progress, sym tie.same)
      | inr other ↦
          let stay = others_stay c (with_session (suc last) v c) (events.Open (suc last) v) replies.Open n (ne_eqb (suc last) n other) made in
          let old = begun.just n some (below n last most other) in
          (old.0, old.1, stay.0 ∙ old.2, stay.1 ∙ old.3)
    ]
      where
        below : (n last : ℕ) → n ≤ suc last → (suc last ≡ n → ⊥) → n ≤ last
        below n last most other = elim (Rattle.std.proofs.lemmas.Bool.cases_lt last n) [
          | inl over ↦ absurd (other (omega arith))
          | inr under ↦ under
        ]

none_open : (n : ℕ) (c : CellState) → length c.state.sessions ≡ 0 → progress_of n c.state ≡ None
none_open n c none = by c.state.sessions none
  where
    by : (es : List (ℕ × Progress)) → length es ≡ 0 → lookup (λ id. nat_eq id n) es ≡ None
    by [] none = refl
    by (e ∷ es) none = absurd (omega (arith, none))

begun_all : (last count : ℕ) (vs : List Version) (c : CellState) → last ≤ count → count ≤ 16 → CanBegin count c → IsSoundCell c → IsBegun last (with_sessions last vs c)
begun_all zero count vs c within few begin sound = record {
  sound = sound;
  keep = λ n. closed_keeps c n (none_open n c begin.none);
  just = λ n some most. absurd (omega arith);
}
begun_all (suc last) count vs c within few begin sound =
    let can = (can_open_more last count vs (c ∷ []) (with_sessions last vs c ∷ []) (omega arith) few (begin, tt) refl).0 in
    begun_more last (version_after last vs) (with_sessions last vs c) (subst (λ (k : ℕ). CanOpen k (with_sessions last vs c)) (plus_one last) can) (begun_all last count vs c (omega arith) few begin sound)
  where
    plus_one : (n : ℕ) → n + 1 ≡ suc n
    plus_one n = omega arith

-- ---- all tables

tables_begun : (count : ℕ) (vs : List Version) (cells : List CellState) → count ≤ 16 → AllByRecursion (CanBegin count) cells → AllByRecursion IsSoundCell cells → AllByRecursion (IsBegun count) (map (with_sessions count vs) cells)
tables_begun count vs [] few begin sound = tt
tables_begun count vs (c ∷ cs) few (one, rest) (first, others) = (begun_all count count vs c (omega arith) few one first, tables_begun count vs cs few rest others)

all_sound : (count : ℕ) (cells : List CellState) → AllByRecursion (IsBegun count) cells → AreSoundTables cells
all_sound count [] all = record { sound = tt; keep = λ n. tt }
all_sound count (c ∷ cs) (one, rest) =
    let others = all_sound count cs rest in
    record { sound = (one.sound, others.sound); keep = λ n. (one.keep n, others.keep n) }

begun_at : (count t : ℕ) (c : CellState) (cells : List CellState) → AllByRecursion (IsBegun count) cells → cell_at t cells ≡ Some c → IsBegun count c
begun_at count t c cells all at = Rattle.interleave_core.proofs.TieTables.all_at (IsBegun count) t c cells all at

same_definition : (count : ℕ) (vs : List Version) (c : CellState) → (with_sessions count vs c).state.definition ≡ c.state.definition
same_definition zero vs c = refl
same_definition (suc before) vs c = same_definition before vs c

same_roster : (count : ℕ) (vs : List Version) (cells : List CellState) → roster_of (map (with_sessions count vs) cells) ≡ roster_of cells
same_roster count vs [] = refl
same_roster count vs (c ∷ cs) =
    ap (λ (d : Definition). d ∷ roster_of (map (with_sessions count vs) cs)) (same_definition count vs c) ∙ ap (λ (ds : List Definition). c.state.definition ∷ ds) (same_roster count vs cs)

-- ---- all connections

got_of : (i : ℕ) (vs : List Version) (roster : List Definition) (s : ConnectionState) → slice_get (new_connections roster vs) i ≡ Some s → (v : Version) × (s ≡ new_connection v roster) × (i < length vs)
got_of i [] roster s found = absurd (none_there s found)
got_of zero (v ∷ vs) roster s found = (v, sym (same_one (new_connection v roster) s found), omega arith)
got_of (suc i) (v ∷ vs) roster s found = let (version, same, below) = got_of i vs roster s found in (version, same, omega arith)

connection_of : (session : ℕ) (vs : List Version) (roster : List Definition) (s : ConnectionState) → connection_at session (new_connections roster vs) ≡ Some s
    → (v : Version) × (s ≡ new_connection v roster) × (1 ≤ session) × (session ≤ length vs)
connection_of zero vs roster s found = absurd (none_there s found)
connection_of (suc i) vs roster s found = let (v, same, below) = got_of i vs roster s found in (v, same, omega arith, omega arith)

-- ---- the world

pub connection_new : (cells : List CellState) (vs : List Version) (session : ℕ) (s : ConnectionState) → connection_at session (new_world cells vs).connections ≡ Some s → HasNewConnection session (new_world cells vs)
connection_new cells vs session s found =
    let (v, same, some, most) = connection_of session vs (roster_of cells) s found in
    (v, found ∙ ap (λ (x : ConnectionState). Some x) (same ∙ ap (new_connection v) (sym (same_roster (length vs) vs cells))))

pub new_world_sound : (cells : List CellState) (vs : List Version) → length vs ≤ 16 → roster_fault (roster_of cells) ≡ None → AllByRecursion IsSoundCell cells → AllByRecursion (CanBegin (length vs)) cells → IsSoundWorld (new_world cells vs)
new_world_sound cells vs few fault sound begin =
    new_sound (new_world cells vs) (ap roster_fault rosters ∙ fault) (all_sound (length vs) (map (with_sessions (length vs) vs) cells) begun)
    (λ n s found. let (v, same, some, most) = connection_of n vs (roster_of cells) s found in (v, same ∙ ap (new_connection v) (sym rosters)))
    (λ n t s c found at.
    let (v, same, some, most) = connection_of n vs (roster_of cells) s found in
    (begun_at (length vs) t c (map (with_sessions (length vs) vs) cells) begun at).just n some most)
  where
    rosters : roster_of (map (with_sessions (length vs) vs) cells) ≡ roster_of cells
    rosters = same_roster (length vs) vs cells

    begun : AllByRecursion (IsBegun (length vs)) (map (with_sessions (length vs) vs) cells)
    begun = tables_begun (length vs) vs cells few begin sound
