-- A new world: opening the sessions one after another, and what stands then.
use Rattle.std.proofs.Common.{◌≡◌, ◌≤◌, ◌<◌, ℕ, zero, suc, ◌+◌, true, false, List, [], ◌∷◌, ◌++◌, length, map, take, get_or, Option, is_some, nat_le, ◌==◌, refl, sym, ap, subst, ◌∙◌, arith, inl, inr}
use Rattle.std.specs.List.{AllByRecursion}
use Rattle.std.specs.Map.{lookup}
use Rattle.std.proofs.lemmas.Bool.{cases_eq, lt-leb, ne_eqb}
use Rattle.std.proofs.lemmas.List.{get_or_default, length_push, length-map, map-append, take_more}
use Rattle.table_types.specs.declared.version.Version.{Version}
use Rattle.table_cell.specs.declared.errors.OpenError.TheVariants as unopened
use Rattle.table_cell.specs.declared.events.CellEvent.TheVariants as events
use Rattle.table_cell.specs.declared.events.CellReply.TheVariants as replies
use Rattle.table_cell.specs.declared.progress.Progress.{Progress}
use Rattle.table_cell.specs.Histories.{CellState, is_history_full, room_of}
use Rattle.table_cell.specs.Machine.{no_progress, progress_of}
use Rattle.table_cell.proofs.HandingSessions.{other_end}
use Rattle.interleave_core.specs.declared.connection.Connection.{Connection}
use Rattle.interleave_core.specs.Parts.{connection_of, connections_of}
use Rattle.interleave_core.specs.Opened.{CanBegin, CanOpen, HasOpen, IsOpenWorld}
use Rattle.table_types.specs.Tables.{Definition}
use Rattle.table_types.specs.declared.version.Version.TheVariants as versions
use Rattle.interleave_core.specs.Worlds.{ConnectionState, new_connection, new_world, roster_of, version_after, with_session, with_sessions}
use Rattle.interleave_core.proofs.Reopening.{room_after, some_left, three_pass}
use Rattle.interleave_core.proofs.OpenWorlds.{some_more, some_opened}

plus_one : (n : ℕ) → n + 1 ≡ suc n
plus_one n = omega arith

-- ---- a table in which the first sessions were opened

many_open : (count : ℕ) (vs : List Version) (c : CellState) → length c.state.sessions ≡ 0 → length (with_sessions count vs c).state.sessions ≡ count
many_open zero vs c none = none
many_open (suc before) vs c none =
    let one_more : length ((with_sessions before vs c).state.sessions ++ (suc before, no_progress (version_after before vs) (with_sessions before vs c).state.next) ∷ []) ≡ length (with_sessions before vs c).state.sessions + 1 =
    length_push (with_sessions before vs c).state.sessions (suc before, no_progress (version_after before vs) (with_sessions before vs c).state.next) in
    omega (arith, one_more, many_open before vs c none)

nothing_open : (n : ℕ) (es : List (ℕ × Progress)) → length es ≡ 0 → is_some (lookup (λ id. id == n) es) ≡ false
nothing_open n [] none = refl
nothing_open n (e ∷ es) none = absurd (omega arith)

-- no later session is open
pub later_closed : (count n : ℕ) (vs : List Version) (c : CellState) → length c.state.sessions ≡ 0 → count < n → is_some (progress_of n (with_sessions count vs c).state) ≡ false
later_closed zero n vs c none later = nothing_open n c.state.sessions none
later_closed (suc before) n vs c none later =
    ap (λ (o : Option Progress). is_some o) (other_end n (suc before) (no_progress (version_after before vs) (with_sessions before vs c).state.next) (with_sessions before vs c).state.sessions (ne_eqb (suc before) n (λ same. omega arith)))
    ∙ later_closed before n vs c none (omega arith)

each_open : (count n : ℕ) (vs : List Version) (c : CellState) → 1 ≤ n → n ≤ count → is_some (progress_of n (with_sessions count vs c).state) ≡ true
each_open zero n vs c least most = absurd (omega arith)
each_open (suc before) n vs c least most = elim (cases_eq n (suc before)) [
  | inl same ↦
      subst (λ (m : ℕ). is_some (progress_of m (with_sessions (suc before) vs c).state) ≡ true) (sym same) (some_opened (suc before) (no_progress (version_after before vs) (with_sessions before vs c).state.next) (with_sessions before vs c).state.sessions)
  | inr other ↦ some_more n (suc before) (no_progress (version_after before vs) (with_sessions before vs c).state.next) (with_sessions before vs c).state.sessions (each_open before n vs c least (omega arith))
]

room_then : (count : ℕ) (vs : List Version) (c : CellState) → count ≤ room_of c → room_of (with_sessions count vs c) + count ≡ room_of c
room_then zero vs c room = omega arith
room_then (suc before) vs c room =
    let earlier = room_then before vs c (omega arith) in
    let one = room_after (with_sessions before vs c) (with_sessions (suc before) vs c).state (events.Open (suc before) (version_after before vs), replies.Open) (λ none. omega arith) in
    omega (arith, earlier, one)

can_open_next : (n count : ℕ) (vs : List Version) (c : CellState) → n < count → count ≤ 16 → CanBegin count c → CanOpen (suc n) (with_sessions n vs c)
can_open_next n count vs c next few begin =
    let many = many_open n vs c begin.none in
    let room = room_then n vs c (omega (arith, begin.room)) in
    let left : 1 ≤ room_of (with_sessions n vs c) = omega (arith, room, begin.room) in
    three_pass (is_some (progress_of (suc n) (with_sessions n vs c).state)) (nat_le 16 (length (with_sessions n vs c).state.sessions)) (is_history_full (with_sessions n vs c)) unopened.AlreadyOpen unopened.TooMany unopened.HistoryFull
    (later_closed n (suc n) vs c begin.none (omega arith))
    (lt-leb 16 (length (with_sessions n vs c).state.sessions) (omega (arith, many)))
    (some_left (room_of (with_sessions n vs c)) left)

-- ---- all tables

can_open_each : (n count : ℕ) (vs : List Version) (cells : List CellState) → n < count → count ≤ 16 → AllByRecursion (CanBegin count) cells → AllByRecursion (CanOpen (suc n)) (map (with_sessions n vs) cells)
can_open_each n count vs [] next few begin = tt
can_open_each n count vs (c ∷ cs) next few (begin, rest) = (can_open_next n count vs c next few begin, can_open_each n count vs cs next few rest)

-- the next session can be opened in each table
pub can_open_more : (n count : ℕ) (vs : List Version) (cells now : List CellState) → n < count → count ≤ 16 → AllByRecursion (CanBegin count) cells → now ≡ map (with_sessions n vs) cells → AllByRecursion (CanOpen (n + 1)) now
can_open_more n count vs cells now next few begin is =
    subst (λ (l : List CellState). AllByRecursion (CanOpen (n + 1)) l) (sym is)
    (subst (λ (m : ℕ). AllByRecursion (CanOpen m) (map (with_sessions n vs) cells)) (sym (plus_one n)) (can_open_each n count vs cells next few begin))

pub opened_none : (vs : List Version) (cells : List CellState) → cells ≡ map (with_sessions 0 vs) cells
opened_none vs [] = refl
opened_none vs (c ∷ cs) = ap (λ (l : List CellState). c ∷ l) (opened_none vs cs)

next_session : (n : ℕ) (vs : List Version) (cells : List CellState) → map (with_session (suc n) (version_after n vs)) (map (with_sessions n vs) cells) ≡ map (with_sessions (suc n) vs) cells
next_session n vs [] = refl
next_session n vs (c ∷ cs) = ap (λ (l : List CellState). with_sessions (suc n) vs c ∷ l) (next_session n vs cs)

-- the tables after the next session is opened
pub opened_more : (n : ℕ) (v : Version) (vs : List Version) (cells now after : List CellState) → n < length vs → v ≡ get_or vs n v → now ≡ map (with_sessions n vs) cells → after ≡ map (with_session (n + 1) v) now
    → after ≡ map (with_sessions (n + 1) vs) cells
opened_more n v vs cells now after below is so_far opened =
    opened
    ∙ ap (λ (l : List CellState). map (with_session (n + 1) v) l) so_far
    ∙ ap (λ (x : Version). map (with_session (n + 1) x) (map (with_sessions n vs) cells)) (is ∙ get_or_default vs n v versions.V21 below)
    ∙ subst (λ (m : ℕ). map (with_session m (version_after n vs)) (map (with_sessions n vs) cells) ≡ map (with_sessions m vs) cells) (sym (plus_one n)) (next_session n vs cells)

-- new connections for the versions
abbrev pub new_connections : List Definition → List Version → List ConnectionState
new_connections roster vs = map (λ (version : Version). new_connection version roster) vs

pub connected_more : (n : ℕ) (v : Version) (vs : List Version) (roster : List Definition) (cs after : List Connection) (c : Connection) → n < length vs → v ≡ get_or vs n v
    → connections_of cs ≡ new_connections roster (take n vs) → after ≡ cs ++ c ∷ [] → connection_of c ≡ new_connection v roster → connections_of after ≡ new_connections roster (take (n + 1) vs)
connected_more n v vs roster cs after c below is before pushed new =
    ap (λ (l : List Connection). connections_of l) pushed
    ∙ map-append connection_of cs (c ∷ [])
    ∙ ap (λ (l : List ConnectionState). l ++ connection_of c ∷ []) before
    ∙ ap (λ (x : ConnectionState). new_connections roster (take n vs) ++ x ∷ []) new
    ∙ ap (λ (x : Version). new_connections roster (take n vs) ++ new_connection x roster ∷ []) is
    ∙ sym (ap (new_connections roster) (take_more vs n v below) ∙ map-append (λ (version : Version). new_connection version roster) (take n vs) (get_or vs n v ∷ []))

all_open : (count : ℕ) (vs : List Version) (cells : List CellState) → count ≤ 16 → AllByRecursion (CanBegin count) cells → AllByRecursion (HasOpen count) (map (with_sessions count vs) cells)
all_open count vs [] few begin = tt
all_open count vs (c ∷ cs) few (begin, rest) =
    let many = many_open count vs c begin.none in
    (record { opened = λ n least most. each_open count n vs c least most; few = omega (arith, many) }, all_open count vs cs few rest)

-- in a new world the sessions are open in each table
pub new_is_open : (vs : List Version) (cells : List CellState) → length vs ≤ 16 → AllByRecursion (CanBegin (length vs)) cells → IsOpenWorld (new_world cells vs)
new_is_open vs cells few begin =
    subst (λ (n : ℕ). AllByRecursion (HasOpen n) (map (with_sessions (length vs) vs) cells)) (sym (length-map vs (λ (version : Version). new_connection version (roster_of cells)))) (all_open (length vs) vs cells few begin)
