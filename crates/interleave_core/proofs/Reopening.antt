-- Closing and opening a session in tables: when a table refuses that, and what Break and Reopen do.
use Rattle.std.proofs.Common.{◌≡◌, ◌≢◌, ◌≤◌, ◌<◌, Vec, ℕ, zero, suc, ◌+◌, ◌-◌, ◌^◌, Bool, true, false, not, cond, min, List, [], ◌∷◌, ◌++◌, length, map, filter, get_or, set, slice_get, Option, Some, None, is_some, is_none, nat_eq, nat_le, ◌==◌, option_map, option_and_then, refl, sym, ap, subst, ◌∙◌, arith, inl, inr, true≢false}
use Rattle.std.specs.List.{AllByRecursion, list_all, list_any}
use Rattle.std.specs.Map.{lookup}
use Rattle.std.specs.Vec.{with_items}
use Rattle.std.proofs.lemmas.Bool.{cases_Bool, and_cases, and_parts, eq-eqb, eqb-false, ne_eqb, leb-true, leb-false, lt-leb, cond-true, cond-false, cond_both}
use Rattle.std.proofs.lemmas.List.{length_push, length-map, get_or_default, with_items_is}
use Rattle.table_types.specs.declared.version.Version.{Version}
use Rattle.table_cell.specs.declared.errors.CloseError.{CloseError}
use Rattle.table_cell.specs.declared.errors.CloseError.TheVariants as unclosed
use Rattle.table_cell.specs.declared.errors.OpenError.{OpenError}
use Rattle.table_cell.specs.declared.errors.OpenError.TheVariants as unopened
use Rattle.table_cell.specs.declared.events.CellEvent.{CellEvent}
use Rattle.table_cell.specs.declared.events.CellEvent.TheVariants as events
use Rattle.table_cell.specs.declared.events.CellReply.{CellReply}
use Rattle.table_cell.specs.declared.events.CellReply.TheVariants as replies
use Rattle.table_cell.specs.declared.progress.Progress.{Progress}
use Rattle.table_cell.specs.Histories.{CellState, is_history_full, room_of}
use Rattle.table_cell.specs.Machine.{TableState, close_refusal, has_out, open_refusal, progress_of}
use Rattle.table_cell.proofs.HandingSessions.{own_without}
use Rattle.interleave_core.specs.declared.connection.Connection.{Connection}
use Rattle.interleave_core.specs.Moves.{Breaks, IsReopened, Reopens, closed, opened, reopened_all}
use Rattle.interleave_core.specs.Parts.{IsConnectionAt, connection_of, connections_of}
use Rattle.interleave_core.specs.Opened.{CanOpen, CanReopen, HasOpen, IsOpenWorld}
use Rattle.interleave_core.specs.Worlds.{ConnectionState, WorldState, connection_at, new_connection, roster_of, with_connection, with_session, with_session_anew, without_session}
use Rattle.interleave_core.proofs.Places.{connection_changed, connection_found, some_none}

-- ---- tests in a row

two_pass : {E : Type 0} (a b : Bool) (x y : E) → a ≡ false → b ≡ false → ◌≡◌ {A = Option E} (cond a (Some x) (cond b (Some y) None)) None
two_pass a b x y first second = cond-false a (Some x) (cond b (Some y) None) first ∙ cond-false b (Some y) None second

pub three_pass : {E : Type 0} (a b d : Bool) (x y z : E) → a ≡ false → b ≡ false → d ≡ false
    → ◌≡◌ {A = Option E} (cond a (Some x) (cond b (Some y) (cond d (Some z) None))) None
three_pass a b d x y z first second third = cond-false a (Some x) (cond b (Some y) (cond d (Some z) None)) first ∙ two_pass b d y z second third

pub two_passed : {E : Type 0} (a b : Bool) (x y : E) → is_none {T = E} (cond a (Some x) (cond b (Some y) None)) ≡ true → (a ≡ false) × (b ≡ false)
two_passed true b x y none = absurd (true≢false (sym none))
two_passed false true x y none = absurd (true≢false (sym none))
two_passed false false x y none = (refl, refl)

third_fails : {E : Type 0} (a b d : Bool) (x y z : E) → d ≡ true → is_none {T = E} (cond a (Some x) (cond b (Some y) (cond d (Some z) None))) ≡ false
third_fails true b d x y z fails = refl
third_fails false true d x y z fails = refl
third_fails false false d x y z fails = ap (λ (f : Bool). is_none (cond f (Some z) None)) fails

-- ---- room

pub some_left : (n : ℕ) → 1 ≤ n → nat_eq n 0 ≡ false
some_left n some = ne_eqb n 0 (λ none. omega arith)

fewer : (k m l d : ℕ) → min (k - l) (m - (d + l)) ≢ 0 → min (k - (l + 1)) (m - (d + (l + 1))) + 1 ≡ min (k - l) (m - (d + l))
fewer k m l d some = omega arith

-- an event takes the room of one
pub room_after : (c : CellState) (s : TableState) (h : CellEvent × CellReply) → room_of c ≢ 0 → room_of (record c { history = c.history ++ h ∷ []; state = s }) + 1 ≡ room_of c
room_after c s h some =
    subst (λ (n : ℕ). min (1000000 + c.slid - n) (2 ^ 63 - (c.dropped + n)) + 1 ≡ room_of c) (sym (length_push c.history h)) (fewer (1000000 + c.slid) (2 ^ 63) (length c.history) c.dropped some)

-- ---- sessions

abbrev pub others : ℕ → List (ℕ × Progress) → List (ℕ × Progress)
others n es = filter (λ entry. not (entry.0 == n)) es

others_within : (n : ℕ) (es : List (ℕ × Progress)) → length (others n es) ≤ length es
others_within n [] = omega arith
others_within n (e ∷ es) =
    cond_both (not (nat_eq e.0 n)) (e ∷ others n es) (others n es) (λ (l : List (ℕ × Progress)). length l ≤ suc (length es))
    (λ _. omega (arith, others_within n es))
    (λ _. omega (arith, others_within n es))

-- without an open session there are fewer
pub others_fewer : (n : ℕ) (es : List (ℕ × Progress)) → is_some (lookup (λ id. id == n) es) ≡ true → length (others n es) < length es
others_fewer n [] some = absurd (true≢false (sym some))
others_fewer n (e ∷ es) some = elim (cases_Bool (nat_eq e.0 n)) [
  | inl own ↦
      let is : others n (e ∷ es) ≡ others n es = cond-false (not (nat_eq e.0 n)) (e ∷ others n es) (others n es) (ap not own) in
      subst (λ (l : List (ℕ × Progress)). length l < suc (length es)) (sym is) (omega (arith, others_within n es))
  | inr other ↦
      let is : others n (e ∷ es) ≡ e ∷ others n es = cond-true (not (nat_eq e.0 n)) (e ∷ others n es) (others n es) (ap not other) in
      let later : is_some (lookup (λ id. id == n) es) ≡ true =
      sym (ap (λ (o : Option Progress). is_some o) (cond-false (nat_eq e.0 n) (Some e.1) (lookup (λ id. id == n) es) other)) ∙ some in
      subst (λ (l : List (ℕ × Progress)). length l < suc (length es)) (sym is) (omega (arith, others_fewer n es later))
]

-- ---- one table

-- a table in which the session is open, with room for two events, refuses neither to close it nor to open it then
can_reopen : (session count : ℕ) (c : CellState) → HasOpen count c → 1 ≤ session → session ≤ count → 2 ≤ room_of c → CanReopen session c
can_reopen session count c has least most room =
    let is_open : is_some (progress_of session c.state) ≡ true = has.opened session least most in
    let full : is_history_full c ≡ false = some_left (room_of c) (omega arith) in
    let gone : is_some (progress_of session (without_session session c).state) ≡ false = ap (λ (o : Option Progress). is_some o) (own_without session c.state.sessions) in
    let few : length (others session c.state.sessions) < 16 = omega (arith, others_fewer session c.state.sessions is_open, has.few) in
    let left : room_of (without_session session c) + 1 ≡ room_of c =
    room_after c (without_session session c).state (events.Close session, replies.Close) (λ none. omega arith) in
    let full_then : is_history_full (without_session session c) ≡ false = some_left (room_of (without_session session c)) (omega arith) in (
      two_pass (is_none (progress_of session c.state)) (is_history_full c) unclosed.NoSession unclosed.HistoryFull (ap not is_open) full,
      three_pass (is_some (progress_of session (without_session session c).state)) (nat_le 16 (length (others session c.state.sessions))) (is_history_full (without_session session c)) unopened.AlreadyOpen unopened.TooMany unopened.HistoryFull gone (lt-leb 16 (length (others session c.state.sessions)) few) full_then,
    )

opens : (session : ℕ) (v : Version) (c : CellState) → CanOpen session c → opened session v c ≡ Some (with_session session v c)
opens session v c can =
    cond-true (is_none (open_refusal (is_history_full c) c.state session)) (Some (with_session session v c)) None (ap (λ (o : Option OpenError). is_none o) can)

closes : (session : ℕ) (c : CellState) → close_refusal (is_history_full c) c.state session ≡ None → closed session c ≡ Some (without_session session c)
closes session c can =
    cond-true (is_none (close_refusal (is_history_full c) c.state session)) (Some (without_session session c)) None (ap (λ (o : Option CloseError). is_none o) can)

reopened_one : (session : ℕ) (v : Version) (c : CellState) → CanReopen session c → option_and_then (opened session v) (closed session c) ≡ Some (with_session_anew session v c)
reopened_one session v c (closing, opening) =
    ap (λ (o : Option CellState). option_and_then (opened session v) o) (closes session c closing) ∙ opens session v (without_session session c) opening

-- a table that lacks the room refuses one of the two
not_reopened : (session : ℕ) (v : Version) (c : CellState) → nat_le 2 (room_of c) ≡ false → option_and_then (opened session v) (closed session c) ≡ None
not_reopened session v c lacks = elim (cases_Bool (is_none (close_refusal (is_history_full c) c.state session))) [
  | inl granted ↦
      let full = two_passed (is_none (progress_of session c.state)) (is_history_full c) unclosed.NoSession unclosed.HistoryFull granted in
      let few : room_of c < 2 = leb-false 2 (room_of c) lacks in
      let left : room_of (without_session session c) + 1 ≡ room_of c =
      room_after c (without_session session c).state (events.Close session, replies.Close) (eqb-false (room_of c) 0 full.1) in
      let full_then : is_history_full (without_session session c) ≡ true = eq-eqb (room_of (without_session session c)) 0 (omega arith) in
      let refused : is_none (open_refusal (is_history_full (without_session session c)) (without_session session c).state session) ≡ false =
      third_fails (is_some (progress_of session (without_session session c).state)) (nat_le 16 (length (others session c.state.sessions))) (is_history_full (without_session session c)) unopened.AlreadyOpen unopened.TooMany unopened.HistoryFull full_then in
      ap (λ (o : Option CellState). option_and_then (opened session v) o) (cond-true (is_none (close_refusal (is_history_full c) c.state session)) (Some (without_session session c)) None granted)
      ∙ cond-false (is_none (open_refusal (is_history_full (without_session session c)) (without_session session c).state session)) (Some (with_session session v (without_session session c))) None refused
  | inr refused ↦
      ap (λ (o : Option CellState). option_and_then (opened session v) o) (cond-false (is_none (close_refusal (is_history_full c) c.state session)) (Some (without_session session c)) None refused)
]

-- ---- all tables

each_reopened : (session : ℕ) (v : Version) (cells : List CellState) → AllByRecursion (CanReopen session) cells → reopened_all session v cells ≡ Some (map (with_session_anew session v) cells)
each_reopened session v [] can = refl
each_reopened session v (c ∷ cs) (can, rest) =
    ap (λ (o : Option CellState). option_and_then (λ first. option_map (λ rest. first ∷ rest) (reopened_all session v cs)) o) (reopened_one session v c can)
    ∙ ap (λ (o : Option (List CellState)). option_map (λ rest. with_session_anew session v c ∷ rest) o) (each_reopened session v cs rest)

no_rest : (o : Option CellState) (r : Option (List CellState)) → r ≡ None → option_and_then (λ first. option_map (λ rest. first ∷ rest) r) o ≡ None
no_rest None r none = refl
no_rest (Some c) r none = ap (λ (q : Option (List CellState)). option_map (λ rest. c ∷ rest) q) none

none_reopened : (session : ℕ) (v : Version) (cells : List CellState) → list_all (λ c. nat_le 2 (room_of c)) cells ≡ false → reopened_all session v cells ≡ None
none_reopened session v [] lacks = absurd (true≢false lacks)
none_reopened session v (c ∷ cs) lacks = elim (and_cases (nat_le 2 (room_of c)) (list_all (λ c. nat_le 2 (room_of c)) cs) lacks) [
  | inl here ↦ ap (λ (o : Option CellState). option_and_then (λ first. option_map (λ rest. first ∷ rest) (reopened_all session v cs)) o) (not_reopened session v c here)
  | inr later ↦ no_rest (option_and_then (opened session v) (closed session c)) (reopened_all session v cs) (none_reopened session v cs later)
]

each_can : (session count : ℕ) (cells : List CellState) → AllByRecursion (HasOpen count) cells → list_all (λ c. nat_le 2 (room_of c)) cells ≡ true → 1 ≤ session → session ≤ count
    → AllByRecursion (CanReopen session) cells
each_can session count [] has room least most = tt
each_can session count (c ∷ cs) (has, rest) room least most =
    let rooms = and_parts (nat_le 2 (room_of c)) (list_all (λ c. nat_le 2 (room_of c)) cs) room in
    (can_reopen session count c has least most (leb-true 2 (room_of c) rooms.0), each_can session count cs rest rooms.1 least most)

-- a Vec of tables whose items were changed so
pub refilled : {Z : Type 0} (v : Vec CellState Z) (after : List CellState) (change : CellState → CellState) → after ≡ map change v.items → (with_items v after).items ≡ map change v.items
refilled v after change is =
    with_items_is v after (ap (λ (l : List CellState). length l) is ∙ length-map v.items change ∙ sym v.ok.0) ∙ is

-- ---- the steps

-- if the sessions are open in each table, the one of a connection can be closed and opened in all tables that have the room
pub can_reopen_each : (cells : List CellState) (cs : List Connection) (session place : ℕ)
    → IsOpenWorld (record { cells = cells; connections = connections_of cs }) → IsConnectionAt session cs place → list_all (λ c. nat_le 2 (room_of c)) cells ≡ true
    → AllByRecursion (CanReopen session) cells
can_reopen_each cells cs session place all here room =
    each_can session (length (connections_of cs)) cells all room (omega (arith, here.number)) (omega (arith, here.number, here.below, length-map cs connection_of))

plus_one : (n : ℕ) → n + 1 ≡ suc n
plus_one n = omega arith

found : (session : ℕ) (cs : List Connection) (place : ℕ) (new : Connection) → IsConnectionAt session cs place
    → connection_at session (connections_of cs) ≡ Some (connection_of (get_or cs place new))
found session cs place new here =
    connection_found session cs place (get_or cs place new) here (get_or_default cs place new (get_or cs place new) here.below)

pub breaks_off : (session : ℕ) (v : Version) (cells : List CellState) (cs : List Connection) (place : ℕ) (new : Connection)
    → IsConnectionAt session cs place → AllByRecursion (CanReopen session) cells → connection_of new ≡ new_connection v (roster_of cells) → (connection_of (get_or cs place new)).version ≡ v
    → Breaks session (connection_at session (connections_of cs)) (record { cells = cells; connections = connections_of cs }) (record { cells = map (with_session_anew session v) cells; connections = connections_of (set cs place new) })
breaks_off session v cells cs place new here can is same =
    let changed : connections_of (set cs place new) ≡ with_connection session (new_connection v (roster_of cells)) (connections_of cs) =
    connection_changed session cs place new here ∙ ap (λ (s : ConnectionState). with_connection session s (connections_of cs)) is in
    let begun : List CellState → WorldState = λ after.
    record { cells = after; connections = with_connection session (new_connection v (roster_of cells)) (connections_of cs) } in
    let ends : WorldState = record { cells = map (with_session_anew session v) cells; connections = connections_of (set cs place new) } in
    let so : ends ≡ begun (map (with_session_anew session v) cells) =
    ap (λ (connections : List ConnectionState). record { cells = map (with_session_anew session v) cells; connections = connections }) changed in
    subst (λ (o : Option ConnectionState). Breaks session o (record { cells = cells; connections = connections_of cs }) ends) (sym (found session cs place new here))
    (subst
    (λ (x : Version). IsReopened (reopened_all session x cells) (λ after. record { cells = after; connections = with_connection session (new_connection x (roster_of cells)) (connections_of cs) }) (record { cells = cells; connections = connections_of cs }) ends) (sym same)
    (subst (λ (o : Option (List CellState)). IsReopened o begun (record { cells = cells; connections = connections_of cs }) ends) (sym (each_reopened session v cells can)) so))

-- a Break or a Reopen for which a table lacks the room changes nothing
pub breaks_nothing : (session : ℕ) (w : WorldState) → list_all (λ c. nat_le 2 (room_of c)) w.cells ≡ false → Breaks session (connection_at session w.connections) w w
breaks_nothing session w lacks = by_connection (connection_at session w.connections)
  where
    by_connection : (o : Option ConnectionState) → Breaks session o w w
    by_connection None = refl
    by_connection (Some s) =
        subst (λ (o : Option (List CellState)). IsReopened o (λ cells. record { cells = cells; connections = with_connection session (new_connection s.version (roster_of w.cells)) w.connections }) w w)
        (sym (none_reopened session s.version w.cells lacks)) refl

reopens_with : (session : ℕ) (w e : WorldState) (any : Bool) → list_any (λ c. has_out (progress_of session c.state)) w.cells ≡ any → (o : Option ConnectionState)
    → (any ≡ true → e ≡ w)
    → (any ≡ false → (s : ConnectionState) → o ≡ Some s → IsReopened (reopened_all session s.version w.cells) (λ cells. record w { cells = cells }) w e)
    → (o ≡ None → e ≡ w)
    → Reopens session o w e
reopens_with session w e any is None out none gone = gone refl
reopens_with session w e true is (Some s) out none gone = rw is (out refl)
reopens_with session w e false is (Some s) out none gone = rw is (none refl s refl)

pub reopens_nothing_out : (session : ℕ) (w : WorldState) → list_any (λ c. has_out (progress_of session c.state)) w.cells ≡ true → Reopens session (connection_at session w.connections) w w
reopens_nothing_out session w out =
    reopens_with session w w true out (connection_at session w.connections) (λ _. refl) (λ other s at. absurd (true≢false other)) (λ _. refl)

pub reopens_nothing : (session : ℕ) (w : WorldState) → list_any (λ c. has_out (progress_of session c.state)) w.cells ≡ false → list_all (λ c. nat_le 2 (room_of c)) w.cells ≡ false
    → Reopens session (connection_at session w.connections) w w
reopens_nothing session w out lacks =
    reopens_with session w w false out (connection_at session w.connections) (λ _. refl)
    (λ _ s at. subst (λ (o : Option (List CellState)). IsReopened o (λ cells. record w { cells = cells }) w w) (sym (none_reopened session s.version w.cells lacks)) refl) (λ _. refl)

is_there : {A : Type 0} (xs : List A) (i : ℕ) → i < length xs → slice_get xs i ≡ None → ⊥
is_there [] i below none = absurd (omega arith)
is_there (x ∷ xs) zero below none = some_none x none
is_there (x ∷ xs) (suc i) below none = is_there xs i (omega arith) none

pub connected : (session : ℕ) (cs : List Connection) (place : ℕ) → IsConnectionAt session cs place → connection_at session (connections_of cs) ≡ None → ⊥
connected session cs place here none =
    let at : connection_at session (connections_of cs) ≡ slice_get (connections_of cs) place =
    ap (λ (n : ℕ). connection_at n (connections_of cs)) (here.number ∙ plus_one place) in
    is_there (connections_of cs) place (omega (arith, here.below, length-map cs connection_of)) (sym at ∙ none)

same_found : (a b : ConnectionState) → ◌≡◌ {A = Option ConnectionState} (Some a) (Some b) → a ≡ b
same_found a b is = cc

pub reopens : (session : ℕ) (v : Version) (cells : List CellState) (cs : List Connection) (place : ℕ) (now : Connection) → IsConnectionAt session cs place → (connection_of (get_or cs place now)).version ≡ v
    → list_any (λ c. has_out (progress_of session c.state)) cells ≡ false → AllByRecursion (CanReopen session) cells
    → Reopens session (connection_at session (connections_of cs)) (record { cells = cells; connections = connections_of cs }) (record { cells = map (with_session_anew session v) cells; connections = connections_of cs })
reopens session v cells cs place now here same out can =
    let w : WorldState = record { cells = cells; connections = connections_of cs } in
    let e : WorldState = record { cells = map (with_session_anew session v) cells; connections = connections_of cs } in
    reopens_with session w e false out (connection_at session (connections_of cs)) (λ other. absurd (true≢false (sym other)))
    (λ _ s at.
    let is : s.version ≡ v = ap (λ (x : ConnectionState). x.version) (same_found s (connection_of (get_or cs place now)) (sym at ∙ found session cs place now here)) ∙ same in
    subst (λ (x : Version). IsReopened (reopened_all session x cells) (λ cells. record w { cells = cells }) w e) (sym is)
    (subst (λ (o : Option (List CellState)). IsReopened o (λ cells. record w { cells = cells }) w e) (sym (each_reopened session v cells can)) refl))
    (λ none. absurd (connected session cs place here none))
