-- After each step the sessions are open in each table.
use Rattle.std.proofs.Common.{◌≡◌, ◌≤◌, ℕ, zero, suc, Bool, true, false, not, cond, List, [], ◌∷◌, ◌++◌, length, drop, take, filter, filter_map, Option, Some, None, is_some, is_none, nat_eq, nat_le, ◌==◌, option_map, option_and_then, Result, Ok, Err, MatchBool, refl, sym, ap, subst, ◌∙◌, arith, inl, inr, true≢false}
use Rattle.std.specs.List.{AllByRecursion, list_any}
use Rattle.std.specs.Map.{lookup}
use Rattle.std.proofs.lemmas.Bool.{cases_Bool, cases_eq, eq-eqb, ne_eqb, cond-true, cond_both}
use Rattle.std.proofs.lemmas.List.{length-set, length_push}
use Rattle.table_types.specs.declared.copies.CopyKind.{CopyKind}
use Rattle.table_types.specs.declared.key.Key.{Key}
use Rattle.table_types.specs.declared.change.Change.{Change}
use Rattle.table_types.specs.declared.update.Update.{Update}
use Rattle.table_cell.specs.declared.errors.CloseError.TheVariants as unclosed
use Rattle.table_cell.specs.declared.errors.CopyError.{CopyError}
use Rattle.table_cell.specs.declared.errors.CopyError.TheVariants as uncopied
use Rattle.table_cell.specs.declared.errors.LearnError.{LearnError}
use Rattle.table_cell.specs.declared.errors.LearnError.TheVariants as unlearned
use Rattle.table_cell.specs.declared.errors.PurgeError.{PurgeError}
use Rattle.table_cell.specs.declared.errors.PurgeError.TheVariants as unpurged
use Rattle.table_cell.specs.declared.errors.TrackError.{TrackError}
use Rattle.table_cell.specs.declared.errors.TrackError.TheVariants as untracked
use Rattle.table_cell.specs.declared.events.Reply.{Reply}
use Rattle.table_cell.specs.declared.progress.Progress.{Progress}
use Rattle.table_cell.specs.Histories.{CellState, Copies, Learns, Purges, Tracks, is_history_full}
use Rattle.table_cell.specs.Machine.{TableState, ack_refusal, acknowledging, close_refusal, has_out, last_number, no_progress, open_refusal, progress_of, unacked, with_progress}
use Rattle.table_cell.proofs.HandingSessions.{other_end, other_with, other_without, own_with}
use Rattle.interleave_core.specs.declared.step.Step.{Step}
use Rattle.interleave_core.specs.declared.step.Step.TheVariants as steps
use Rattle.interleave_core.specs.declared.way.Way.TheVariants as ways
use Rattle.interleave_core.specs.Moves.{ArrivesAtLearner, ArrivesAtTeacher, AtConnection, AtTable, Breaks, Calls, CopiesFor, InConnection, InTable, IsArrived, IsReadBy, IsReopened, LearnsFor, Moves, Reopens, RunsTo, TeachesOldest, ack_in, acked, acked_all, acknowledges, closed, is_made, opened, reopened_all, with_batch}
use Rattle.table_types.specs.declared.version.Version.{Version}
use Rattle.interleave_core.specs.Opened.{HasOpen, IsOpenWorld}
use Rattle.interleave_core.specs.Worlds.{ConnectionState, WorldState, cell_at, connection_at, is_table, new_connection, roster_of, with_cell, with_connection, with_session, with_session_anew, without_session}
use Rattle.interleave_core.proofs.Reopening.{others_fewer, two_passed}
use Rattle.interleave_core.proofs.TieCells.{at_here, at_there, with_here, with_there}

-- ---- one table

-- no session open in the table is closed, and no more are open
pub record Stays (c e : CellState) : Type 0 where
  pub opened : (n : ℕ) → is_some (progress_of n c.state) ≡ true → is_some (progress_of n e.state) ≡ true
  pub few : length e.state.sessions ≤ length c.state.sessions

stays_by : (c e : CellState) → e.state.sessions ≡ c.state.sessions → Stays c e
stays_by c e sessions =
    record {
      opened = λ n some. ap (λ (es : List (ℕ × Progress)). is_some (lookup (λ id. id == n) es)) sessions ∙ some;
      few = omega (arith, ap (λ (es : List (ℕ × Progress)). length es) sessions);
    }

stays_as : (c e : CellState) (s : TableState) → e.state ≡ s → s.sessions ≡ c.state.sessions → Stays c e
stays_as c e s is sessions = stays_by c e (ap (λ (t : TableState). t.sessions) is ∙ sessions)

stays_same : (c e : CellState) → e ≡ c → Stays c e
stays_same c e is = stays_by c e (ap (λ (x : CellState). x.state.sessions) is)

has_open_still : (count : ℕ) (c e : CellState) → Stays c e → HasOpen count c → HasOpen count e
has_open_still count c e stays has =
    record { opened = λ n least most. stays.opened n (has.opened n least most); few = omega (arith, stays.few, has.few) }

tracks_stay : (c e : CellState) (seat : ℕ) (key : Key) (change : Change) (now : ℕ) (r : Result Reply TrackError) → Tracks c seat key change now r e → Stays c e
tracks_stay c e seat key change now (Ok reply) (room, (made, is)) = stays_as c e _ made.4 refl
tracks_stay c e seat key change now (Err untracked.TableFull) (refused, is) = stays_same c e is
tracks_stay c e seat key change now (Err untracked.WrongKey) (refused, is) = stays_same c e is
tracks_stay c e seat key change now (Err untracked.NoSuchData) (refused, is) = stays_same c e is
tracks_stay c e seat key change now (Err untracked.Spent) (refused, is) = stays_same c e is
tracks_stay c e seat key change now (Err untracked.HistoryFull) (refused, is) = stays_same c e is
tracks_stay c e seat key change now (Err untracked.MomentBack) (refused, is) = stays_same c e is
tracks_stay c e seat key change now (Err untracked.Memory) (granted, is) = stays_same c e is

learns_stay : (c e : CellState) (session : ℕ) (u : Update) (now : ℕ) (r : Result Reply LearnError) → Learns c session u now r e → Stays c e
learns_stay c e session u now (Ok reply) (room, (made, is)) = stays_as c e _ made.4 refl
learns_stay c e session u now (Err unlearned.NoSession) (refused, is) = stays_same c e is
learns_stay c e session u now (Err unlearned.Misfit) (refused, is) = stays_same c e is
learns_stay c e session u now (Err unlearned.MomentBack) (refused, is) = stays_same c e is
learns_stay c e session u now (Err unlearned.HistoryFull) (refused, is) = stays_same c e is
learns_stay c e session u now (Err unlearned.Spent) (refused, is) = stays_same c e is
learns_stay c e session u now (Err unlearned.TableFull) (refused, is) = stays_same c e is
learns_stay c e session u now (Err unlearned.Memory) (granted, is) = stays_same c e is

purges_stay : (c e : CellState) (now : ℕ) (r : Result ℕ PurgeError) → Purges c now r e → Stays c e
purges_stay c e now (Ok count) (room, (made, is)) = stays_as c e _ made.2 refl
purges_stay c e now (Err unpurged.MomentBack) (refused, is) = stays_same c e is
purges_stay c e now (Err unpurged.HistoryFull) (refused, is) = stays_same c e is
purges_stay c e now (Err unpurged.Memory) (granted, is) = stays_same c e is

-- ---- the progress of one session changes

some_with : (n changed : ℕ) (f : Progress → Progress) (es : List (ℕ × Progress)) → is_some (lookup (λ id. id == n) es) ≡ true
    → is_some (lookup (λ id. id == n) (with_progress changed f es)) ≡ true
some_with n changed f es some = elim (cases_eq changed n) [
  | inl own ↦
      subst (λ (m : ℕ). is_some (lookup (λ id. id == n) (with_progress m f es)) ≡ true) (sym own)
      (ap (λ (o : Option Progress). is_some o) (own_with n f es) ∙ mapped (lookup (λ id. id == n) es) some)
  | inr other ↦ ap (λ (o : Option Progress). is_some o) (other_with n changed f es (ne_eqb changed n other)) ∙ some
]
  where
    mapped : (o : Option Progress) → is_some o ≡ true → is_some (option_map f o) ≡ true
    mapped None some = some
    mapped (Some p) some = refl

length_with_progress : (changed : ℕ) (f : Progress → Progress) (es : List (ℕ × Progress)) → length (with_progress changed f es) ≡ length es
length_with_progress changed f [] = refl
length_with_progress changed f (e ∷ es) =
    cond_both (nat_eq e.0 changed) ((e.0, f e.1) ∷ es) (e ∷ with_progress changed f es) (λ (l : List (ℕ × Progress)). length l ≡ suc (length es))
    (λ _. refl)
    (λ _. ap suc (length_with_progress changed f es))

stays_with : (c e : CellState) (s : TableState) (changed : ℕ) (f : Progress → Progress) → e.state ≡ s → s.sessions ≡ with_progress changed f c.state.sessions → Stays c e
stays_with c e s changed f is sessions =
    let now : e.state.sessions ≡ with_progress changed f c.state.sessions = ap (λ (t : TableState). t.sessions) is ∙ sessions in
    record {
      opened = λ n some. ap (λ (es : List (ℕ × Progress)). is_some (lookup (λ id. id == n) es)) now ∙ some_with n changed f c.state.sessions some;
      few = omega (arith, ap (λ (es : List (ℕ × Progress)). length es) now, length_with_progress changed f c.state.sessions);
    }

copies_stay : (c e : CellState) (session : ℕ) (kind : CopyKind) (limit now : ℕ) (r : Result (List Update) CopyError) → Copies c session kind limit now r e → Stays c e
copies_stay c e session kind limit now (Ok us) (room, (made, is)) =
    stays_with c e _ session (λ progress. record progress { taught = last_number progress.taught (unacked c.state session kind now limit) }) made.2 refl
copies_stay c e session kind limit now (Err uncopied.BatchOut) (refused, is) = stays_same c e is
copies_stay c e session kind limit now (Err uncopied.Nothing) (refused, is) = stays_same c e is
copies_stay c e session kind limit now (Err uncopied.NoSession) (refused, is) = stays_same c e is
copies_stay c e session kind limit now (Err uncopied.HistoryFull) (refused, is) = stays_same c e is
copies_stay c e session kind limit now (Err uncopied.MomentBack) (refused, is) = stays_same c e is
copies_stay c e session kind limit now (Err uncopied.Memory) (granted, is) = stays_same c e is

same_cell : (a b : CellState) → ◌≡◌ {A = Option CellState} (Some a) (Some b) → a ≡ b
same_cell a b is = cc

same_cells : (a b : List CellState) → ◌≡◌ {A = Option (List CellState)} (Some a) (Some b) → a ≡ b
same_cells a b is = cc

none_some : {A : Type 0} (a : A) → ◌≡◌ {A = Option A} None (Some a) → ⊥
none_some a is = cc

-- what a table is after an acknowledgement, if it isn't refused
granted_one : (b : Bool) (x e : CellState) → ◌≡◌ {A = Option CellState} (cond b (Some x) None) (Some e) → (b ≡ true) × (e ≡ x)
granted_one true x e is = (refl, sym (same_cell x e is))
granted_one false x e is = absurd (none_some e is)

acked_stays : (c e : CellState) (session number : ℕ) → acked session number c ≡ Some e → Stays c e
acked_stays c e session number is =
    let made = granted_one (is_none (ack_refusal (is_history_full c) c.state session number)) _ e is in
    stays_with c e _ session (acknowledging number) (ap (λ (x : CellState). x.state) made.1) refl

-- ---- a session is closed and opened

some_end : (n m : ℕ) (p : Progress) (es : List (ℕ × Progress)) → m ≡ n → is_some (lookup (λ id. id == n) (es ++ (m, p) ∷ [])) ≡ true
some_end n m p [] same = ap (λ (o : Option Progress). is_some o) (cond-true (nat_eq m n) (Some p) None (eq-eqb m n same))
some_end n m p (e ∷ es) same =
    cond_both (nat_eq e.0 n) (Some e.1) (lookup (λ id. id == n) (es ++ (m, p) ∷ [])) (λ (o : Option Progress). is_some o ≡ true) (λ _. refl) (λ _. some_end n m p es same)

-- a session stays open if another is opened
pub some_more : (n m : ℕ) (p : Progress) (es : List (ℕ × Progress)) → is_some (lookup (λ id. id == n) es) ≡ true → is_some (lookup (λ id. id == n) (es ++ (m, p) ∷ [])) ≡ true
some_more n m p es some = elim (cases_eq m n) [
  | inl same ↦ some_end n m p es same
  | inr other ↦ ap (λ (o : Option Progress). is_some o) (other_end n m p es (ne_eqb m n other)) ∙ some
]

-- the session is open
pub some_opened : (n : ℕ) (p : Progress) (es : List (ℕ × Progress)) → is_some (lookup (λ id. id == n) (es ++ (n, p) ∷ [])) ≡ true
some_opened n p es = some_end n n p es refl

anew_stays : (c : CellState) (session : ℕ) (v : Version) → is_some (progress_of session c.state) ≡ true → Stays c (with_session_anew session v c)
anew_stays c session v is_open =
    record {
      opened = still;
      few = omega (arith, others_fewer session c.state.sessions is_open, length_push (filter (λ (entry : ℕ × Progress). not (entry.0 == session)) c.state.sessions) (session, no_progress v c.state.next));
    }
  where
    still : (n : ℕ) → is_some (progress_of n c.state) ≡ true → is_some (progress_of n (with_session_anew session v c).state) ≡ true
    still n some = elim (cases_eq session n) [
      | inl same ↦ some_end n session (no_progress v c.state.next) (filter (λ (entry : ℕ × Progress). not (entry.0 == session)) c.state.sessions) same
      | inr other ↦
          some_more n session (no_progress v c.state.next) (filter (λ (entry : ℕ × Progress). not (entry.0 == session)) c.state.sessions)
          (ap (λ (o : Option Progress). is_some o) (other_without n session c.state.sessions (ne_eqb session n other)) ∙ some)
    ]

open_before : (o : Option Progress) → is_none o ≡ false → is_some o ≡ true
open_before None none = absurd (true≢false none)
open_before (Some p) none = refl

opened_stays : (c m e : CellState) (session : ℕ) (v : Version) → closed session c ≡ Some m → opened session v m ≡ Some e → Stays c e
opened_stays c m e session v closes opens =
    let closing = granted_one (is_none (close_refusal (is_history_full c) c.state session)) (without_session session c) m closes in
    let opening = granted_one (is_none (open_refusal (is_history_full m) m.state session)) (with_session session v m) e opens in
    let tested = two_passed (is_none (progress_of session c.state)) (is_history_full c) unclosed.NoSession unclosed.HistoryFull closing.0 in
    let is_anew : e ≡ with_session_anew session v c = opening.1 ∙ ap (λ (x : CellState). with_session session v x) closing.1 in
    subst (λ (x : CellState). Stays c x) (sym is_anew) (anew_stays c session v (open_before (progress_of session c.state) tested.0))

reopened_stays : (c e : CellState) (session : ℕ) (v : Version) (o : Option CellState) → closed session c ≡ o → option_and_then (opened session v) o ≡ Some e → Stays c e
reopened_stays c e session v None at so = absurd (none_some e so)
reopened_stays c e session v (Some m) at so = opened_stays c m e session v at so

-- ---- all tables

abbrev AreOpen : ℕ → List CellState → Type 0
AreOpen count cells = AllByRecursion (HasOpen count) cells

one_stays : (count t : ℕ) (c e : CellState) (cells : List CellState) → cell_at t cells ≡ Some c → Stays c e → AreOpen count cells → AreOpen count (with_cell t e cells)
one_stays count t c e [] at stays has = tt
one_stays count t c e (x ∷ xs) at stays (has, rest) = elim (cases_Bool (is_table t x)) [
  | inl here ↦
      let is : x ≡ c = same_cell x c (sym (at_here t x xs here) ∙ at) in
      subst (λ (l : List CellState). AreOpen count l) (sym (with_here t e x xs here)) (has_open_still count c e stays (subst (λ (y : CellState). HasOpen count y) is has), rest)
  | inr there ↦
      subst (λ (l : List CellState). AreOpen count l) (sym (with_there t e x xs there)) (has, one_stays count t c e xs (sym (at_there t x xs there) ∙ at) stays rest)
]

in_table_open : (count t : ℕ) (call : CellState → CellState → Type 0) (cells after : List CellState) → ((c e : CellState) → call c e → Stays c e)
    → InTable call t (cell_at t cells) cells after → AreOpen count cells → AreOpen count after
in_table_open count t call cells after stay changes all = by_cell (cell_at t cells) refl changes
  where
    by_cell : (o : Option CellState) → cell_at t cells ≡ o → InTable call t o cells after → AreOpen count after
    by_cell None at same = subst (λ (l : List CellState). AreOpen count l) (sym same) all
    by_cell (Some c) at (changed, did, is) =
        subst (λ (l : List CellState). AreOpen count l) (sym is) (one_stays count t c changed cells at (stay c changed did) all)

-- the acknowledgements after this one
after_one : (count session : ℕ) (ack : ℕ × ℕ) (acks : List (ℕ × ℕ)) (cells after : List CellState) (c : CellState)
    → ((mid : List CellState) → acked_all session acks mid ≡ Some after → AreOpen count mid → AreOpen count after)
    → cell_at ack.0 cells ≡ Some c → (o : Option CellState) → acked session ack.1 c ≡ o
    → option_and_then (λ x. acked_all session acks (with_cell ack.0 x cells)) o ≡ Some after → AreOpen count cells → AreOpen count after
after_one count session ack acks cells after c later at None made so all = absurd (none_some after so)
after_one count session ack acks cells after c later at (Some e) made so all =
    later (with_cell ack.0 e cells) so (one_stays count ack.0 c e cells at (acked_stays c e session ack.1 made) all)

after_each : (count session : ℕ) (ack : ℕ × ℕ) (acks : List (ℕ × ℕ)) (cells after : List CellState)
    → ((mid : List CellState) → acked_all session acks mid ≡ Some after → AreOpen count mid → AreOpen count after)
    → (o : Option CellState) → cell_at ack.0 cells ≡ o
    → option_and_then (λ x. acked_all session acks (with_cell ack.0 x cells)) (option_and_then (acked session ack.1) o) ≡ Some after → AreOpen count cells → AreOpen count after
after_each count session ack acks cells after later None at so all = absurd (none_some after so)
after_each count session ack acks cells after later (Some c) at so all = after_one count session ack acks cells after c later at (acked session ack.1 c) refl so all

acked_all_open : (count session : ℕ) (acks : List (ℕ × ℕ)) (cells after : List CellState) → acked_all session acks cells ≡ Some after
    → AreOpen count cells → AreOpen count after
acked_all_open count session [] cells after is all = subst (λ (l : List CellState). AreOpen count l) (same_cells cells after is) all
acked_all_open count session (ack ∷ acks) cells after is all =
    after_each count session ack acks cells after (λ mid made ok. acked_all_open count session acks mid after made ok) (cell_at ack.0 cells) refl is all

with_rest : (count : ℕ) (c first : CellState) (after : List CellState) → Stays c first → HasOpen count c → (o : Option (List CellState))
    → ((rest : List CellState) → o ≡ Some rest → AreOpen count rest) → option_map (λ rest. first ∷ rest) o ≡ Some after → AreOpen count after
with_rest count c first after stays has None later so = absurd (none_some after so)
with_rest count c first after stays has (Some rest) later so =
    subst (λ (l : List CellState). AreOpen count l) (same_cells (first ∷ rest) after so) (has_open_still count c first stays has, later rest refl)

with_first : (count session : ℕ) (v : Version) (c : CellState) (cs after : List CellState) → HasOpen count c → (o : Option CellState) → ((first : CellState) → o ≡ Some first → Stays c first)
    → ((rest : List CellState) → reopened_all session v cs ≡ Some rest → AreOpen count rest)
    → option_and_then (λ first. option_map (λ rest. first ∷ rest) (reopened_all session v cs)) o ≡ Some after → AreOpen count after
with_first count session v c cs after has None stay later so = absurd (none_some after so)
with_first count session v c cs after has (Some first) stay later so = with_rest count c first after (stay first refl) has (reopened_all session v cs) later so

reopened_all_open : (count session : ℕ) (v : Version) (cells after : List CellState) → reopened_all session v cells ≡ Some after → AreOpen count cells → AreOpen count after
reopened_all_open count session v [] after is has = subst (λ (l : List CellState). AreOpen count l) (same_cells [] after is) tt
reopened_all_open count session v (c ∷ cs) after is (has, rest) =
    with_first count session v c cs after has (option_and_then (opened session v) (closed session c))
    (λ first made. reopened_stays c first session v (closed session c) refl made)
    (λ later made. reopened_all_open count session v cs later made rest) is

-- ---- connections

pub length_with : (session : ℕ) (new : ConnectionState) (connections : List ConnectionState) → length (with_connection session new connections) ≡ length connections
length_with zero new connections = refl
length_with (suc before) new connections = length-set connections before new

length_in : (change : ConnectionState → ConnectionState → Type 0) (session : ℕ) (o : Option ConnectionState) (connections after : List ConnectionState)
    → InConnection change session o connections after → length after ≡ length connections
length_in change session None connections after same = ap (λ (l : List ConnectionState). length l) same
length_in change session (Some s) connections after (changed, did, is) =
    ap (λ (l : List ConnectionState). length l) is ∙ length_with session changed connections

-- ---- the world

open_at : (count : ℕ) (cells : List CellState) (connections : List ConnectionState) (e : WorldState) → AreOpen count cells → length connections ≡ count
    → e ≡ record { cells = cells; connections = connections } → IsOpenWorld e
open_at count cells connections e all many is =
    subst (λ (x : WorldState). IsOpenWorld x) (sym is) (subst (λ (n : ℕ). AllByRecursion (HasOpen n) cells) (sym many) all)

stays : (w e : WorldState) → IsOpenWorld w → e ≡ w → IsOpenWorld e
stays w e all is = subst (λ (x : WorldState). IsOpenWorld x) (sym is) all

at_table : (t : ℕ) (call : CellState → CellState → Type 0) (w e : WorldState) → ((c x : CellState) → call c x → Stays c x)
    → AtTable call t w e → IsOpenWorld w → IsOpenWorld e
at_table t call w e stay (after, changes, is) all =
    open_at (length w.connections) after w.connections e (in_table_open (length w.connections) t call w.cells after stay changes all) refl is

at_connection : (change : ConnectionState → ConnectionState → Type 0) (session : ℕ) (w e : WorldState) → AtConnection change session w e → IsOpenWorld w → IsOpenWorld e
at_connection change session w e (after, changes, is) all =
    open_at (length w.connections) w.cells after e all (length_in change session (connection_at session w.connections) w.connections after changes) is

copied_open : (session table : ℕ) (kind : CopyKind) (limit now : ℕ) (w e : WorldState) (o : Option CellState) (p : Option ConnectionState) → cell_at table w.cells ≡ o
    → CopiesFor session table kind limit now o p w e → IsOpenWorld w → IsOpenWorld e
copied_open session table kind limit now w e None None at is all = stays w e all is
copied_open session table kind limit now w e None (Some s) at is all = stays w e all is
copied_open session table kind limit now w e (Some c) None at is all = stays w e all is
copied_open session table kind limit now w e (Some c) (Some s) at (answer, after, unless, did, is) all =
    open_at (length w.connections) (with_cell table after w.cells) (with_connection session (record s { copied = with_batch s.copied answer }) w.connections) e (one_stays (length w.connections) table c after w.cells at (copies_stay c after session kind limit now answer did) all)
    (length_with session (record s { copied = with_batch s.copied answer }) w.connections) is

arrived_open : (session : ℕ) (rest left : List ℕ) (acks : List (ℕ × ℕ)) (s : ConnectionState) (w e : WorldState) (o : Option (List CellState)) → acked_all session acks w.cells ≡ o
    → IsArrived session rest left o s w e → IsOpenWorld w → IsOpenWorld e
arrived_open session rest left acks s w e None at is all = stays w e all is
arrived_open session rest left acks s w e (Some cells) at is all =
    open_at (length w.connections) cells (with_connection session (record s { to_teacher = rest; unread = left }) w.connections) e (acked_all_open (length w.connections) session acks w.cells cells at all) (length_with session (record s { to_teacher = rest; unread = left }) w.connections) is

read_open : (session : ℕ) (bytes rest : List ℕ) (s : ConnectionState) (w e : WorldState) → IsReadBy session bytes rest s w e → IsOpenWorld w → IsOpenWorld e
read_open session bytes rest s w e (ms, received, left, read, whole, arrived) all =
    let acks = filter_map (ack_in (roster_of w.cells)) ms in
    arrived_open session rest left acks s w e (acked_all session acks w.cells) refl arrived all

-- a fact of one of two cases
pub either : (b : Bool) {P Q R : Type 0} → MatchBool b P Q → (P → R) → (Q → R) → R
either true p one other = one p
either false q one other = other q

arrives_open : (session count : ℕ) (o : Option ConnectionState) (w e : WorldState) → ArrivesAtTeacher session count o w e → IsOpenWorld w → IsOpenWorld e
arrives_open session count None w e is all = stays w e all is
arrives_open session count (Some s) w e arrives all =
    either (nat_le count (length s.to_teacher)) arrives (λ read. read_open session (s.unread ++ take count s.to_teacher) (drop count s.to_teacher) s w e read all) (λ is. stays w e all is)

reopened_open : (session : ℕ) (v : Version) (connections : List ConnectionState) (w e : WorldState) (o : Option (List CellState)) → reopened_all session v w.cells ≡ o
    → length connections ≡ length w.connections → IsReopened o (λ cells. record { cells = cells; connections = connections }) w e → IsOpenWorld w → IsOpenWorld e
reopened_open session v connections w e None at many is all = stays w e all is
reopened_open session v connections w e (Some cells) at many is all =
    open_at (length w.connections) cells connections e (reopened_all_open (length w.connections) session v w.cells cells at all) many is

breaks_open : (session : ℕ) (o : Option ConnectionState) (w e : WorldState) → Breaks session o w e → IsOpenWorld w → IsOpenWorld e
breaks_open session None w e is all = stays w e all is
breaks_open session (Some s) w e breaks all =
    reopened_open session s.version (with_connection session (new_connection s.version (roster_of w.cells)) w.connections) w e (reopened_all session s.version w.cells) refl
    (length_with session (new_connection s.version (roster_of w.cells)) w.connections) breaks all

reopens_open : (session : ℕ) (o : Option ConnectionState) (w e : WorldState) → Reopens session o w e → IsOpenWorld w → IsOpenWorld e
reopens_open session None w e is all = stays w e all is
reopens_open session (Some s) w e reopens all =
    either (list_any (λ c. has_out (progress_of session c.state)) w.cells) reopens (λ is. stays w e all is) (λ made. reopened_open session s.version w.connections w e (reopened_all session s.version w.cells) refl refl made all)

learns_open : (session : ℕ) (u : Update) (now : ℕ) (o : Option ConnectionState) (w e : WorldState) → LearnsFor session u now o w e → IsOpenWorld w → IsOpenWorld e
learns_open session u now None w e is all = stays w e all is
learns_open session u now (Some s) w e moves all =
    at_table u.table (Calls (λ c r x. Learns c session u now r x) unlearned.Memory) w e (λ c x did. learns_stay c x session u now did.0 did.2) moves all

-- after a step the sessions are open in each table again
pub a_step_keeps_open : (w e : WorldState) (step : Step) → Moves w step e → IsOpenWorld w → IsOpenWorld e
a_step_keeps_open w e (steps.Track table key change now) moves all =
    at_table table (Calls (λ c r x. Tracks c 0 key change now r x) untracked.Memory) w e (λ c x did. tracks_stay c x 0 key change now did.0 did.2) moves all
a_step_keeps_open w e (steps.Learn session u now) moves all = learns_open session u now (connection_at session w.connections) w e moves all
a_step_keeps_open w e (steps.Purge table now) moves all =
    at_table table (Calls (λ c r x. Purges c now r x) unpurged.Memory) w e (λ c x did. purges_stay c x now did.0 did.2) moves all
a_step_keeps_open w e (steps.Copy session table kind limit now) moves all =
    either (is_made kind limit) moves
    (λ copies. copied_open session table kind limit now w e (cell_at table w.cells) (connection_at session w.connections) refl copies all)
    (λ is. stays w e all is)
a_step_keeps_open w e (steps.Teach session) moves all = at_connection (λ s x. TeachesOldest s.copied s x) session w e moves all
a_step_keeps_open w e (steps.Deliver session ways.ToLearner count now) moves all = at_connection (ArrivesAtLearner count now) session w e moves all
a_step_keeps_open w e (steps.Deliver session ways.ToTeacher count now) moves all =
    arrives_open session count (connection_at session w.connections) w e moves all
a_step_keeps_open w e (steps.Ack session) moves all = at_connection (λ s x. x ≡ acknowledges s) session w e moves all
a_step_keeps_open w e (steps.Break session) moves all = breaks_open session (connection_at session w.connections) w e moves all
a_step_keeps_open w e (steps.Reopen session) moves all = reopens_open session (connection_at session w.connections) w e moves all

-- and after a run
pub a_run_keeps_open : (w e : WorldState) (run : List Step) → RunsTo w run e → IsOpenWorld w → IsOpenWorld e
a_run_keeps_open w e [] is all = stays w e all is
a_run_keeps_open w e (step ∷ run) (mid, moves, runs) all = a_run_keeps_open mid e run runs (a_step_keeps_open w mid step moves all)
