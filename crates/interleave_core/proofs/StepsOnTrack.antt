-- A world on track stays so at each step that isn't a copy.
use Rattle.std.proofs.Common.{◌≡◌, ℕ, zero, suc, ◌++◌, false, List, [], ◌∷◌, drop, length, map, nat_le, drop_at, option_map, option_and_then, set, slice_get, take, Option, Some, None, Result, Ok, Err, refl, sym, ap, subst, ◌∙◌, arith, inl, inr, append_assoc, take-append-drop, true≢false}
use Rattle.std.specs.List.{AllByRecursion, list_any}
use Rattle.std.proofs.lemmas.Bool.{MatchBool-at_false, MatchBool-at_true, cases_Bool}
use Rattle.std.proofs.lemmas.Option.{cond_some, none-some, option_and_then_some, same_Some}
use Rattle.peers_msg.specs.Integers.{IsBytes}
use Rattle.peers_msg.proofs.FieldCanonical.{IsBytes-drop}
use Rattle.peers_msg.specs.declared.message.Message.{Message}
use Rattle.table_types.specs.declared.change.Change.{Change}
use Rattle.table_types.specs.declared.key.Key.{Key}
use Rattle.table_types.specs.declared.update.Update.{Update}
use Rattle.table_types.specs.Rosters.{repeats_name, roster_fault}
use Rattle.table_types.specs.Tables.{Definition}
use Rattle.table_types.specs.declared.version.Version.{Version}
use Rattle.learner.specs.Learning.{with_piece}
use Rattle.learner.specs.OnItsWay.{IsOnItsWay}
use Rattle.learner.proofs.EachPieceGivesItsOwn.{fed_on_way, on_way}
use Rattle.table_cell.specs.declared.errors.LearnError.{LearnError}
use Rattle.table_cell.specs.declared.errors.LearnError.TheVariants as unlearned
use Rattle.table_cell.specs.declared.errors.PurgeError.{PurgeError}
use Rattle.table_cell.specs.declared.errors.PurgeError.TheVariants as unpurged
use Rattle.table_cell.specs.declared.errors.TrackError.{TrackError}
use Rattle.table_cell.specs.declared.errors.TrackError.TheVariants as untracked
use Rattle.table_cell.specs.declared.events.Reply.{Reply}
use Rattle.table_cell.specs.Histories.{CellState, Learns, Purges, Tracks}
use Rattle.table_cell.specs.Machine.{TableState, has_out, progress_of}
use Rattle.interleave_core.specs.declared.step.Step.{Step}
use Rattle.interleave_core.specs.declared.step.Step.TheVariants as steps
use Rattle.interleave_core.specs.declared.way.Way.TheVariants as ways
use Rattle.interleave_core.specs.Kept.{AreOnTrack, IsOnTrack, is_copy}
use Rattle.interleave_core.specs.Moves.{ArrivesAtLearner, ArrivesAtTeacher, AtConnection, AtTable, Breaks, InConnection, InTable, IsArrived, IsFed, IsReadBy, IsReopened, LearnsFor, Moves, Reopens, TeachesOldest, acked, acked_all, acknowledges, closed, opened, reopened_all}
use Rattle.interleave_core.specs.Worlds.{ConnectionState, WorldState, cell_at, connection_at, new_connection, roster_of, with_cell, with_connection}
use Rattle.interleave_core.proofs.OnTrack.{acknowledged, begun, taught}
use Rattle.interleave_core.proofs.TieTables.{roster_with}

-- the tables have the same definitions, and all connections are on track
with_tables : (w e : WorldState) → roster_of e.cells ≡ roster_of w.cells → AllByRecursion (IsOnTrack (roster_of w.cells)) e.connections → AreOnTrack e
with_tables w e same all = subst (λ (ds : List Definition). AllByRecursion (IsOnTrack ds) e.connections) (sym same) all

-- ---- one table

at_table : (call : CellState → CellState → Type 0) (table : ℕ) (w e : WorldState) → ((c x : CellState) → call c x → x.state.definition ≡ c.state.definition)
    → AreOnTrack w → AtTable call table w e → AreOnTrack e
at_table call table w e stays track (after, changes, same) =
    subst (λ (x : WorldState). AreOnTrack x) (sym same)
    (with_tables w (record w { cells = after }) (in_table (cell_at table w.cells) refl changes) track)
  where
    in_table : (o : Option CellState) → cell_at table w.cells ≡ o → InTable call table o w.cells after → roster_of after ≡ roster_of w.cells
    in_table None none is = ap (λ (cs : List CellState). roster_of cs) is
    in_table (Some c) found (changed, called, is) =
        ap (λ (cs : List CellState). roster_of cs) is ∙ roster_with table c changed w.cells found (stays c changed called)

track_stays : (c e : CellState) (seat now : ℕ) (key : Key) (change : Change) (answer : Result Reply TrackError)
    → Tracks c seat key change now answer e → e.state.definition ≡ c.state.definition
track_stays c e seat now key change (Ok r) (room, ((granted, rest, leaves, replied, leads), same)) = ap (λ (s : TableState). s.definition) leads
track_stays c e seat now key change (Err untracked.TableFull) (refused, same) = ap (λ (x : CellState). x.state.definition) same
track_stays c e seat now key change (Err untracked.WrongKey) (refused, same) = ap (λ (x : CellState). x.state.definition) same
track_stays c e seat now key change (Err untracked.NoSuchData) (refused, same) = ap (λ (x : CellState). x.state.definition) same
track_stays c e seat now key change (Err untracked.Spent) (refused, same) = ap (λ (x : CellState). x.state.definition) same
track_stays c e seat now key change (Err untracked.HistoryFull) (refused, same) = ap (λ (x : CellState). x.state.definition) same
track_stays c e seat now key change (Err untracked.MomentBack) (refused, same) = ap (λ (x : CellState). x.state.definition) same
track_stays c e seat now key change (Err untracked.Memory) (granted, same) = ap (λ (x : CellState). x.state.definition) same

learn_stays : (c e : CellState) (session now : ℕ) (u : Update) (answer : Result Reply LearnError)
    → Learns c session u now answer e → e.state.definition ≡ c.state.definition
learn_stays c e session now u (Ok r) (room, ((granted, rest, leaves, replied, leads), same)) = ap (λ (s : TableState). s.definition) leads
learn_stays c e session now u (Err unlearned.NoSession) (refused, same) = ap (λ (x : CellState). x.state.definition) same
learn_stays c e session now u (Err unlearned.Misfit) (refused, same) = ap (λ (x : CellState). x.state.definition) same
learn_stays c e session now u (Err unlearned.MomentBack) (refused, same) = ap (λ (x : CellState). x.state.definition) same
learn_stays c e session now u (Err unlearned.HistoryFull) (refused, same) = ap (λ (x : CellState). x.state.definition) same
learn_stays c e session now u (Err unlearned.Spent) (refused, same) = ap (λ (x : CellState). x.state.definition) same
learn_stays c e session now u (Err unlearned.TableFull) (refused, same) = ap (λ (x : CellState). x.state.definition) same
learn_stays c e session now u (Err unlearned.Memory) (granted, same) = ap (λ (x : CellState). x.state.definition) same

learns : (session now : ℕ) (u : Update) (o : Option ConnectionState) (w e : WorldState) → AreOnTrack w → LearnsFor session u now o w e → AreOnTrack e
learns session now u None w e track same = subst (λ (x : WorldState). AreOnTrack x) (sym same) track
learns session now u (Some s) w e track moves = at_table _ u.table w e (λ c x called. learn_stays c x session now u called.0 called.2) track moves

purge_stays : (c e : CellState) (now : ℕ) (answer : Result ℕ PurgeError) → Purges c now answer e → e.state.definition ≡ c.state.definition
purge_stays c e now (Ok count) (room, ((granted, replied, leads), same)) = ap (λ (s : TableState). s.definition) leads
purge_stays c e now (Err unpurged.MomentBack) (refused, same) = ap (λ (x : CellState). x.state.definition) same
purge_stays c e now (Err unpurged.HistoryFull) (refused, same) = ap (λ (x : CellState). x.state.definition) same
purge_stays c e now (Err unpurged.Memory) (granted, same) = ap (λ (x : CellState). x.state.definition) same

-- ---- one connection

one_of : (roster : List Definition) (session : ℕ) (ss : List ConnectionState) (s : ConnectionState) → connection_at session ss ≡ Some s
    → AllByRecursion (IsOnTrack roster) ss → IsOnTrack roster s
one_of roster zero ss s found all = absurd (none-some s found)
one_of roster (suc i) ss s found all = there i ss found all
  where
    there : (i : ℕ) (ss : List ConnectionState) → slice_get ss i ≡ Some s → AllByRecursion (IsOnTrack roster) ss → IsOnTrack roster s
    there i [] found all = absurd (none-some s found)
    there zero (x ∷ xs) found (one, rest) = subst (λ (y : ConnectionState). IsOnTrack roster y) (same_Some x s found) one
    there (suc i) (x ∷ xs) found (one, rest) = there i xs found rest

set_one : (roster : List Definition) (session : ℕ) (ss : List ConnectionState) (new : ConnectionState) → IsOnTrack roster new
    → AllByRecursion (IsOnTrack roster) ss → AllByRecursion (IsOnTrack roster) (with_connection session new ss)
set_one roster zero ss new track all = all
set_one roster (suc i) ss new track all = there i ss all
  where
    there : (i : ℕ) (ss : List ConnectionState) → AllByRecursion (IsOnTrack roster) ss → AllByRecursion (IsOnTrack roster) (set ss i new)
    there i [] all = all
    there zero (x ∷ xs) (one, rest) = (track, rest)
    there (suc i) (x ∷ xs) (one, rest) = (one, there i xs rest)

at_connection : (change : ConnectionState → ConnectionState → Type 0) (session : ℕ) (w e : WorldState)
    → ((s x : ConnectionState) → IsOnTrack (roster_of w.cells) s → change s x → IsOnTrack (roster_of w.cells) x)
    → AreOnTrack w → AtConnection change session w e → AreOnTrack e
at_connection change session w e keeps track (after, changes, same) =
    subst (λ (x : WorldState). AreOnTrack x) (sym same)
    (with_tables w (record w { connections = after }) refl (changed (connection_at session w.connections) refl changes))
  where
    changed : (o : Option ConnectionState) → connection_at session w.connections ≡ o → InConnection change session o w.connections after
        → AllByRecursion (IsOnTrack (roster_of w.cells)) after
    changed None none is = subst (λ (ss : List ConnectionState). AllByRecursion (IsOnTrack (roster_of w.cells)) ss) (sym is) track
    changed (Some s) found (new, so, is) =
        subst (λ (ss : List ConnectionState). AllByRecursion (IsOnTrack (roster_of w.cells)) ss) (sym is)
        (set_one (roster_of w.cells) session w.connections new
        (keeps s new (one_of (roster_of w.cells) session w.connections s found track) so) track)

teaches : (roster : List Definition) (s e : ConnectionState) → IsOnTrack roster s → TeachesOldest s.copied s e → IsOnTrack roster e
teaches roster s e track so = by s.copied refl so
  where
    by : (waiting : List (List Update)) → s.copied ≡ waiting → TeachesOldest waiting s e → IsOnTrack roster e
    by [] oldest same = subst (λ (x : ConnectionState). IsOnTrack roster x) (sym same) track
    by (batch ∷ rest) oldest (bytes, after, good, lesson, same) =
        subst (λ (x : ConnectionState). IsOnTrack roster x) (sym same)
        (taught roster s batch rest bytes after track oldest (lesson.0, lesson.1, lesson.2, lesson.3) good)

arrives_at_learner : (roster : List Definition) (count now : ℕ) (s e : ConnectionState) → IsOnTrack roster s → ArrivesAtLearner count now s e → IsOnTrack roster e
arrives_at_learner roster count now s e track arrives =
    let piece : List ℕ = take count s.to_learner in
    let more : List ℕ = drop count s.to_learner in
    elim (cases_Bool (nat_le count (length s.to_learner))) [
      | inl enough ↦ fed (MatchBool-at_true (IsFed now piece more s e) (e ≡ s) enough arrives)
      | inr short ↦ subst (λ (x : ConnectionState). IsOnTrack roster x) (sym (MatchBool-at_false (IsFed now piece more s e) (e ≡ s) short arrives)) track
    ]
  where
    fed : IsFed now (take count s.to_learner) (drop count s.to_learner) s e → IsOnTrack roster e
    fed (ns, us, after, learned, waits, same) =
        let piece : List ℕ = take count s.to_learner in
        let more : List ℕ = drop count s.to_learner in
        let ms : List Message = track.way.0 in
        let to_come : List Update = track.way.1 in
        let way : IsOnItsWay s.learner (piece ++ more) ms to_come s.known.state =
        subst (λ (x : List ℕ). IsOnItsWay s.learner x ms to_come s.known.state) (sym (take-append-drop count s.to_learner)) track.way.2 in
        let next = on_way now (with_piece s.learner piece) after more ms ns to_come us s.known.state (fed_on_way s.learner piece more ms to_come s.known.state way) learned in
        subst (λ (x : ConnectionState). IsOnTrack roster x) (sym same)
        (record {
          known = track.known;
          learner = next.6 ∙ track.learner;
          batches = track.batches;
          way = (next.0, next.1, next.8, track.way.3 ∙ ap (λ (x : List Update). s.applied ++ x) next.3 ∙ sym (append_assoc s.applied us next.1));
        })

-- ---- acknowledgements that arrive

acked_stays : (session number : ℕ) (c new : CellState) → acked session number c ≡ Some new → new.state.definition ≡ c.state.definition
acked_stays session number c new is = ap (λ (x : CellState). x.state.definition) (sym (cond_some _ _ new is).1)

acked_all_stays : (session : ℕ) (acks : List (ℕ × ℕ)) (cells after : List CellState) → acked_all session acks cells ≡ Some after
    → roster_of after ≡ roster_of cells
acked_all_stays session [] cells after is = ap (λ (cs : List CellState). roster_of cs) (sym (same_Some cells after is))
acked_all_stays session (ack ∷ acks) cells after is =
    option_and_then_some (λ (c : CellState). acked_all session acks (with_cell ack.0 c cells)) (option_and_then (acked session ack.1) (cell_at ack.0 cells)) after is
    (λ new made rest.
    option_and_then_some (acked session ack.1) (cell_at ack.0 cells) new made
    (λ c found taken.
    acked_all_stays session acks (with_cell ack.0 new cells) after rest
    ∙ roster_with ack.0 c new cells found (acked_stays session ack.1 c new taken)))

arrives_at_teacher : (session count : ℕ) (w e : WorldState) → AreOnTrack w → ArrivesAtTeacher session count (connection_at session w.connections) w e → AreOnTrack e
arrives_at_teacher session count w e track arrives = of_one (connection_at session w.connections) refl arrives
  where
    same_world : e ≡ w → AreOnTrack e
    same_world same = subst (λ (x : WorldState). AreOnTrack x) (sym same) track

    arrived : (rest left : List ℕ) (acks : List (ℕ × ℕ)) (s : ConnectionState) (o : Option (List CellState)) → IsOnTrack (roster_of w.cells) s
        → acked_all session acks w.cells ≡ o → IsArrived session rest left o s w e → AreOnTrack e
    arrived rest left acks s None one refused same = same_world same
    arrived rest left acks s (Some cells) one taken same =
        let new : ConnectionState = record s { to_teacher = rest; unread = left } in
        let on_track : IsOnTrack (roster_of w.cells) new = record { known = one.known; learner = one.learner; batches = one.batches; way = one.way } in
        subst (λ (x : WorldState). AreOnTrack x) (sym same)
        (with_tables w (record { cells = cells; connections = with_connection session new w.connections }) (acked_all_stays session acks w.cells cells taken)
        (set_one (roster_of w.cells) session w.connections new on_track track))

    read : (rest bytes : List ℕ) (s : ConnectionState) → IsOnTrack (roster_of w.cells) s → IsReadBy session bytes rest s w e → AreOnTrack e
    read rest bytes s one (ms, received, left, are_read, waits, so) = arrived rest left _ s _ one refl so

    of_one : (o : Option ConnectionState) → connection_at session w.connections ≡ o → ArrivesAtTeacher session count o w e → AreOnTrack e
    of_one None none same = same_world same
    of_one (Some s) found arrives =
        let rest : List ℕ = drop count s.to_teacher in
        let bytes : List ℕ = s.unread ++ take count s.to_teacher in
        elim (cases_Bool (nat_le count (length s.to_teacher))) [
          | inl enough ↦
              read rest bytes s (one_of (roster_of w.cells) session w.connections s found track)
              (MatchBool-at_true (IsReadBy session bytes rest s w e) (e ≡ w) enough arrives)
          | inr short ↦ same_world (MatchBool-at_false (IsReadBy session bytes rest s w e) (e ≡ w) short arrives)
        ]

-- ---- new connections

closed_stays : (session : ℕ) (c new : CellState) → closed session c ≡ Some new → new.state.definition ≡ c.state.definition
closed_stays session c new is = ap (λ (x : CellState). x.state.definition) (sym (cond_some _ _ new is).1)

opened_stays : (session : ℕ) (v : Version) (c new : CellState) → opened session v c ≡ Some new → new.state.definition ≡ c.state.definition
opened_stays session v c new is = ap (λ (x : CellState). x.state.definition) (sym (cond_some _ _ new is).1)

option_map_some : {A B : Type 0} (f : A → B) (o : Option A) (y : B) → option_map f o ≡ Some y → (x : A) × (o ≡ Some x) × (f x ≡ y)
option_map_some f None y is = absurd (none-some y is)
option_map_some f (Some x) y is = (x, refl, same_Some (f x) y is)

reopened_all_stays : (session : ℕ) (v : Version) (cells after : List CellState) → reopened_all session v cells ≡ Some after → roster_of after ≡ roster_of cells
reopened_all_stays session v [] after is = ap (λ (cs : List CellState). roster_of cs) (sym (same_Some [] after is))
reopened_all_stays session v (c ∷ cs) after is =
    option_and_then_some (λ (first : CellState). option_map (λ (rest : List CellState). first ∷ rest) (reopened_all session v cs))
    (option_and_then (opened session v) (closed session c)) after is
    (λ first made more.
    option_and_then_some (opened session v) (closed session c) first made
    (λ mid shut again.
    let others = option_map_some (λ (rest : List CellState). first ∷ rest) (reopened_all session v cs) after more in
    let same : first.state.definition ≡ c.state.definition = opened_stays session v mid first again ∙ closed_stays session c mid shut in
    ap (λ (xs : List CellState). roster_of xs) (sym others.2)
    ∙ ap (λ (d : Definition). d ∷ roster_of others.0) same
    ∙ ap (λ (ds : List Definition). c.state.definition ∷ ds) (reopened_all_stays session v cs others.0 others.1)))

reopens : (session : ℕ) (v : Version) (w e : WorldState) (new : List ConnectionState) (o : Option (List CellState)) → AreOnTrack w
    → AllByRecursion (IsOnTrack (roster_of w.cells)) new → reopened_all session v w.cells ≡ o
    → IsReopened o (λ cells. record { cells = cells; connections = new }) w e → AreOnTrack e
reopens session v w e new None track all refused same = subst (λ (x : WorldState). AreOnTrack x) (sym same) track
reopens session v w e new (Some cells) track all made same =
    subst (λ (x : WorldState). AreOnTrack x) (sym same)
    (with_tables w (record { cells = cells; connections = new }) (reopened_all_stays session v w.cells cells made) all)

-- a new connection in place of one that is on track
begins_anew : (v : Version) (roster : List Definition) (s : ConnectionState) → IsOnTrack roster s → IsOnTrack roster (new_connection v roster)
begins_anew v roster s track =
    let once : repeats_name roster ≡ false = ap (λ (ds : List Definition). repeats_name ds) (sym track.learner) ∙ track.way.2.0 in
    record { known = refl; learner = refl; batches = tt; way = ([], [], (once, tt, tt, (refl, refl), refl, refl, λ i. omega arith), refl) }

breaks : (session : ℕ) (w e : WorldState) (o : Option ConnectionState) → connection_at session w.connections ≡ o → AreOnTrack w → Breaks session o w e → AreOnTrack e
breaks session w e None none track same = subst (λ (x : WorldState). AreOnTrack x) (sym same) track
breaks session w e (Some s) found track so =
    reopens session s.version w e (with_connection session (new_connection s.version (roster_of w.cells)) w.connections) (reopened_all session s.version w.cells) track
    (set_one (roster_of w.cells) session w.connections (new_connection s.version (roster_of w.cells)) (begins_anew s.version (roster_of w.cells) s (one_of (roster_of w.cells) session w.connections s found track)) track) refl so

opens_again : (session : ℕ) (w e : WorldState) (o : Option ConnectionState) → AreOnTrack w → Reopens session o w e → AreOnTrack e
opens_again session w e None track same = subst (λ (x : WorldState). AreOnTrack x) (sym same) track
opens_again session w e (Some s) track so =
    elim (cases_Bool (list_any (λ (c : CellState). has_out (progress_of session c.state)) w.cells)) [
      | inl out ↦ subst (λ (x : WorldState). AreOnTrack x) (sym (MatchBool-at_true (e ≡ w) (IsReopened (reopened_all session s.version w.cells) (λ cells. record w { cells = cells }) w e) out so)) track
      | inr none ↦
          reopens session s.version w e w.connections (reopened_all session s.version w.cells) track track refl
          (MatchBool-at_false (e ≡ w) (IsReopened (reopened_all session s.version w.cells) (λ cells. record w { cells = cells }) w e) none so)
    ]

-- ---- all steps

pub stays : (w e : WorldState) (step : Step) → is_copy step ≡ false → AreOnTrack w → Moves w step e → AreOnTrack e
stays w e (steps.Track table key change now) other track moves =
    at_table _ table w e (λ c x called. track_stays c x 0 now key change called.0 called.2) track moves
stays w e (steps.Learn session u now) other track moves =
    learns session now u (connection_at session w.connections) w e track moves
stays w e (steps.Copy session table kind limit now) other track moves = absurd (true≢false other)
stays w e (steps.Teach session) other track moves =
    at_connection (λ s x. TeachesOldest s.copied s x) session w e (λ s x one so. teaches (roster_of w.cells) s x one so) track moves
stays w e (steps.Deliver session ways.ToLearner count now) other track moves =
    at_connection (ArrivesAtLearner count now) session w e (λ s x one so. arrives_at_learner (roster_of w.cells) count now s x one so) track moves
stays w e (steps.Deliver session ways.ToTeacher count now) other track moves = arrives_at_teacher session count w e track moves
stays w e (steps.Ack session) other track moves =
    at_connection (λ s x. x ≡ acknowledges s) session w e
    (λ s x one so. subst (λ (y : ConnectionState). IsOnTrack (roster_of w.cells) y) (sym so) (acknowledged (roster_of w.cells) s one)) track moves
stays w e (steps.Break session) other track moves = breaks session w e (connection_at session w.connections) refl track moves
stays w e (steps.Reopen session) other track moves = opens_again session w e (connection_at session w.connections) track moves
stays w e (steps.Purge table now) other track moves = at_table _ table w e (λ c x called. purge_stays c x now called.0 called.2) track moves

-- ---- a new world

pub new_world : (cells : List CellState) (versions : List Version) → roster_fault (roster_of cells) ≡ None
    → AreOnTrack (record { cells = cells; connections = map (λ version. new_connection version (roster_of cells)) versions })
new_world cells versions sound = each versions
  where
    each : (vs : List Version) → AllByRecursion (IsOnTrack (roster_of cells)) (map (λ version. new_connection version (roster_of cells)) vs)
    each [] = tt
    each (v ∷ vs) = (begun v (roster_of cells) sound, each vs)

-- ---- bytes

rear_good : (a b : List ℕ) → IsBytes (a ++ b) → IsBytes b
rear_good a b good = subst IsBytes (drop_at a b (length a) refl) (IsBytes-drop (length a) (a ++ b) good)

pub bytes_to_learners : (w : WorldState) → AreOnTrack w → AllByRecursion (λ s. IsBytes s.to_learner) w.connections
bytes_to_learners w track = each w.connections track
  where
    each : (ss : List ConnectionState) → AllByRecursion (IsOnTrack (roster_of w.cells)) ss → AllByRecursion (λ s. IsBytes s.to_learner) ss
    each [] all = tt
    each (s ∷ ss) (one, rest) = (rear_good s.learner.intake.unread s.to_learner one.way.2.6, each ss rest)
