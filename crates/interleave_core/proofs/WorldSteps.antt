-- A world stays sound at each step, and over each run.
use Rattle.std.proofs.Common.{◌≡◌, ◌≢◌, ◌≤◌, ◌<◌, ◌^◌, ℕ, true, false, List, [], ◌∷◌, ◌++◌, length, drop, take, Option, Some, None, Result, Ok, Err, refl, sym, ap, subst, ◌∙◌, inl, inr, ◌⊎◌}
use Rattle.std.specs.Prelude.{filter_map, is_some, nat_le}
use Rattle.std.specs.List.{AllByRecursion, list_any}
use Rattle.std.proofs.lemmas.Bool.{ne_eqb}
use Rattle.std.proofs.lemmas.List.{append_cancel_left}
use Rattle.table_types.specs.declared.change.Change.{Change}
use Rattle.table_types.specs.declared.copies.CopyKind.{CopyKind}
use Rattle.table_types.specs.declared.key.Key.{Key}
use Rattle.table_types.specs.declared.update.Update.{Update}
use Rattle.table_types.specs.Batches.{IsBatchFor, IsUpdateFor}
use Rattle.table_types.specs.Rosters.{has_id, roster_fault}
use Rattle.table_types.specs.Tables.{Definition}
use Rattle.table_types.proofs.BatchIsFaultless.{batch_of_one}
use Rattle.known_state.specs.Known.{is_in}
use Rattle.known_state.proofs.FitsOrIsRefused.{has_id-table_at}
use Rattle.learner.specs.Intake.{due_acks}
use Rattle.table_cell.specs.declared.errors.CopyError.{CopyError}
use Rattle.table_cell.specs.declared.errors.CopyError.TheVariants as uncopied
use Rattle.table_cell.specs.declared.errors.LearnError.{LearnError}
use Rattle.table_cell.specs.declared.errors.LearnError.TheVariants as unlearned
use Rattle.table_cell.specs.declared.errors.PurgeError.{PurgeError}
use Rattle.table_cell.specs.declared.errors.PurgeError.TheVariants as unpurged
use Rattle.table_cell.specs.declared.errors.TrackError.{TrackError}
use Rattle.table_cell.specs.declared.errors.TrackError.TheVariants as untracked
use Rattle.table_cell.specs.declared.events.CellEvent.{CellEvent}
use Rattle.table_cell.specs.declared.events.CellEvent.TheVariants as events
use Rattle.table_cell.specs.declared.events.CellReply.{CellReply}
use Rattle.table_cell.specs.declared.events.CellReply.TheVariants as replies
use Rattle.table_cell.specs.declared.events.Reply.{Reply}
use Rattle.table_cell.specs.Machine.{has_out, progress_of, unacked}
use Rattle.table_cell.specs.Soundness.{IsTimely}
use Rattle.table_cell.specs.Histories.{CellState, Copies, IsSoundCell, Learns, Made, Purges, Tracks, is_history_full}
use Rattle.table_cell.specs.Handing.{KeepsUp, is_about}
use Rattle.table_cell.proofs.BatchLaws.{copied_batch}
use Rattle.table_cell.proofs.HandingSteps.{made_keeps}
use Rattle.table_cell.proofs.StepLaws.{copy_granted}
use Rattle.interleave_core.specs.declared.step.Step.{Step}
use Rattle.interleave_core.specs.declared.step.Step.TheVariants as steps
use Rattle.interleave_core.specs.declared.way.Way.TheVariants as ways
use Rattle.interleave_core.specs.Moves.{AtConnection, AtTable, CopiesFor, InConnection, InTable, IsArrived, IsFed, IsReadBy, IsReopened, LearnsFor, Moves, RunsTo, TeachesOldest, ack_in, acked_all, acknowledges, is_made, reopened_all}
use Rattle.interleave_core.specs.Sound.{IsSoundConnection, last_number_of}
use Rattle.interleave_core.specs.SoundWorlds.{IsSoundSession, IsSoundWorld, IsTimelyStep}
use Rattle.interleave_core.specs.Ties.{AreSoundTables, AreTied}
use Rattle.interleave_core.specs.Worlds.{ConnectionState, WorldState, cell_at, connection_at, new_connection, roster_of, with_cell, with_connection}
use Rattle.interleave_core.proofs.Copying.{made_most}
use Rattle.interleave_core.proofs.SoundConnections as connections
use Rattle.interleave_core.proofs.TieAnswers.{all_taken, due_sent, others_taken}
use Rattle.interleave_core.proofs.TieCells.{found_id}
use Rattle.interleave_core.proofs.TieOpenings.{new_ties, others_reopened, still_ties}
use Rattle.interleave_core.proofs.TiePairs.{same_batch}
use Rattle.interleave_core.proofs.TieSteps.{copy_event, more_learned, oldest_taught, other_event}
use Rattle.interleave_core.proofs.TieTables.{all_at, table_changed, tables_acked, tables_reopened}
use Rattle.interleave_core.proofs.WorldPlaces.{connection_after, each_side, in_roster, same_connections, same_tables}

-- ---- parts of a world

-- the tables change, and no connection does
tables_only : (w : WorldState) (after : List CellState) → IsSoundWorld w → AreSoundTables after × (roster_of after ≡ roster_of w.cells)
    → ((n before : ℕ) (s : ConnectionState) (acks : List (ℕ × ℕ)) → AreTied n before s acks w.cells → AreTied n before s acks after)
    → IsSoundWorld (record w { cells = after })
tables_only w after sound (tables, same) kept = record {
  roster = ap roster_fault same ∙ sound.roster;
  tables = tables;
  sessions = λ n s at.
      let (before, acks, connection, ties) = sound.sessions n s at in
      (before, acks, subst (λ (ds : List Definition). IsSoundConnection ds s acks) (sym same) connection, kept n before s acks ties);
}

-- a connection changes, and perhaps the tables
one_session : (w : WorldState) (m : ℕ) (new : ConnectionState) (after : List CellState) → IsSoundWorld w → AreSoundTables after × (roster_of after ≡ roster_of w.cells)
    → IsSoundSession m after new
    → ((n before : ℕ) (s : ConnectionState) (acks : List (ℕ × ℕ)) → n ≢ m → AreTied n before s acks w.cells → AreTied n before s acks after)
    → IsSoundWorld (record { cells = after; connections = with_connection m new w.connections })
one_session w m new after sound (tables, same) own kept = record {
  roster = ap roster_fault same ∙ sound.roster;
  tables = tables;
  sessions = λ n s at. elim (connection_after m n new s w.connections at) [
    | inl (here, is) ↦ subst (λ (x : ConnectionState). IsSoundSession n after x) (sym is) (subst (λ (k : ℕ). IsSoundSession k after new) (sym here) own)
    | inr (other, old) ↦
        let (before, acks, connection, ties) = sound.sessions n s old in
        (before, acks, subst (λ (ds : List Definition). IsSoundConnection ds s acks) (sym same) connection, kept n before s acks other ties)
  ];
}

-- a connection changes, and no table does
connection_only : (w : WorldState) (m : ℕ) (new : ConnectionState) → IsSoundWorld w → IsSoundSession m w.cells new → IsSoundWorld (record w { connections = with_connection m new w.connections })
connection_only w m new sound own = one_session w m new w.cells sound (sound.tables, refl) own (λ n before s acks other ties. ties)

unchanged : (w e : WorldState) → IsSoundWorld w → e ≡ w → IsSoundWorld e
unchanged w e sound is = subst IsSoundWorld (sym is) sound

-- ---- events of tables alone

-- the table is as it was, or had an event that is about no session
abbrev pub Happens : CellState → CellState → Type 0
Happens c e =
    (e ≡ c) ⊎ ((event : CellEvent) × (reply : CellReply) × IsTimely event × ((n : ℕ) → is_about n event ≡ false) × (is_history_full c ≡ false) × Made c event reply e)

table_event : (w : WorldState) (t : ℕ) (c e : CellState) → IsSoundWorld w → cell_at t w.cells ≡ Some c → Happens c e → IsSoundWorld (record w { cells = with_cell t e w.cells })
table_event w t c e sound at (inl same) =
    subst (λ (l : List CellState). IsSoundWorld (record w { cells = l })) (sym (ap (λ (x : CellState). with_cell t x w.cells) same ∙ same_tables t c w.cells at)) sound
table_event w t c e sound at (inr (event, reply, timely, about, room, made)) =
    tables_only w (with_cell t e w.cells) sound (table_changed t w.cells c e event reply timely room at made sound.tables)
    (λ n before s acks ties. other_event n before t s acks w.cells c e event reply (about n) at made ties)

at_table : (call : CellState → CellState → Type 0) (t : ℕ) (w e : WorldState) → IsSoundWorld w → ((c x : CellState) → call c x → Happens c x) → AtTable call t w e → IsSoundWorld e
at_table call t w e sound happens (after, inside, is) = subst IsSoundWorld (sym is) (by (cell_at t w.cells) refl inside)
  where
    by : (o : Option CellState) → cell_at t w.cells ≡ o → InTable call t o w.cells after → IsSoundWorld (record w { cells = after })
    by None at same = subst (λ (l : List CellState). IsSoundWorld (record w { cells = l })) (sym same) sound
    by (Some c) at (changed, called, same) =
        subst (λ (l : List CellState). IsSoundWorld (record w { cells = l })) (sym same) (table_event w t c changed sound at (happens c changed called))

pub tracked : (key : Key) (change : Change) (now : ℕ) (c e : CellState) (answer : Result Reply TrackError) → now < 2 ^ 63 → Tracks c 0 key change now answer e → Happens c e
tracked key change now c e (Ok r) timely (room, made) = inr (events.Track 0 key change now, replies.Track r, timely, (λ n. refl), room, made)
tracked key change now c e (Err untracked.TableFull) timely (refused, same) = inl same
tracked key change now c e (Err untracked.WrongKey) timely (refused, same) = inl same
tracked key change now c e (Err untracked.NoSuchData) timely (refused, same) = inl same
tracked key change now c e (Err untracked.Spent) timely (refused, same) = inl same
tracked key change now c e (Err untracked.HistoryFull) timely (refused, same) = inl same
tracked key change now c e (Err untracked.MomentBack) timely (refused, same) = inl same
tracked key change now c e (Err untracked.Memory) timely (refused, same) = inl same

pub learned : (session now : ℕ) (u : Update) (c e : CellState) (answer : Result Reply LearnError) → now < 2 ^ 63 → Learns c session u now answer e → Happens c e
learned session now u c e (Ok r) timely (room, made) = inr (events.Learn session u now, replies.Learn r, timely, (λ n. refl), room, made)
learned session now u c e (Err unlearned.NoSession) timely (refused, same) = inl same
learned session now u c e (Err unlearned.Misfit) timely (refused, same) = inl same
learned session now u c e (Err unlearned.MomentBack) timely (refused, same) = inl same
learned session now u c e (Err unlearned.HistoryFull) timely (refused, same) = inl same
learned session now u c e (Err unlearned.Spent) timely (refused, same) = inl same
learned session now u c e (Err unlearned.TableFull) timely (refused, same) = inl same
learned session now u c e (Err unlearned.Memory) timely (refused, same) = inl same

pub purged : (now : ℕ) (c e : CellState) (answer : Result ℕ PurgeError) → now < 2 ^ 63 → Purges c now answer e → Happens c e
purged now c e (Ok count) timely (room, made) = inr (events.Purge now, replies.Purge count, timely, (λ n. refl), room, made)
purged now c e (Err unpurged.MomentBack) timely (refused, same) = inl same
purged now c e (Err unpurged.HistoryFull) timely (refused, same) = inl same
purged now c e (Err unpurged.Memory) timely (refused, same) = inl same

-- ---- copies

pub refused_copy : (session kind_limit now : ℕ) (kind : CopyKind) (c e : CellState) (error : CopyError) → Copies c session kind kind_limit now (Err error) e → e ≡ c
refused_copy session limit now kind c e uncopied.BatchOut (refused, same) = same
refused_copy session limit now kind c e uncopied.Nothing (refused, same) = same
refused_copy session limit now kind c e uncopied.NoSession (refused, same) = same
refused_copy session limit now kind c e uncopied.HistoryFull (refused, same) = same
refused_copy session limit now kind c e uncopied.MomentBack (refused, same) = same
refused_copy session limit now kind c e uncopied.Memory (refused, same) = same

-- what a sound table copies is a batch for the roster
batch_here : (w : WorldState) (session t limit now : ℕ) (kind : CopyKind) (c e : CellState) (us : List Update) → IsSoundWorld w → cell_at t w.cells ≡ Some c → limit ≤ 4096
    → Made c (events.Copy session kind limit now) (replies.Copy us) e → IsBatchFor (roster_of w.cells) us
batch_here w session t limit now kind c e us sound at few made =
    let granted = (copy_granted false c.state session kind limit now made.0.0).1 in
    let of_one = copied_batch c.state session kind limit now (all_at IsSoundCell t c w.cells sound.tables.sound at).sound granted.later few in
    let listed = ap (λ (k : ℕ). Rattle.table_types.specs.Rosters.table_at (roster_of w.cells) k) (found_id t c w.cells at) ∙ in_roster t c w.cells at in
    subst (IsBatchFor (roster_of w.cells)) (sym (same_batch us (unacked c.state session kind now limit) made.0.1)) (batch_of_one c.state.definition (roster_of w.cells) (unacked c.state session kind now limit) listed of_one)

copied : (w e : WorldState) (session t limit now : ℕ) (kind : CopyKind) → IsSoundWorld w → now < 2 ^ 63 → limit ≤ 4096
    → CopiesFor session t kind limit now (cell_at t w.cells) (connection_at session w.connections) w e → IsSoundWorld e
copied w e session t limit now kind sound timely few moves = by (cell_at t w.cells) refl (connection_at session w.connections) refl moves
  where
    made_copy : (c after : CellState) (s : ConnectionState) (us : List Update) → cell_at t w.cells ≡ Some c → connection_at session w.connections ≡ Some s → is_history_full c ≡ false
        → Made c (events.Copy session kind limit now) (replies.Copy us) after
        → IsSoundWorld (record { cells = with_cell t after w.cells; connections = with_connection session (record s { copied = s.copied ++ us ∷ [] }) w.connections })
    made_copy c after s us at found room made =
        let event = events.Copy session kind limit now in
        let (before, acks, connection, ties) = sound.sessions session s found in
        let tables = table_changed t w.cells c after event (replies.Copy us) timely room at made sound.tables in
        let keeps = made_keeps c after event (replies.Copy us) session (all_at IsSoundCell t c w.cells sound.tables.sound at) made (all_at (KeepsUp session) t c w.cells (sound.tables.keep session) at) in
        one_session w session (record s { copied = s.copied ++ us ∷ [] }) (with_cell t after w.cells) sound tables (
          before,
          acks,
          subst (λ (ds : List Definition). IsSoundConnection ds (record s { copied = s.copied ++ us ∷ [] }) acks) (sym tables.1)
              (connections.copied (roster_of w.cells) s acks us connection (batch_here w session t limit now kind c after us sound at few made)),
          copy_event session before limit now t kind us s acks w.cells c after keeps at made ties,
        )
        (λ n b x others differs old. other_event n b t x others w.cells c after event (replies.Copy us) (ne_eqb session n (λ same. differs (sym same))) at made old)

    by : (o : Option CellState) → cell_at t w.cells ≡ o → (p : Option ConnectionState) → connection_at session w.connections ≡ p → CopiesFor session t kind limit now o p w e → IsSoundWorld e
    by None at p found same = unchanged w e sound same
    by (Some c) at None found same = unchanged w e sound same
    by (Some c) at (Some s) found (Ok us, after, ok, (room, made), is) = subst IsSoundWorld (sym is) (made_copy c after s us at found room made)
    by (Some c) at (Some s) found (Err error, after, ok, refused, is) =
        let same = refused_copy session limit now kind c after error refused in
        let cells : with_cell t after w.cells ≡ w.cells = ap (λ (x : CellState). with_cell t x w.cells) same ∙ same_tables t c w.cells at in
        unchanged w e sound (is
        ∙ ap (λ (l : List CellState). record { cells = l; connections = with_connection session s w.connections }) cells
        ∙ ap (λ (l : List ConnectionState). record { cells = w.cells; connections = l }) (same_connections session s w.connections found))

-- ---- one connection

at_connection : (change : ConnectionState → ConnectionState → Type 0) (session : ℕ) (w e : WorldState) → IsSoundWorld w
    → ((s x : ConnectionState) → connection_at session w.connections ≡ Some s → change s x → IsSoundSession session w.cells x)
    → AtConnection change session w e → IsSoundWorld e
at_connection change session w e sound own (after, inside, is) = by (connection_at session w.connections) refl inside
  where
    by : (o : Option ConnectionState) → connection_at session w.connections ≡ o → InConnection change session o w.connections after → IsSoundWorld e
    by None found same = unchanged w e sound (is ∙ ap (λ (l : List ConnectionState). record w { connections = l }) same)
    by (Some s) found (changed, so, same) =
        subst IsSoundWorld (sym (is ∙ ap (λ (l : List ConnectionState). record w { connections = l }) same))
        (connection_only w session changed sound (own s changed found so))

taught : (w : WorldState) (session : ℕ) (s x : ConnectionState) → IsSoundWorld w → connection_at session w.connections ≡ Some s
    → TeachesOldest s.copied s x → IsSoundSession session w.cells x
taught w session s x sound found moves = by s.copied refl moves
  where
    by : (batches : List (List Update)) → s.copied ≡ batches → TeachesOldest batches s x → IsSoundSession session w.cells x
    by [] oldest same = subst (IsSoundSession session w.cells) (sym same) (sound.sessions session s found)
    by (batch ∷ rest) oldest (bytes, after, good, lesson, is) =
        let (before, acks, connection, ties) = sound.sessions session s found in
        let new : ConnectionState = record s { known = after; copied = rest; taught = s.taught ++ batch; to_learner = s.to_learner ++ bytes } in
        subst (IsSoundSession session w.cells) (sym is) (
          before,
          acks,
          connections.taught (roster_of w.cells) s acks batch rest bytes after connection oldest (lesson.0, lesson.1, lesson.2, lesson.3) good,
          oldest_taught session before s new acks w.cells batch connection.track.way.1 rest connection.track.way.3 oldest refl refl refl refl ties,
        )

fed : (w : WorldState) (session now count : ℕ) (s x : ConnectionState) → now < 2 ^ 63 → IsSoundWorld w → connection_at session w.connections ≡ Some s
    → IsFed now (take count s.to_learner) (drop count s.to_learner) s x → IsSoundSession session w.cells x
fed w session now count s x timely sound found (ms, us, l, learns, waits, is) =
    let (before, acks, connection, ties) = sound.sessions session s found in
    let after = connections.delivered (roster_of w.cells) s x acks now count timely connection (ms, us, l, learns, waits, is) in
    let taught_same : x.taught ≡ s.taught = ap (λ (y : ConnectionState). y.taught) is in
    let applied : x.applied ≡ s.applied ++ us = ap (λ (y : ConnectionState). y.applied) is in
    let split : s.taught ≡ (s.applied ++ us) ++ after.track.way.1 = sym taught_same ∙ after.track.way.3 ∙ ap (λ (l : List Update). l ++ after.track.way.1) applied in (
      before,
      acks,
      after,
      more_learned session before s x acks w.cells us after.track.way.1 split (ap (λ (y : ConnectionState). y.copied) is) taught_same applied
          (λ t due.
          let (vs, joined, cause) = connections.due_by_updates (roster_of w.cells) s x acks now count t connection (ms, us, l, learns, waits, is) due in
          let same : vs ≡ us = append_cancel_left s.applied vs us (sym joined ∙ applied) in
          subst (λ (l : List Update). (is_in t s.learner.intake.due ≡ true) ⊎ (is_some (last_number_of t l) ≡ true)) same cause)
          ties,
    )

answered : (w : WorldState) (session : ℕ) (s x : ConnectionState) → IsSoundWorld w → connection_at session w.connections ≡ Some s → x ≡ acknowledges s → IsSoundSession session w.cells x
answered w session s x sound found is =
    let (before, acks, connection, ties) = sound.sessions session s found in
    let sent = filter_map (ack_in (roster_of w.cells)) (due_acks s.learner.intake) in
    subst (IsSoundSession session w.cells) (sym is) (
      before,
      acks ++ sent,
      connections.acknowledged (roster_of w.cells) s acks connection,
      due_sent session before s acks sent w.cells (λ t. connections.owed_numbers (roster_of w.cells) s acks t connection) ties,
    )

-- ---- a delivery to the teacher

read : (w e : WorldState) (session count : ℕ) (s : ConnectionState) → IsSoundWorld w → connection_at session w.connections ≡ Some s
    → IsReadBy session (s.unread ++ take count s.to_teacher) (drop count s.to_teacher) s w e → IsSoundWorld e
read w e session count s sound found (ms, received, left, are_read, waits, arrived) = by (acked_all session given w.cells) refl arrived
  where
    given : List (ℕ × ℕ)
    given = filter_map (ack_in (roster_of w.cells)) ms

    new : ConnectionState
    new = record s { to_teacher = drop count s.to_teacher; unread = left }

    own : (after : List CellState) → acked_all session given w.cells ≡ Some after → roster_of after ≡ roster_of w.cells → IsSoundSession session after new
    own after all same =
        let (before, acks, connection, ties) = sound.sessions session s found in
        let (later, split, then) = connections.arrived (roster_of w.cells) s acks count ms received left connection are_read in
        let tied = all_taken session before s given later w.cells after all (subst (λ (l : List (ℕ × ℕ)). AreTied session before s l w.cells) split ties) in
        (before, later, subst (λ (ds : List Definition). IsSoundConnection ds new later) (sym same) then, record { within = tied.within; each = tied.each })

    by : (o : Option (List CellState)) → acked_all session given w.cells ≡ o → IsArrived session (drop count s.to_teacher) left o s w e → IsSoundWorld e
    by None all same = unchanged w e sound same
    by (Some after) all is =
        let tables = tables_acked session given w.cells after all sound.tables in
        subst IsSoundWorld (sym is)
        (one_session w session new after sound tables (own after all tables.1) (λ n b x others differs old. others_taken session n b x given others w.cells after differs all old))

-- ---- the session is opened anew

broken : (w e : WorldState) (session : ℕ) (s : ConnectionState) → IsSoundWorld w → connection_at session w.connections ≡ Some s
    → IsReopened (reopened_all session s.version w.cells) (λ cells. record { cells = cells; connections = with_connection session (new_connection s.version (roster_of w.cells)) w.connections }) w e → IsSoundWorld e
broken w e session s sound found reopens = by (reopened_all session s.version w.cells) refl reopens
  where
    by : (o : Option (List CellState)) → reopened_all session s.version w.cells ≡ o
        → IsReopened o (λ cells. record { cells = cells; connections = with_connection session (new_connection s.version (roster_of w.cells)) w.connections }) w e → IsSoundWorld e
    by None all same = unchanged w e sound same
    by (Some after) all is =
        let tables = tables_reopened session s.version w.cells after all sound.tables in
        subst IsSoundWorld (sym is)
        (one_session w session (new_connection s.version (roster_of w.cells)) after sound tables (
          0,
          [],
          subst (λ (ds : List Definition). IsSoundConnection ds (new_connection s.version (roster_of w.cells)) []) (sym tables.1) (connections.begun s.version (roster_of w.cells) sound.roster),
          new_ties session s.version (roster_of w.cells) w.cells after all,
        )
        (λ n b x others differs old. others_reopened session s.version n b x others w.cells after differs all old))

-- what fits a roster is of one of its tables
listed_each : (roster : List Definition) (us : List Update) → AllByRecursion (IsUpdateFor roster) us → AllByRecursion (λ (u : Update). has_id u.table roster ≡ true) us
listed_each roster [] all = tt
listed_each roster (u ∷ us) ((d, at, fit), others) =
    (has_id-table_at roster u.table ∙ ap (λ (o : Option Definition). is_some o) at, listed_each roster us others)

all_behind : (P : Update → Type 0) (us vs : List Update) → AllByRecursion P (us ++ vs) → AllByRecursion P vs
all_behind P [] vs all = all
all_behind P (u ∷ us) vs (first, rest) = all_behind P us vs rest

reopened : (w e : WorldState) (session : ℕ) (s : ConnectionState) → IsSoundWorld w → connection_at session w.connections ≡ Some s
    → list_any (λ (c : CellState). has_out (progress_of session c.state)) w.cells ≡ false
    → IsReopened (reopened_all session s.version w.cells) (λ cells. record w { cells = cells }) w e → IsSoundWorld e
reopened w e session s sound found quiet reopens = by (reopened_all session s.version w.cells) refl reopens
  where
    by : (o : Option (List CellState)) → reopened_all session s.version w.cells ≡ o → IsReopened o (λ cells. record w { cells = cells }) w e → IsSoundWorld e
    by None all same = unchanged w e sound same
    by (Some after) all is =
        let tables = tables_reopened session s.version w.cells after all sound.tables in
        let (before, acks, connection, ties) = sound.sessions session s found in
        let to_come = connection.track.way.1 in
        let known = listed_each (roster_of w.cells) to_come (all_behind (IsUpdateFor (roster_of w.cells)) s.applied to_come (subst (AllByRecursion (IsUpdateFor (roster_of w.cells))) connection.track.way.3 connection.taught)) in
        let still = still_ties session s.version before s acks to_come w.cells after connection.track.way.3 known quiet all ties in
        subst IsSoundWorld (sym (is ∙ ap (λ (l : List ConnectionState). record { cells = after; connections = l }) (sym (same_connections session s w.connections found))))
        (one_session w session s after sound tables
        (length s.taught, acks, subst (λ (ds : List Definition). IsSoundConnection ds s acks) (sym tables.1) connection, still.1)
        (λ n b x others differs old. others_reopened session s.version n b x others w.cells after differs all old))

-- ---- any step

to_teacher : (w e : WorldState) (session count : ℕ) (o : Option ConnectionState) → IsSoundWorld w → connection_at session w.connections ≡ o
    → Rattle.interleave_core.specs.Moves.ArrivesAtTeacher session count o w e → IsSoundWorld e
to_teacher w e session count None sound found same = unchanged w e sound same
to_teacher w e session count (Some s) sound found moves =
    each_side (nat_le count (length s.to_teacher)) (IsReadBy session (s.unread ++ take count s.to_teacher) (drop count s.to_teacher) s w e) (e ≡ w) (IsSoundWorld e) moves
    (λ enough. read w e session count s sound found) (λ few. unchanged w e sound)

breaks : (w e : WorldState) (session : ℕ) (o : Option ConnectionState) → IsSoundWorld w → connection_at session w.connections ≡ o
    → Rattle.interleave_core.specs.Moves.Breaks session o w e → IsSoundWorld e
breaks w e session None sound found same = unchanged w e sound same
breaks w e session (Some s) sound found moves = broken w e session s sound found moves

reopens : (w e : WorldState) (session : ℕ) (o : Option ConnectionState) → IsSoundWorld w → connection_at session w.connections ≡ o
    → Rattle.interleave_core.specs.Moves.Reopens session o w e → IsSoundWorld e
reopens w e session None sound found same = unchanged w e sound same
reopens w e session (Some s) sound found moves =
    each_side (list_any (λ (c : CellState). has_out (progress_of session c.state)) w.cells) (e ≡ w) (IsReopened (reopened_all session s.version w.cells) (λ cells. record w { cells = cells }) w e) (IsSoundWorld e) moves
    (λ out. unchanged w e sound) (λ quiet. reopened w e session s sound found quiet)

learns : (w e : WorldState) (session now : ℕ) (u : Update) (o : Option ConnectionState) → IsSoundWorld w → now < 2 ^ 63 → LearnsFor session u now o w e → IsSoundWorld e
learns w e session now u None sound timely same = unchanged w e sound same
learns w e session now u (Some s) sound timely moves =
    at_table _ u.table w e sound (λ c x (answer, ok, does). learned session now u c x answer timely does) moves

pub step_sound : (w e : WorldState) (step : Step) → IsTimelyStep step → IsSoundWorld w → Moves w step e → IsSoundWorld e
step_sound w e (steps.Track table key change now) timely sound moves =
    at_table _ table w e sound (λ c x (answer, ok, does). tracked key change now c x answer timely does) moves
step_sound w e (steps.Learn session u now) timely sound moves = learns w e session now u (connection_at session w.connections) sound timely moves
step_sound w e (steps.Purge table now) timely sound moves =
    at_table _ table w e sound (λ c x (answer, ok, does). purged now c x answer timely does) moves
step_sound w e (steps.Copy session table kind limit now) timely sound moves =
    each_side (is_made kind limit) _ (e ≡ w) (IsSoundWorld e) moves
    (λ made. copied w e session table limit now kind sound timely (made_most kind limit made)) (λ out. unchanged w e sound)
step_sound w e (steps.Teach session) timely sound moves =
    at_connection _ session w e sound (λ s x found does. taught w session s x sound found does) moves
step_sound w e (steps.Deliver session ways.ToLearner count now) timely sound moves =
    at_connection _ session w e sound (λ s x found does.
    each_side (nat_le count (length s.to_learner)) (IsFed now (take count s.to_learner) (drop count s.to_learner) s x) (x ≡ s) (IsSoundSession session w.cells x) does
    (λ enough. fed w session now count s x timely sound found) (λ few same. subst (IsSoundSession session w.cells) (sym same) (sound.sessions session s found))) moves
step_sound w e (steps.Deliver session ways.ToTeacher count now) timely sound moves = to_teacher w e session count (connection_at session w.connections) sound refl moves
step_sound w e (steps.Ack session) timely sound moves = at_connection _ session w e sound (λ s x found does. answered w session s x sound found does) moves
step_sound w e (steps.Break session) timely sound moves = breaks w e session (connection_at session w.connections) sound refl moves
step_sound w e (steps.Reopen session) timely sound moves = reopens w e session (connection_at session w.connections) sound refl moves

-- ---- runs

pub run_sound : (w e : WorldState) (steps : List Step) → AllByRecursion IsTimelyStep steps → IsSoundWorld w → RunsTo w steps e → IsSoundWorld e
run_sound w e [] timely sound is = unchanged w e sound is
run_sound w e (step ∷ steps) (one, rest) sound (mid, moves, runs) = run_sound mid e steps rest (step_sound w mid step one sound moves) runs

-- the world after the first steps of a run
pub between_sound : (w e : WorldState) (before after : List Step) → AllByRecursion IsTimelyStep before → IsSoundWorld w → RunsTo w (before ++ after) e
    → (mid : WorldState) × RunsTo w before mid × RunsTo mid after e × IsSoundWorld mid
between_sound w e [] after timely sound runs = (w, refl, runs, sound)
between_sound w e (step ∷ before) after (one, rest) sound (next, moves, runs) =
    let (mid, first, later, stays) = between_sound next e before after rest (step_sound w next step one sound moves) runs in
    (mid, (next, moves, first), later, stays)
