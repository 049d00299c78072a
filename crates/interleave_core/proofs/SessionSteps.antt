-- The calls of a session, as steps of a world.
use Rattle.std.proofs.Common.{◌≡◌, ◌≢◌, ◌≤◌, ℕ, false, List, [], ◌∷◌, ◌++◌, Option, Some, None, is_none, option_and_then, Result, Ok, Err, refl, sym, ap, ◌∙◌, arith}
use Rattle.std.proofs.lemmas.Bool.{cond-true, eqb-false}
use Rattle.std.specs.List.{AllByRecursion}
use Rattle.peers_msg.specs.Integers.{IsBytes}
use Rattle.table_types.specs.declared.copies.CopyKind.{CopyKind}
use Rattle.table_types.specs.declared.copies.CopyKind.TheVariants as kinds
use Rattle.table_types.specs.declared.copies.Settled.{Settled}
use Rattle.table_types.specs.declared.update.Update.{Update}
use Rattle.table_types.specs.declared.version.Version.{Version}
use Rattle.known_state.specs.Known.{KnownState}
use Rattle.teach_writer.specs.Lessons.{IsShortestLesson}
use Rattle.table_cell.specs.declared.errors.CloseError.{CloseError}
use Rattle.table_cell.specs.declared.errors.CopyError.{CopyError}
use Rattle.table_cell.specs.declared.errors.CopyError.TheVariants as uncopied
use Rattle.table_cell.specs.declared.errors.LearnError.{LearnError}
use Rattle.table_cell.specs.declared.errors.LearnError.TheVariants as unlearned
use Rattle.table_cell.specs.declared.errors.OpenError.{OpenError}
use Rattle.table_cell.specs.declared.events.CellEvent.TheVariants as events
use Rattle.table_cell.specs.declared.events.CellReply.TheVariants as replies
use Rattle.table_cell.specs.declared.events.Reply.{Reply}
use Rattle.table_cell.specs.Histories.{Acknowledges, CellState, Closes, Copies, Learns, Opens, is_history_full, room_of}
use Rattle.table_cell.specs.Machine.{TableState, ack_refusal, close_refusal, open_refusal}
use Rattle.interleave_core.specs.declared.step.Step.TheVariants as steps
use Rattle.interleave_core.specs.Bytes.{IsNamedInBytes, IsOfBytes}
use Rattle.interleave_core.specs.Moves.{AtTable, Calls, LearnsFor, Moves, TeachesOldest, acked, closed, opened, with_batch}
use Rattle.interleave_core.specs.Worlds.{ConnectionState, WorldState, cell_at, connection_at, with_cell, with_connection, with_session, without_session}
use Rattle.interleave_core.proofs.Acknowledged.{made, takes_it}
use Rattle.interleave_core.proofs.Copying.{made_within}
use Rattle.interleave_core.proofs.LessonBytes.{lesson_is}

pub learned_for : (session now : ℕ) (u : Update) (o : Option ConnectionState) (w e : WorldState) → (o ≡ None → ⊥)
    → AtTable (Calls (λ c r x. Learns c session u now r x) unlearned.Memory) u.table w e → LearnsFor session u now o w e
learned_for session now u None w e some moves = absurd (some refl)
learned_for session now u (Some s) w e some moves = moves

pub learned_as : (w : WorldState) (c e : CellState) (s : ConnectionState) (session now : ℕ) (u : Update) (answer : Result Reply LearnError)
    → cell_at u.table w.cells ≡ Some c → connection_at session w.connections ≡ Some s → answer ≢ Err unlearned.Memory → Learns c session u now answer e
    → Moves w (steps.Learn session u now) (record w { cells = with_cell u.table e w.cells })
learned_as w c e s session now u answer at connected some call =
    rw connected (with_cell u.table e w.cells, rw at (e, (answer, some, call), refl), refl)

pub copied_as : (w : WorldState) (c e : CellState) (s : ConnectionState) (session table limit now : ℕ) (kind : CopyKind) (answer : Result (List Update) CopyError)
    → cell_at table w.cells ≡ Some c → connection_at session w.connections ≡ Some s → kind ≢ kinds.Standing → 1 ≤ limit → limit ≤ 4096
    → answer ≢ Err uncopied.Memory → Copies c session kind limit now answer e
    → Moves w (steps.Copy session table kind limit now)
    (record { cells = with_cell table e w.cells; connections = with_connection session (record s { copied = with_batch s.copied answer }) w.connections })
copied_as w c e s session table limit now kind answer at connected other least most some call =
    rw (made_within kind limit other least most, at, connected) (answer, e, some, call, refl)

pub taught_as : (w : WorldState) (s : ConnectionState) (session : ℕ) (batch : List Update) (rest : List (List Update)) (bytes : List ℕ) (after : KnownState)
    → connection_at session w.connections ≡ Some s → s.copied ≡ batch ∷ rest → AllByRecursion IsNamedInBytes s.known.roster → AllByRecursion IsOfBytes batch → IsShortestLesson s.known batch bytes after
    → Moves w (steps.Teach session)
    (record w { connections = with_connection session (record s { known = after; copied = rest; taught = s.taught ++ batch; to_learner = s.to_learner ++ bytes }) w.connections })
taught_as w s session batch rest bytes after connected oldest named of_bytes lesson =
    let given : IsBytes bytes = lesson_is s.known after batch bytes named of_bytes lesson in
    let changed : ConnectionState = record s { known = after; copied = rest; taught = s.taught ++ batch; to_learner = s.to_learner ++ bytes } in
    let taught : TeachesOldest s.copied s changed = rw oldest (bytes, after, given, lesson, refl) in (
      with_connection session changed w.connections,
      rw connected (changed, taught, refl),
      refl,
    )

pub acknowledged_as : (c e : CellState) (session number : ℕ) (settled : Settled) → Acknowledges c session number (Ok settled) e → acked session number c ≡ Some e
acknowledged_as c e session number settled call =
    let granted : ack_refusal false c.state session number ≡ None = call.1.0.0 in
    let some : room_of c ≡ 0 → ⊥ = eqb-false (room_of c) 0 call.0 in
    let taken = takes_it session number c granted (omega (arith, some)) in
    taken ∙ ap (λ (x : CellState). Some x) (sym (made session number c _ e settled call taken))

-- a session that is closed, and one that is opened
pub closed_as : (c e : CellState) (session : ℕ) → Closes c session (Ok tt) e → closed session c ≡ Some e
closed_as c e session (free, ((granted, reply, state), is)) =
    cond-true (is_none (close_refusal (is_history_full c) c.state session)) (Some (without_session session c)) None
    (rw free (ap (λ (o : Option CloseError). is_none o) granted))
    ∙ ap (λ (x : CellState). Some x)
    (sym (is ∙ ap (λ (s : TableState). record c { history = c.history ++ (events.Close session, replies.Close) ∷ []; state = s }) state))

pub opened_as : (c e : CellState) (session : ℕ) (version : Version) → Opens c session version (Ok tt) e → opened session version c ≡ Some e
opened_as c e session version (free, ((granted, reply, state), is)) =
    cond-true (is_none (open_refusal (is_history_full c) c.state session)) (Some (with_session session version c)) None
    (rw free (ap (λ (o : Option OpenError). is_none o) granted))
    ∙ ap (λ (x : CellState). Some x)
    (sym (is ∙ ap (λ (s : TableState). record c { history = c.history ++ (events.Open session version, replies.Open) ∷ []; state = s }) state))

pub reopened_as : (c mid e : CellState) (session : ℕ) (version : Version) → Closes c session (Ok tt) mid → Opens mid session version (Ok tt) e
    → option_and_then (opened session version) (closed session c) ≡ Some e
reopened_as c mid e session version closes opens =
    ap (λ (o : Option CellState). option_and_then (opened session version) o) (closed_as c mid session closes) ∙ opened_as mid e session version opens
