-- A connection stays sound.
use Rattle.std.proofs.Common.{◌≡◌, ◌≢◌, ◌⊎◌, ◌<◌, ◌^◌, ℕ, Bool, true, false, ◌||◌, cond, eqb, List, [], ◌∷◌, ◌++◌, length, take, drop, Option, Some, None, Result, Ok, Err, refl, sym, ap, subst, ◌∙◌, inl, inr, append_assoc, append-nil, take-append-drop}
use Rattle.std.specs.Prelude.{filter_map, fold, is_some, map, option_to_list}
use Rattle.std.specs.BTreeSet.{insert_key}
use Rattle.std.specs.List.{AllByRecursion}
use Rattle.std.specs.Ordering.{match_ordering, nat_cmp}
use Rattle.std.specs.declared.cmp.Ordering.{Ordering}
use Rattle.std.specs.declared.cmp.Ordering.TheVariants.{Less, Equal, Greater}
use Rattle.std.proofs.lemmas.Bool.{eq-eqb, eqb-true}
use Rattle.std.proofs.lemmas.List.Sums.{fold-append}
use Rattle.peers_msg.specs.Integers.{IsBytes}
use Rattle.peers_msg.specs.declared.fault.Breach.{Breach}
use Rattle.peers_msg.specs.declared.message.Message.{Message}
use Rattle.peers_msg.specs.declared.message.Message.TheVariants as messages
use Rattle.peers_msg.specs.Decoding.{AreRead}
use Rattle.peers_msg.specs.Reading.{message_at}
use Rattle.peers_msg.specs.Received.{Received, nothing_received}
use Rattle.peers_msg.specs.Spelling.{stream_of}
use Rattle.table_types.specs.declared.update.Update.{Update}
use Rattle.table_types.specs.Batches.{IsBatchFor, IsUpdateFor}
use Rattle.table_types.specs.Rosters.{repeats_name, roster_fault}
use Rattle.table_types.specs.Tables.{Definition}
use Rattle.table_types.specs.declared.version.Version.{Version}
use Rattle.known_state.specs.Known.{AreOwn, KnownState, is_in, known_of}
use Rattle.known_state.specs.LastNumbers.{AreRising}
use Rattle.known_state.specs.Lessons.{IsLessonFor}
use Rattle.known_state.specs.State.{IsOwn, Legal, State, Step, Teaches}
use Rattle.known_state.proofs.StepIsDeterministic.{one_lesson}
use Rattle.known_state.proofs.TeacherAndLearnerInStep.{known_enough}
use Rattle.learner.specs.declared.fault.Fault.{Fault}
use Rattle.learner.specs.declared.fault.Fault.TheVariants as faults
use Rattle.learner.specs.Intake.{Taking, due_acks, due_after, with_due}
use Rattle.learner.specs.Learning.{AreLearned, Learning, LearnerFeeds, with_piece}
use Rattle.learner.specs.OnItsWay.{IsOnItsWay}
use Rattle.learner.specs.Rows.{put_all}
use Rattle.learner.proofs.EachPieceGivesItsOwn.{fed_on_way, on_way}
use Rattle.learner.proofs.LegalStreamIsTaught.{kept_own}
use Rattle.table_cell.proofs.HandingRows.{all_append, all_front}
use Rattle.interleave_core.specs.Kept.{IsOnTrack}
use Rattle.interleave_core.specs.Moves.{IsFed, ack_in, acknowledges}
use Rattle.interleave_core.specs.Sound.{AreAcks, IsSoundConnection, ack_message, acked_numbers, last_number_of, number_after}
use Rattle.interleave_core.specs.Worlds.{ConnectionState, new_connection}
use Rattle.interleave_core.proofs.AcksOnTheirWay.{acks_taken, more_acks, no_breach, no_bytes, owed}
use Rattle.interleave_core.proofs.AcksOwed.{owed_of}
use Rattle.interleave_core.proofs.OnTrack as track
use Rattle.interleave_core.proofs.RowsLeft.{more_rows}
use Rattle.interleave_core.proofs.StateFollows.{follows}

-- ---- acknowledgements that are owed

-- a table that had a number has one after more updates
still_some : (table : ℕ) (us : List Update) (last : Option ℕ) → is_some last ≡ true → is_some (fold (number_after table) last us) ≡ true
still_some table [] last is = is
still_some table (u ∷ us) last is = still_some table us (number_after table last u) (by (eqb u.table table))
  where
    by : (b : Bool) → is_some (cond b (Some u.number) last) ≡ true
    by true = refl
    by false = is

-- and one that gets a number gets it whatever it had
still_later : (table : ℕ) (us : List Update) (last : Option ℕ) → is_some (fold (number_after table) None us) ≡ true → is_some (fold (number_after table) last us) ≡ true
still_later table [] last is = let bad : false ≡ true = is in absurd cc
still_later table (u ∷ us) last is = by (eqb u.table table) (still_later table us last) is
  where
    by : (b : Bool) → (is_some (fold (number_after table) None us) ≡ true → is_some (fold (number_after table) last us) ≡ true) → is_some (fold (number_after table) (cond b (Some u.number) None) us) ≡ true
        → is_some (fold (number_after table) (cond b (Some u.number) last) us) ≡ true
    by true later h = h
    by false later h = later h

either : (a b : Bool) → (a || b) ≡ true → (a ≡ true) ⊎ (b ≡ true)
either true b h = inl h
either false b h = inr h

or_right : (a b : Bool) → b ≡ true → (a || b) ≡ true
or_right true b h = refl
or_right false b h = h

-- an id is among due ids with one more only if it was among them, or is that one
due_with : (id : ℕ) (due : List ℕ) (table : ℕ) → is_in table (insert_key nat_cmp due id) ≡ true → (is_in table due ≡ true) ⊎ (id ≡ table)
due_with id [] table is = inr (eqb-true id table (or-false (eqb id table) is))
  where
    or-false : (b : Bool) → (b || false) ≡ true → b ≡ true
    or-false true h = refl
    or-false false h = h
due_with id (x ∷ xs) table is = by (nat_cmp id x) is (due_with id xs table)
  where
    by : (o : Ordering) → is_in table (match_ordering o (id ∷ (x ∷ xs)) (x ∷ xs) (x ∷ insert_key nat_cmp xs id)) ≡ true → (is_in table (insert_key nat_cmp xs id) ≡ true → (is_in table xs ≡ true) ⊎ (id ≡ table))
        → (is_in table (x ∷ xs) ≡ true) ⊎ (id ≡ table)
    by Less h later = elim (either (eqb id table) (is_in table (x ∷ xs)) h) [ inl here ↦ inr (eqb-true id table here) | inr was ↦ inl was ]
    by Equal h later = inl h
    by Greater h later = elim (either (eqb x table) (is_in table (insert_key nat_cmp xs id)) h) [
      | inl here ↦ inl (ap (λ (b : Bool). b || is_in table xs) here)
      | inr there ↦ elim (later there) [ inl was ↦ inl (or_right (eqb x table) (is_in table xs) was) | inr now ↦ inr now ]
    ]

-- a table is due after an update only if it was, or the update is of it
due_then : (selected : Option ℕ) (due : List ℕ) (table : ℕ) → is_in table (with_due selected due) ≡ true → (is_in table due ≡ true) ⊎ (selected ≡ Some table)
due_then None due table is = inl is
due_then (Some id) due table is = elim (due_with id due table is) [ inl was ↦ inl was | inr same ↦ inr (ap (λ (n : ℕ). Some n) same) ]

-- a table is due after a message only if it was, or the message carries an update of it
abbrev IsDueBy : ℕ → List ℕ → List Update → Type 0
IsDueBy table due us = (is_in table due ≡ true) ⊎ (is_some (last_number_of table us) ≡ true)

due_step : (s e : State) (m : Message) (us : List Update) (due : List ℕ) (table : ℕ) → Step s m us e → is_in table (due_after s m due) ≡ true → IsDueBy table due us
due_step s e (messages.Update u) us due table step is = elim (due_then s.received.selected due table is) [
  | inl was ↦ inl was
  | inr selected ↦
      let both : Some step.1 ≡ Some table = sym step.2 ∙ selected in
      let same : step.1 ≡ table = cc in
      let one : is_some (cond (eqb step.1 table) (Some step.3) None) ≡ true = rw (eq-eqb step.1 table same) refl in
      inr (ap (λ (vs : List Update). is_some (last_number_of table vs)) step.7 ∙ one)
]
due_step s e (messages.Define d) us due table step is = inl is
due_step s e (messages.Control c) us due table step is = inl is
due_step s e (messages.Error k) us due table step is = inl is
due_step s e (messages.Switch id) us due table step is = inl is
due_step s e (messages.Ack id number) us due table step is = inl is
due_step s e (messages.Other o) us due table step is = inl is

due_more : (table : ℕ) (due : List ℕ) (us vs : List Update) → IsDueBy table due us → IsDueBy table due (us ++ vs)
due_more table due us vs (inl was) = inl was
due_more table due us vs (inr has) =
    inr (ap (λ (o : Option ℕ). is_some o) (fold-append (number_after table) None us vs) ∙ still_some table vs (last_number_of table us) has)

due_both : (table : ℕ) (due mid : List ℕ) (us vs : List Update) → (is_in table mid ≡ true → IsDueBy table due us) → IsDueBy table mid vs → IsDueBy table due (us ++ vs)
due_both table due mid us vs step (inl was) = due_more table due us vs (step was)
due_both table due mid us vs step (inr has) =
    inr (ap (λ (o : Option ℕ). is_some o) (fold-append (number_after table) None us vs) ∙ still_later table vs (last_number_of table us) has)

-- the same of messages that are learned on the way
due_learned : (now : ℕ) (l e : Learning) (more : List ℕ) (ms ns : List Message) (us vs : List Update) (after : State) (table : ℕ) → IsOnItsWay l more ms us after → AreLearned now l ns vs e → is_in table e.intake.due ≡ true → IsDueBy table l.intake.due vs
due_learned now l e more ms [] us vs after table way (none, same) is = inl (ap (λ (x : Learning). is_in table x.intake.due) (sym same) ∙ is)
due_learned now l e more ms (n ∷ ns) us vs after table way (first, rest, next, all, begins, later) is =
    let one = on_way now l next more ms (n ∷ []) us first after way (first, [], next, sym (append-nil first), begins, (refl, refl)) in
    let others : IsDueBy table next.intake.due rest = due_learned now next e more one.0 ns one.1 rest after table one.8 later is in
    let carried : first ≡ begins.0.3 = begins.0.5 ∙ kept_own l.intake.roster l.intake.state next.intake.state n begins.0.3 way.0 way.1 begins.0.4 in
    let step : is_in table next.intake.due ≡ true → IsDueBy table l.intake.due first =
    λ was. subst (λ (xs : List Update). IsDueBy table l.intake.due xs) (sym carried) (due_step l.intake.state next.intake.state n begins.0.3 l.intake.due table begins.0.4 (ap (λ (t : Taking). is_in table t.due) (sym begins.0.6) ∙ was)) in
    subst (λ (xs : List Update). IsDueBy table l.intake.due xs) (sym all) (due_both table l.intake.due next.intake.due first rest step others)

-- ---- what is fed

-- What feeding bytes of the pipe does to a connection on track: it stays on track, and the messages that are learned are
-- the roster's own, make their steps, and put their updates.
abbrev IsFedOn : List Definition → ℕ → ℕ → ConnectionState → List Message → List Update → Learning → Type 0
IsFedOn roster now count s ms us after =
    IsOnTrack roster (record s { applied = s.applied ++ us; to_learner = drop count s.to_learner; learner = after })
    × AllByRecursion (IsOwn roster) ms
    × Teaches s.learner.intake.state ms us after.intake.state
    × (after.rows ≡ put_all now roster us s.learner.rows)
    × ((table : ℕ) → is_in table after.intake.due ≡ true → IsDueBy table s.learner.intake.due us)
    × (repeats_name roster ≡ false)
    × AreOwn roster s.learner.intake.state.received.tables

fed_on : (roster : List Definition) (s : ConnectionState) (now count : ℕ) (ms : List Message) (us : List Update) (after : Learning) → IsOnTrack roster s → AreLearned now (with_piece s.learner (take count s.to_learner)) ms us after
    → IsFedOn roster now count s ms us after
fed_on roster s now count ms us after on learned =
    let piece = take count s.to_learner in
    let more = drop count s.to_learner in
    let nms = on.way.0 in
    let to_come = on.way.1 in
    let way : IsOnItsWay s.learner (piece ++ more) nms to_come s.known.state =
    subst (λ (x : List ℕ). IsOnItsWay s.learner x nms to_come s.known.state) (sym (take-append-drop count s.to_learner)) on.way.2 in
    let there = fed_on_way s.learner piece more nms to_come s.known.state way in
    let begins = on_way now (with_piece s.learner piece) after more nms ms to_come us s.known.state there learned in
    let split : s.taught ≡ (s.applied ++ us) ++ begins.1 =
    on.way.3 ∙ ap (λ (x : List Update). s.applied ++ x) begins.3 ∙ sym (append_assoc s.applied us begins.1) in
    let owns : AllByRecursion (IsOwn s.learner.intake.roster) ms =
    all_front (IsOwn s.learner.intake.roster) ms begins.0 (subst (λ (x : List Message). AllByRecursion (IsOwn s.learner.intake.roster) x) begins.2 way.2) in (
      record {
        known = on.known;
        learner = begins.6 ∙ on.learner;
        batches = on.batches;
        way = (begins.0, begins.1, begins.8, split);
      },
      subst (λ (ds : List Definition). AllByRecursion (IsOwn ds) ms) on.learner owns,
      begins.4,
      begins.7 ∙ ap (λ (ds : List Definition). put_all now ds us s.learner.rows) on.learner,
      λ table is. due_learned now (with_piece s.learner piece) after more nms ms to_come us s.known.state table there learned is,
      ap (λ (ds : List Definition). repeats_name ds) (sym on.learner) ∙ way.0,
      subst (λ (ds : List Definition). AreOwn ds s.learner.intake.state.received.tables) on.learner way.1,
    )

-- a table that is due then has had an update
due_grown : (table : ℕ) (due : List ℕ) (applied us : List Update) → (is_in table due ≡ true → is_some (last_number_of table applied) ≡ true) → IsDueBy table due us → is_some (last_number_of table (applied ++ us)) ≡ true
due_grown table due applied us had (inl was) =
    ap (λ (o : Option ℕ). is_some o) (fold-append (number_after table) None applied us) ∙ still_some table us (last_number_of table applied) (had was)
due_grown table due applied us had (inr has) =
    ap (λ (o : Option ℕ). is_some o) (fold-append (number_after table) None applied us) ∙ still_later table us (last_number_of table applied) has

pub delivered : (roster : List Definition) (s e : ConnectionState) (acks : List (ℕ × ℕ)) (now count : ℕ) → now < 2 ^ 63 → IsSoundConnection roster s acks → IsFed now (take count s.to_learner) (drop count s.to_learner) s e → IsSoundConnection roster e acks
delivered roster s e acks now count below sound (ms, us, after, learned, waits, is) =
    let fed = fed_on roster s now count ms us after sound.track learned in
    subst (λ (x : ConnectionState). IsSoundConnection roster x acks) (sym is) (record {
      track = fed.0;
      to_teacher = sound.to_teacher;
      state = follows roster ms s.applied us s.learner.intake.state after.intake.state fed.5 fed.6 fed.1 sound.state fed.2;
      due = λ table is_due. due_grown table s.learner.intake.due s.applied us (sound.due table) (fed.4 table is_due);
      rows = more_rows now roster s.applied us s.learner.rows after.rows below sound.rows fed.3;
      known = sound.known;
      taught = sound.taught;
    })

-- ---- what is taught

-- what is known after a lesson is what the lesson leads to
known_then : (roster : List Definition) (k after : KnownState) (us : List Update) (ms : List Message) → k.roster ≡ roster → after.roster ≡ k.roster → known_of roster k.state ≡ k → AreOwn roster k.state.received.tables → AreRising k.state.last_numbers → Legal k.roster k.state ms us after.state
    → (known_of roster after.state ≡ after) × AreOwn roster after.state.received.tables × AreRising after.state.last_numbers
known_then roster k after us ms rosters same known own rise legal =
    let here : Legal roster k.state ms us after.state = subst (λ (ds : List Definition). Legal ds k.state ms us after.state) rosters legal in
    let from_known : Legal roster (known_of roster k.state).state ms us after.state = subst (λ (x : KnownState). Legal roster x.state ms us after.state) (sym known) here in
    let end = known_enough roster k.state after.state ms us own rise from_known in
    let one : end.0 ≡ after.state = (one_lesson k.state end.0 after.state ms us us end.1.1 here.1).1 in
    let whole : record { roster = roster; state = after.state } ≡ after = ap (λ (ds : List Definition). record { roster = ds; state = after.state }) (sym (same ∙ rosters)) in (
      ap (λ (x : State). known_of roster x) (sym one) ∙ end.4 ∙ whole,
      subst (λ (x : State). AreOwn roster x.received.tables) one end.2,
      subst (λ (x : State). AreRising x.last_numbers) one end.3,
    )

pub taught : (roster : List Definition) (s : ConnectionState) (acks : List (ℕ × ℕ)) (batch : List Update) (rest : List (List Update)) (bytes : List ℕ) (after : KnownState)
    → IsSoundConnection roster s acks → s.copied ≡ batch ∷ rest → IsLessonFor s.known batch bytes after → IsBytes bytes
    → IsSoundConnection roster (record s { known = after; copied = rest; taught = s.taught ++ batch; to_learner = s.to_learner ++ bytes }) acks
taught roster s acks batch rest bytes after sound oldest lesson good =
    let all : AllByRecursion (IsBatchFor roster) (batch ∷ rest) = subst (λ (x : List (List Update)). AllByRecursion (IsBatchFor roster) x) oldest sound.track.batches in
    record {
      track = track.taught roster s batch rest bytes after sound.track oldest lesson good;
      to_teacher = sound.to_teacher;
      state = sound.state;
      due = sound.due;
      rows = sound.rows;
      known = known_then roster s.known after batch lesson.0 sound.track.known lesson.3 sound.known.0 sound.known.1 sound.known.2 lesson.2;
      taught = all_append (IsUpdateFor roster) s.taught batch sound.taught all.0.1;
    }

pub copied : (roster : List Definition) (s : ConnectionState) (acks : List (ℕ × ℕ)) (batch : List Update) → IsSoundConnection roster s acks → IsBatchFor roster batch
    → IsSoundConnection roster (record s { copied = s.copied ++ batch ∷ [] }) acks
copied roster s acks batch sound good =
    record {
      track = track.copied roster s batch sound.track good;
      to_teacher = sound.to_teacher;
      state = sound.state;
      due = sound.due;
      rows = sound.rows;
      known = sound.known;
      taught = sound.taught;
    }

-- ---- acknowledgements

not_due : (table : ℕ) → is_in table [] ≡ true → ⊥
not_due table is = let bad : false ≡ true = is in cc

pub acknowledged : (roster : List Definition) (s : ConnectionState) (acks : List (ℕ × ℕ)) → IsSoundConnection roster s acks
    → IsSoundConnection roster (acknowledges s) (acks ++ filter_map (ack_in roster) (due_acks s.learner.intake))
acknowledged roster s acks sound =
    let own : AreOwn roster s.learner.intake.state.received.tables = subst (λ (ds : List Definition). AreOwn ds s.learner.intake.state.received.tables) sound.track.learner sound.track.way.2.1 in
    let new = owed roster s.learner.intake own sound.state.valid sound.state.small in
    let fresh = filter_map (ack_in roster) (due_acks s.learner.intake) in
    let grown = more_acks roster (s.unread ++ s.to_teacher) acks (filter_map (ack_in roster) (due_acks s.learner.intake)) sound.to_teacher new.1 in
    let bytes : (s.unread ++ s.to_teacher) ++ stream_of (map ack_message (filter_map (ack_in roster) (due_acks s.learner.intake))) ≡ s.unread ++ (s.to_teacher ++ stream_of (due_acks s.learner.intake)) =
    append_assoc s.unread s.to_teacher _ ∙ ap (λ (x : List Message). s.unread ++ (s.to_teacher ++ stream_of x)) (sym new.0) in
    record {
      track = track.acknowledged roster s sound.track;
      to_teacher = subst (λ (x : List ℕ). AreAcks roster x (acks ++ filter_map (ack_in roster) (due_acks s.learner.intake))) bytes grown;
      state = sound.state;
      due = λ table is. absurd (not_due table is);
      rows = sound.rows;
      known = sound.known;
      taught = sound.taught;
    }

pub arrived : (roster : List Definition) (s : ConnectionState) (acks : List (ℕ × ℕ)) (count : ℕ) (ms : List Message) (received : Received) (left : List ℕ) → IsSoundConnection roster s acks
    → AreRead nothing_received (s.unread ++ take count s.to_teacher) ms received left
    → (later : List (ℕ × ℕ)) × (acks ≡ filter_map (ack_in roster) ms ++ later) × IsSoundConnection roster (record s { to_teacher = drop count s.to_teacher; unread = left }) later
arrived roster s acks count ms received left sound read =
    let grouped : s.unread ++ s.to_teacher ≡ (s.unread ++ take count s.to_teacher) ++ drop count s.to_teacher =
    ap (λ (x : List ℕ). s.unread ++ x) (sym (take-append-drop count s.to_teacher)) ∙ sym (append_assoc s.unread (take count s.to_teacher) (drop count s.to_teacher)) in
    let taken = acks_taken roster ms nothing_received received (s.unread ++ take count s.to_teacher) (drop count s.to_teacher) left acks (subst (λ (x : List ℕ). AreAcks roster x acks) grouped sound.to_teacher) read in (
      taken.0,
      taken.1,
      record {
        track = record { known = sound.track.known; learner = sound.track.learner; batches = sound.track.batches; way = sound.track.way };
        to_teacher = taken.2;
        state = sound.state;
        due = sound.due;
        rows = sound.rows;
        known = sound.known;
        taught = sound.taught;
      },
    )

-- what arrives is read without a breach
pub read_whole : (roster : List Definition) (s : ConnectionState) (acks : List (ℕ × ℕ)) (count : ℕ) (ms : List Message) (received : Received) (left : List ℕ) (breach : Breach) → IsSoundConnection roster s acks
    → AreRead nothing_received (s.unread ++ take count s.to_teacher) ms received left → message_at received left ≢ Err breach
read_whole roster s acks count ms received left breach sound read broken =
    let later = arrived roster s acks count ms received left sound read in
    no_breach roster received left (drop count s.to_teacher) later.0 breach later.2.to_teacher broken

-- the acknowledgements that a learner owes of a table
pub owed_numbers : (roster : List Definition) (s : ConnectionState) (acks : List (ℕ × ℕ)) (table : ℕ) → IsSoundConnection roster s acks
    → acked_numbers table (filter_map (ack_in roster) (due_acks s.learner.intake)) ≡ cond (is_in table s.learner.intake.due) (option_to_list (last_number_of table s.applied)) []
owed_numbers roster s acks table sound =
    let way = sound.track.way.2 in
    let once : repeats_name roster ≡ false = ap (λ (ds : List Definition). repeats_name ds) (sym sound.track.learner) ∙ way.0 in
    let own : AreOwn roster s.learner.intake.state.received.tables = subst (λ (ds : List Definition). AreOwn ds s.learner.intake.state.received.tables) sound.track.learner way.1 in
    owed_of roster table s.learner.intake (last_number_of table s.applied) sound.track.learner once own sound.state.distinct (sound.state.received table) (sound.state.last table)

-- a table becomes due only by an update of it
pub due_by_updates : (roster : List Definition) (s e : ConnectionState) (acks : List (ℕ × ℕ)) (now count table : ℕ) → IsSoundConnection roster s acks → IsFed now (take count s.to_learner) (drop count s.to_learner) s e → is_in table e.learner.intake.due ≡ true
    → (us : List Update) × (e.applied ≡ s.applied ++ us) × ((is_in table s.learner.intake.due ≡ true) ⊎ (is_some (last_number_of table us) ≡ true))
due_by_updates roster s e acks now count table sound (ms, us, after, learned, waits, is) due =
    let fed = fed_on roster s now count ms us after sound.track learned in
    (us, ap (λ (x : ConnectionState). x.applied) is, fed.4 table (ap (λ (x : ConnectionState). is_in table x.learner.intake.due) (sym is) ∙ due))

-- ---- the beginning and the end

no_last : (table number : ℕ) → ◌≡◌ {A = Option ℕ} None (Some number) → ⊥
no_last table number e = cc

false_true : false ≡ true → ⊥
false_true e = cc

pub begun : (v : Version) (roster : List Definition) → roster_fault roster ≡ None → IsSoundConnection roster (new_connection v roster) []
begun v roster sound =
    record {
      track = track.begun v roster sound;
      to_teacher = (refl, no_bytes, tt);
      state = record {
        distinct = tt;
        valid = tt;
        last = λ table. refl;
        small = λ table number e. absurd (no_last table number e);
        received = λ table e. absurd (false_true e);
      };
      due = λ table e. absurd (false_true e);
      rows = ([], refl, tt, refl);
      known = (refl, tt, tt);
      taught = tt;
    }

-- fed everything, the learner is in the known state
pub ended : (roster : List Definition) (s : ConnectionState) (acks : List (ℕ × ℕ)) (now : ℕ) (answer : Result ℕ Fault) (l : Learning)
    → IsSoundConnection roster s acks → LearnerFeeds now s.learner s.to_learner answer l → answer ≢ Err faults.Memory
    → (us : List Update) × (answer ≡ Ok (length us)) × (s.taught ≡ s.applied ++ us) × (l.rows ≡ put_all now roster us s.learner.rows)
    × (l.intake.unread ≡ []) × (known_of roster l.intake.state ≡ s.known)
ended roster s acks now answer l sound feeds unless =
    let end = track.arrived roster s now answer l sound.track feeds unless in
    (end.0, end.1, end.2, end.3, end.5, ap (λ (x : State). known_of roster x) end.4 ∙ sound.known.0)
