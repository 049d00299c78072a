-- A learner of a roster that is fed a legal stream.
use Rattle.std.proofs.Common.{◌≡◌, ◌≢◌, ℕ, Bool, true, false, not, ◌&&◌, ◌||◌, cond, List, [], ◌∷◌, ◌++◌, length, Option, Some, None, Result, Ok, Err, refl, sym, ap, subst, ◌∙◌, inl, inr}
use Rattle.std.specs.Prelude.{nat_le, option_map}
use Rattle.std.specs.List.{AllByRecursion}
use Rattle.std.specs.Option.{option_and_then}
use Rattle.std.proofs.lemmas.Bool.{cases_eq, cases_Bool, eq-eqb, ne_eqb}
use Rattle.peers_msg.specs.Integers.{IsBytes}
use Rattle.table_types.specs.declared.key.Key.{Key}
use Rattle.table_types.specs.declared.update.Update.{Update}
use Rattle.table_types.specs.Tables.{Definition}
use Rattle.table_types.specs.Rosters.{table_at, has_name, repeats_id, repeats_name, is_same_name, roster_fault}
use Rattle.table_types.specs.declared.roster.RosterError.{RosterError}
use Rattle.table_types.specs.declared.roster.RosterError.TheVariants as errors
use Rattle.table_types.specs.Rows.{StoredRow}
use Rattle.peers_msg.specs.declared.fault.Breach.{Breach}
use Rattle.peers_msg.specs.declared.message.Message.{Message}
use Rattle.peers_msg.specs.declared.message.Message.TheVariants as messages
use Rattle.peers_msg.specs.Messages.{UpdateFields}
use Rattle.peers_msg.specs.Received.{Received, selected_table}
use Rattle.peers_msg.specs.Fitting.{fits}
use Rattle.peers_msg.specs.Spelling.{spelled, stream_of}
use Rattle.peers_msg.specs.Reading.{message_at, frame_at}
use Rattle.table_types.specs.Shapes.{is_shape_of}
use Rattle.peers_msg.specs.Decoding.{together}
use Rattle.known_state.specs.State.{State, Step, Teaches, IsOwn, Legal, resolved}
use Rattle.peers_msg.proofs.CuttingIndependence.{found, found_is}
use Rattle.peers_msg.proofs.MessageRoundTrip.{message_again}
use Rattle.table_types.proofs.OneTableByShape.{means_shape, shape_means}
use Rattle.known_state.specs.Known.{AreOwn}
use Rattle.known_state.proofs.ReceivedIsOwn.{table_at-id, table_at-passes}
use Rattle.known_state.proofs.TeacherAndLearnerInStep.{own_stays}
use Rattle.known_state.specs.Effects.{message_refusal}
use Rattle.known_state.specs.declared.effect.Refusal.{Refusal}
use Rattle.known_state.proofs.EffectsAreSteps.{step_unrefused}
use Rattle.learner.specs.declared.fault.Fault.{Fault}
use Rattle.learner.specs.declared.fault.Fault.TheVariants as faults
use Rattle.learner.specs.Faults.{as_fault}
use Rattle.learner.specs.LocalTables.{local_table, local_id, local_updates}
use Rattle.learner.specs.Intake.{Taking, Takes, Stops, due_after}
use Rattle.learner.specs.Rows.{put, put_all}
use Rattle.learner.specs.Learning.{Learning, AreLearned, IsWaiting, LearnerFeeds, AreFed, IsReady, IsTaught, with_piece}
use Rattle.learner.proofs.SameHoweverCut.{one_learned, waits_for_more, same, whole}

-- ---- the local table of a roster's own definition is that definition

or-left : (a b : Bool) → (a || b) ≡ false → a ≡ false
or-left true b h = h
or-left false b h = refl

or-right : (a b : Bool) → (a || b) ≡ false → b ≡ false
or-right true b h = let bad : true ≡ false = h in cc
or-right false b h = h

same_name : (a : List ℕ) → is_same_name a a ≡ true
same_name [] = refl
same_name (x ∷ xs) = rw (eq-eqb x x refl) (same_name xs)

-- a table that is found among tables has the name of one of them
found_name : (ds : List Definition) (id : ℕ) (d : Definition) → table_at ds id ≡ Some d → has_name d.name ds ≡ true
found_name [] id d h = cc
found_name (x ∷ xs) id d h = elim (cases_eq x.id id) [
  | inl same ↦
      let here : Some x ≡ Some d = sym (rw (eq-eqb x.id id same) refl) ∙ h in
      let is : x ≡ d = cc in
      rw (is, same_name d.name) refl
  | inr other ↦
      let rest : has_name d.name xs ≡ true = found_name xs id d (sym (rw (ne_eqb x.id id other) refl) ∙ h) in
      either (is_same_name x.name d.name) (has_name d.name xs) rest
]
  where
    either : (a b : Bool) → b ≡ true → (a || b) ≡ true
    either true b h = refl
    either false b h = h

-- the local table of a roster's own definition is that definition
pub own_found : (roster : List Definition) (d : Definition) → repeats_name roster ≡ false → table_at roster d.id ≡ Some d → local_table roster d ≡ Some d
own_found [] d once h = cc
own_found (x ∷ xs) d once h = elim (cases_eq x.id d.id) [
  | inl same ↦
      let here : Some x ≡ Some d = sym (rw (eq-eqb x.id d.id same) refl) ∙ h in
      let is : x ≡ d = cc in
      rw (is, means_shape d d refl) refl
  | inr other ↦
      let later : table_at xs d.id ≡ Some d = sym (rw (ne_eqb x.id d.id other) refl) ∙ h in
      let alone : has_name x.name xs ≡ false = or-left (has_name x.name xs) (repeats_name xs) once in
      let rest : local_table xs d ≡ Some d = own_found xs d (or-right (has_name x.name xs) (repeats_name xs) once) later in
      elim (cases_Bool (is_shape_of x d)) [
        | inl shape ↦
            let name : x.name ≡ d.name = ap (λ (t : Definition). t.name) (shape_means x d shape) in
            let twice : has_name x.name xs ≡ true = ap (λ (n : List ℕ). has_name n xs) name ∙ found_name xs d.id d later in
            absurd (no_way (sym twice ∙ alone))
        | inr differs ↦ rw differs rest
      ]
]
  where
    no_way : true ≡ false → ⊥
    no_way e = cc

-- ---- steps of a legal stream

pub step_fits : (s e : State) (m : Message) (us : List Update) → Step s m us e → fits s.received m ≡ true
step_fits s e (messages.Update u) us step = step.0
step_fits s e (messages.Control c) us step = step.0
step_fits s e (messages.Error k) us step = step.0
step_fits s e (messages.Define d) us step = step.0
step_fits s e (messages.Switch id) us step = step.0
step_fits s e (messages.Ack table number) us step = step.0
step_fits s e (messages.Other o) us step = step.0

fits_found : (h : Received) (u : UpdateFields) → fits h (messages.Update u) ≡ true → (d : Definition) × (selected_table h ≡ Some d)
unfolding fits
fits_found h u fit = at (selected_table h) refl
  where
    at : (o : Option Definition) → selected_table h ≡ o → (d : Definition) × (selected_table h ≡ Some d)
    at None e = let bad : false ≡ true = sym (rw e refl) ∙ fit in absurd cc
    at (Some d) e = (d, e)

-- what a legal message carries belongs to local tables, and doesn't change
pub kept_own : (roster : List Definition) (s e : State) (m : Message) (us : List Update) → repeats_name roster ≡ false → AreOwn roster s.received.tables → Step s m us e → local_updates roster s.received us ≡ us
kept_own roster s e (messages.Update u) us once own step =
    let selected = fits_found s.received u step.0 in
    let table : table_at s.received.tables step.1 ≡ Some selected.0 = ap (λ (o : Option ℕ). option_and_then (table_at s.received.tables) o) (sym step.2) ∙ selected.1 in
    let is_own : table_at roster selected.0.id ≡ Some selected.0 = table_at-passes (λ (t : Definition). table_at roster t.id ≡ Some t) s.received.tables step.1 selected.0 own table in
    let named : selected.0.id ≡ step.1 = table_at-id s.received.tables step.1 selected.0 table in
    let id : local_id roster s.received step.1 ≡ Some step.1 = rw (table, own_found roster selected.0 once is_own) (ap (λ (n : ℕ). Some n) named) in
    rw step.7 (one (local_id roster s.received step.1) id)
  where
    one : (o : Option ℕ) → local_id roster s.received step.1 ≡ Some step.1 → local_updates roster s.received (resolved u step.1 step.3 step.5 ∷ []) ≡ resolved u step.1 step.3 step.5 ∷ []
    one o id = rw id refl
kept_own roster s e (messages.Control c) us once own step = rw step.1 refl
kept_own roster s e (messages.Error k) us once own step = rw step.1 refl
kept_own roster s e (messages.Define d) us once own step = rw step.1 refl
kept_own roster s e (messages.Switch id) us once own step = rw step.1 refl
kept_own roster s e (messages.Ack table number) us once own step = rw step.1 refl
kept_own roster s e (messages.Other o) us once own step = rw step.1 refl

-- a legal message at the front is taken, and all that it carries belongs to local tables
pub takes_legal : (t : Taking) (m : Message) (us : List Update) (s : State) (rest : List ℕ) → repeats_name t.roster ≡ false → AreOwn t.roster t.state.received.tables → t.closed ≡ false → t.unread ≡ spelled m ++ rest → Step t.state m us s
    → Takes t m us (record { roster = t.roster; state = s; due = due_after t.state m t.due; unread = rest; closed = false })
takes_legal t m us s rest once own going unread step =
    (going, rest, ap (message_at t.state.received) unread ∙ message_again t.state.received m rest (step_fits t.state s m us step), us, step, sym (kept_own t.roster t.state s m us once own step), refl)

-- ---- whole streams

-- putting some updates and then others puts them all
pub put_all-append : (now : ℕ) (roster : List Definition) (us vs : List Update) (rows : List (List (Key × StoredRow))) → put_all now roster (us ++ vs) rows ≡ put_all now roster vs (put_all now roster us rows)
put_all-append now roster [] vs rows = refl
put_all-append now roster (u ∷ us) vs rows = put_all-append now roster us vs (put now roster rows u)

-- a legal stream is learned message by message, and then the learner waits with nothing unread
pub learned : (now : ℕ) (l : Learning) (ms : List Message) (us : List Update) (after : State) → repeats_name l.intake.roster ≡ false → AreOwn l.intake.roster l.intake.state.received.tables → AllByRecursion (IsOwn l.intake.roster) ms → Teaches l.intake.state ms us after → l.intake.closed ≡ false → l.intake.unread ≡ stream_of ms
    → (e : Learning) × AreLearned now l ms us e × IsTaught now l us after e
learned now l [] us after once own all (none, here) going unread =
    (l, (none, refl), (refl, sym here, unread, going, rw none refl))
learned now l (m ∷ ms) us after once own (is, all) (one, rest, mid, joined, step, later) going unread =
    let next : Learning = record { intake = record { roster = l.intake.roster; state = mid; due = due_after l.intake.state m l.intake.due; unread = stream_of ms; closed = false }; rows = put_all now l.intake.roster one l.rows } in
    let takes = takes_legal l.intake m one mid (stream_of ms) once own going unread step in
    let others = learned now next ms rest after once (own_stays l.intake.roster l.intake.state mid m one own is step) all later refl refl in
    let taught = others.2 in (
      others.0,
      (one, rest, next, joined, (takes, refl), others.1),
      (taught.0, taught.1, taught.2, taught.3, taught.4 ∙ sym (put_all-append now l.intake.roster one rest l.rows) ∙ ap (λ (xs : List Update). put_all now l.intake.roster xs l.rows) (sym joined)),
    )

pub waits_at_end : (h : Received) → message_at h [] ≡ Ok None
unfolding message_at frame_at
waits_at_end h = refl

-- ---- no fault

never_err : (m : Message) (rest : List ℕ) (breach : Breach) → found m rest ≡ Err breach → ⊥
never_err m rest breach e = cc

never_none : (m : Message) (rest : List ℕ) → found m rest ≡ Ok None → ⊥
never_none m rest e = cc

never_both : (breach : Breach) → ◌≡◌ {A = Result (Option (Message × List ℕ)) Breach} (Err breach) (Ok None) → ⊥
never_both breach e = cc

never_some : (fault : Fault) → ◌≡◌ {A = Option Fault} None (Some fault) → ⊥
never_some fault e = cc

-- a message that makes a step isn't refused
steps_unrefused : (t : Taking) (m n : Message) (us : List Update) (e : State) (rest after : List ℕ) (fault : Fault) → message_at t.state.received t.unread ≡ found m rest → message_at t.state.received t.unread ≡ found n after → Step t.state m us e → option_map as_fault (message_refusal t.state n) ≡ Some fault → ⊥
steps_unrefused t m n us e rest after fault at next step refused =
    let same = found_is m n rest after (sym at ∙ next) in
    let none : message_refusal t.state n ≡ None = subst (λ (k : Message). message_refusal t.state k ≡ None) same.0 (step_unrefused t.state e m us step) in
    never_some fault (sym (ap (λ (o : Option Refusal). option_map as_fault o) none) ∙ refused)

pub apart : true ≡ false → ⊥
apart e = cc

-- a message that is taken doesn't stop the intake
pub goes_on : (t e x : Taking) (m : Message) (own : List Update) (fault : Fault) → Takes t m own e → Stops t fault x → fault ≢ faults.Memory → ⊥
goes_on t e x m own faults.Memory takes stops wanted = wanted refl
goes_on t e x m own faults.Closed takes stops wanted = apart (sym stops.0 ∙ takes.0)
goes_on t e x m own faults.NoNumber (going, rest, at, us, step, keeps, is) (is_open', n, after, next, refused, shut) wanted =
    steps_unrefused t m n us e.state rest after faults.NoNumber at next step refused
goes_on t e x m own faults.EmptySlot (going, rest, at, us, step, keeps, is) (is_open', n, after, next, refused, shut) wanted =
    steps_unrefused t m n us e.state rest after faults.EmptySlot at next step refused
goes_on t e x m own (faults.Breach breach) takes stops wanted = never_err m takes.1 breach (sym takes.2 ∙ stops.1)

-- nor does the intake stop while it waits
pub waits_on : (t x : Taking) (fault : Fault) → IsWaiting t → Stops t fault x → fault ≢ faults.Memory → ⊥
waits_on t x faults.Memory waits stops wanted = wanted refl
waits_on t x faults.Closed waits stops wanted = apart (sym stops.0 ∙ waits.0)
waits_on t x faults.NoNumber waits stops wanted = never_none stops.1 stops.2 (sym stops.3 ∙ waits.1)
waits_on t x faults.EmptySlot waits stops wanted = never_none stops.1 stops.2 (sym stops.3 ∙ waits.1)
waits_on t x (faults.Breach breach) waits stops wanted = never_both breach (sym stops.1 ∙ waits.1)

-- if messages are learned up to an end at which the learner waits, no fault occurs on the way
pub no_fault : (now : ℕ) (l a mid : Learning) (x : Taking) (ms ns : List Message) (us vs : List Update) (fault : Fault) → AreLearned now l ms us a → IsWaiting a.intake → AreLearned now l ns vs mid → Stops mid.intake fault x → fault ≢ faults.Memory → ⊥
no_fault now l a mid x [] [] us vs fault one waits other stops wanted =
    waits_on l.intake x fault (subst (λ (y : Learning). IsWaiting y.intake) one.1 waits) (subst (λ (y : Learning). Stops y.intake fault x) other.1 stops) wanted
no_fault now l a mid x [] (n ∷ ns) us vs fault one waits (first, rest, next, all, begins, later) stops wanted =
    waits_for_more now l next n first (subst (λ (y : Learning). IsWaiting y.intake) one.1 waits) begins
no_fault now l a mid x (m ∷ ms) [] us vs fault (first, rest, next, all, begins, later) waits other stops wanted =
    goes_on l.intake next.intake x m first fault begins.0 (subst (λ (y : Learning). Stops y.intake fault x) other.1 stops) wanted
no_fault now l a mid x (m ∷ ms) (n ∷ ns) us vs fault (first, rest, next, all, begins, later) waits (first', rest', next', all', begins', later') stops wanted =
    let step = one_learned now l next next' m n first first' begins begins' in
    let goes : AreLearned now next ns rest' mid = subst (λ (y : Learning). AreLearned now y ns rest' mid) (sym step.1) later' in
    no_fault now next a mid x ms ns rest rest' fault later waits goes stops wanted

-- ---- results

abbrev pub is_memory : Fault → Bool
is_memory faults.Memory = true
is_memory fault = false

not_memory : (fault : Fault) → is_memory fault ≡ false → fault ≢ faults.Memory
not_memory fault h same = apart (sym (ap is_memory same) ∙ h)

pub once_named : (roster : List Definition) → roster_fault roster ≡ None → repeats_name roster ≡ false
once_named roster sound = at (nat_le 1 (length roster) && nat_le (length roster) 64) (repeats_id roster) (repeats_name roster) sound
  where
    some_is_none : (e : RosterError) → ◌≡◌ {A = Option RosterError} (Some e) None → ⊥
    some_is_none e h = cc

    at : (counts ids names : Bool) → cond (not counts) (Some errors.Count) (cond ids (Some errors.RepeatedId) (cond names (Some errors.RepeatedName) None)) ≡ None → names ≡ false
    at false ids names h = absurd (some_is_none errors.Count h)
    at true true names h = absurd (some_is_none errors.RepeatedId h)
    at true false true h = absurd (some_is_none errors.RepeatedName h)
    at true false false h = refl

-- a legal stream that is fed whole is learned, unless memory runs out
pub taught : (now : ℕ) (l e : Learning) (ms : List Message) (us : List Update) (after : State) (result : Result ℕ Fault) → IsReady l → Legal l.intake.roster l.intake.state ms us after → LearnerFeeds now l (stream_of ms) result e → result ≢ Err faults.Memory → (result ≡ Ok (length us)) × IsTaught now l us after e
taught now l e ms us after result (sound, own, going, none) (all, teaches) fed wanted =
    by result (learned now (with_piece l (stream_of ms)) ms us after (once_named l.intake.roster sound) own all teaches going (ap (λ (u : List ℕ). u ++ stream_of ms) none)) fed wanted
  where
    ends : (a : Learning) → IsTaught now (with_piece l (stream_of ms)) us after a → IsWaiting a.intake
    ends a (roster, state, unread, is_open, rows) = (is_open, ap (λ (u : List ℕ). message_at a.intake.state.received u) unread ∙ waits_at_end a.intake.state.received)

    stopped : (fault : Fault) (a mid : Learning) (x : Taking) (ns : List Message) (vs : List Update) → is_memory fault ≡ false → AreLearned now (with_piece l (stream_of ms)) ms us a → IsTaught now (with_piece l (stream_of ms)) us after a → AreLearned now (with_piece l (stream_of ms)) ns vs mid → Stops mid.intake fault x → ⊥
    stopped fault a mid x ns vs other one done begun stops =
        no_fault now (with_piece l (stream_of ms)) a mid x ms ns us vs fault one (ends a done) begun stops (not_memory fault other)

    by : (result : Result ℕ Fault) → ((a : Learning) × AreLearned now (with_piece l (stream_of ms)) ms us a × IsTaught now (with_piece l (stream_of ms)) us after a) → LearnerFeeds now l (stream_of ms) result e → result ≢ Err faults.Memory → (result ≡ Ok (length us)) × IsTaught now l us after e
    by (Ok count) (a, one, done) (is_open, (ns, vs, begun, waits, is)) wanted =
        let both = same now (with_piece l (stream_of ms)) a e ms ns us vs one begun (ends a done) waits in
        (ap (λ (n : ℕ). Ok n) (is ∙ ap (λ (xs : List Update). length xs) (sym both.0)), subst (λ (x : Learning). IsTaught now l us after x) both.1 done)
    by (Err faults.Memory) (a, one, done) fed wanted = absurd (wanted refl)
    by (Err faults.Closed) (a, one, done) (shut, is) wanted = absurd (apart (sym shut ∙ going))
    by (Err faults.NoNumber) (a, one, done) (is_open, (ns, vs, mid, begun, stops, rows)) wanted = absurd (stopped faults.NoNumber a mid e.intake ns vs refl one done begun stops)
    by (Err faults.EmptySlot) (a, one, done) (is_open, (ns, vs, mid, begun, stops, rows)) wanted = absurd (stopped faults.EmptySlot a mid e.intake ns vs refl one done begun stops)
    by (Err (faults.Breach breach)) (a, one, done) (is_open, (ns, vs, mid, begun, stops, rows)) wanted = absurd (stopped (faults.Breach breach) a mid e.intake ns vs refl one done begun stops)

-- and so is one that is fed in pieces
pub taught_in_pieces : (now : ℕ) (l e : Learning) (ms : List Message) (us : List Update) (after : State) (a : List ℕ) (pieces : List (List ℕ)) (count : ℕ) → IsReady l → Legal l.intake.roster l.intake.state ms us after → IsBytes (stream_of ms) → together (a ∷ pieces) ≡ stream_of ms → AreFed now l (a ∷ pieces) count e → (count ≡ length us) × IsTaught now l us after e
taught_in_pieces now l e ms us after a pieces count ready legal good cut fed =
    let bytes : IsBytes (l.intake.unread ++ together (a ∷ pieces)) = subst (λ (u : List ℕ). IsBytes (u ++ together (a ∷ pieces))) (sym ready.3) (subst IsBytes (sym cut) good) in
    let all : LearnerFeeds now l (stream_of ms) (Ok count) e = subst (λ (s : List ℕ). LearnerFeeds now l s (Ok count) e) cut (whole now pieces l e a count bytes fed) in
    let done = taught now l e ms us after (Ok count) ready legal all (λ wanted. never_ok count wanted) in
    (one_count count (length us) done.0, done.1)
  where
    never_ok : (n : ℕ) → ◌≡◌ {A = Result ℕ Fault} (Ok n) (Err faults.Memory) → ⊥
    never_ok n h = cc

    one_count : (m n : ℕ) → ◌≡◌ {A = Result ℕ Fault} (Ok m) (Ok n) → m ≡ n
    one_count m n h = cc
