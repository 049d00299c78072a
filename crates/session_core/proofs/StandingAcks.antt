-- An acknowledgement that a session passes on was received.
use Rattle.std.proofs.Common.{◌≡◌, ℕ, Bool, true, false, ◌||◌, ◌==◌, List, [], ◌∷◌, ◌++◌, Some, None, Option, refl, sym, ap, ◌∙◌, subst, inl, inr, append_assoc, cond}
use Rattle.std.specs.Prelude.{nat_le}
use Rattle.std.specs.List.{list_any, AllByRecursion}
use Rattle.std.proofs.lemmas.Bool.{cases_eq, eq-eqb, ne_eqb, false≢true}
use Rattle.std.proofs.lemmas.List.{append-nil}
use Rattle.std.proofs.lemmas.List.Folds.{list_any-append}
use Rattle.table_types.specs.Tables.{Definition}
use Rattle.table_types.specs.declared.copies.Settled.{Settled}
use Rattle.table_types.specs.declared.copies.Settled.TheVariants as settles
use Rattle.known_state.specs.Known.{KnownState}
use Rattle.peers_hello.specs.declared.hello.Hello.{Hello}
use Rattle.session_core.specs.declared.action.Action.{Action}
use Rattle.session_core.specs.declared.action.Action.TheVariants as actions
use Rattle.session_core.specs.declared.event.Event.{Event}
use Rattle.session_core.specs.declared.event.Event.TheVariants as events
use Rattle.session_core.specs.declared.pace.Task.{Task}
use Rattle.session_core.specs.declared.pace.Task.TheVariants as tasks
use Rattle.session_core.specs.declared.phase.Greeter.{Greeter}
use Rattle.session_core.specs.declared.progress.Progress.{Progress}
use Rattle.session_core.specs.declared.share.Share.{Share}
use Rattle.session_core.specs.Phases.{Phase}
use Rattle.session_core.specs.Phases as phases
use Rattle.session_core.specs.Actions.{reopens}
use Rattle.session_core.specs.Courses.{Course, table_to_ask, ack_received, acknowledged, teaching_anew}
use Rattle.session_core.specs.Sessions.{SessionState, GoesIn, GoesNew, GoesHello, GoesOpen, Turns, HasNothing, FinishesResync, StartsPendingResync, Settles, Goes}
use Rattle.session_core.specs.Paces.{Pace, progress_of, with_copy, copied_in, last_number, with_ack, acknowledged_in, with_row, received_in, with_leave, left_in, noted_one, noted, is_number, inferred, is_ahead, has_left}
use Rattle.session_core.specs.Standing.{StandingState, finished_if, finishing, begun_resync, Does, task_at, TakesTurn, Writes, answer_of_refusal, Stands, TicksIn, word_of, reopening, leaving, without_tables, heartbeats}
use Rattle.session_core.specs.Happenings.{Happening, is_ack_of, acknowledges, brings_ack, was_acknowledged}
use Rattle.session_core.proofs.MachineRuns.{Happens, Lasts, BeginsToStay, at}
use Rattle.session_core.proofs.TickGives.{after_reopening}

-- ---- what was noted was received

abbrev IsReal : List Happening → ℕ → Option ℕ → Type 0
IsReal steps table None = Unit {0}
IsReal steps table (Some number) = was_acknowledged table number steps ≡ true

abbrev AreReal : List Happening → List Progress → Type 0
AreReal steps ps = AllByRecursion (λ p. IsReal steps p.table p.acknowledged) ps

or_true : (b : Bool) → (b || true) ≡ true
or_true true = refl
or_true false = refl

one_more : (steps : List Happening) (one : Happening) (table : ℕ) (number : Option ℕ) → IsReal steps table number → IsReal (steps ++ (one ∷ [])) table number
one_more steps one table None real = tt
one_more steps one table (Some number) real = list_any-append (brings_ack table number) steps (one ∷ []) ∙ rw real refl

real_more : (steps : List Happening) (one : Happening) (ps : List Progress) → AreReal steps ps → AreReal (steps ++ (one ∷ [])) ps
real_more steps one [] real = tt
real_more steps one (p ∷ ps) real = (one_more steps one p.table p.acknowledged real.0, real_more steps one ps real.1)

real_begun : (now : ℕ) (roster : List Definition) → AreReal [] (progress_of now roster)
real_begun now [] = tt
real_begun now (d ∷ ds) = (tt, real_begun now ds)

copied_one : (steps : List Happening) (b : Bool) (p q : Progress) → q.table ≡ p.table → q.acknowledged ≡ p.acknowledged → IsReal steps p.table p.acknowledged → IsReal steps (cond b q p).table (cond b q p).acknowledged
copied_one steps true p q same also real = rw (same, also) real
copied_one steps false p q same also real = real

real_copied : (steps : List Happening) (table number now : ℕ) (ps : List Progress) → AreReal steps ps → AreReal steps (copied_in table number now ps)
real_copied steps table number now [] real = tt
real_copied steps table number now (p ∷ ps) real = (copied_one steps (p.table == table) p (with_copy number now p) refl refl real.0, real_copied steps table number now ps real.1)

-- with_ack keeps the table, and notes the number or nothing
ack_one : (steps : List Happening) (b : Bool) (number : ℕ) (p : Progress) → nat_le number p.greatest ≡ b → was_acknowledged p.table number steps ≡ true → IsReal steps p.table p.acknowledged → IsReal steps (with_ack number p).table (with_ack number p).acknowledged
ack_one steps true number p reaches is real = rw reaches is
ack_one steps false number p reaches is real = rw reaches real

ack_at : (steps : List Happening) (table number : ℕ) (p : Progress) → was_acknowledged table number steps ≡ true → IsReal steps p.table p.acknowledged → IsReal steps (cond (p.table == table) (with_ack number p) p).table (cond (p.table == table) (with_ack number p) p).acknowledged
ack_at steps table number p is real =
    elim (cases_eq p.table table) [
      | inl same ↦ rw (eq-eqb p.table table same) (ack_one steps _ number p refl (ap (λ (t : ℕ). was_acknowledged t number steps) same ∙ is) real)
      | inr other ↦ rw (ne_eqb p.table table other) real
    ]

real_acknowledged : (steps : List Happening) (table number : ℕ) (ps : List Progress) → was_acknowledged table number steps ≡ true → AreReal steps ps → AreReal steps (acknowledged_in table number ps)
real_acknowledged steps table number [] is real = tt
real_acknowledged steps table number (p ∷ ps) is real = (ack_at steps table number p is real.0, real_acknowledged steps table number ps is real.1)

real_received : (steps : List Happening) (table number : ℕ) (ps : List Progress) → AreReal steps ps → AreReal steps (received_in table number ps)
real_received steps table number [] real = tt
real_received steps table number (p ∷ ps) real = (copied_one steps (p.table == table) p (with_row number p) refl refl real.0, real_received steps table number ps real.1)

real_left : (steps : List Happening) (left : List ℕ) (ps : List Progress) → AreReal steps ps → AreReal steps (left_in left ps)
real_left steps left [] real = tt
real_left steps left (p ∷ ps) real = (copied_one steps (list_any (λ table. table == p.table) left) p (with_leave p) refl refl real.0, real_left steps left ps real.1)

-- what each of the actions acknowledges was received
abbrev AreBrought : List Happening → List Action → Type 0
AreBrought steps acts = (table number : ℕ) → acknowledges table number acts ≡ true → was_acknowledged table number steps ≡ true

same_ack : (table number : ℕ) (acts : List Action) → acknowledges table number (actions.Ack table number ∷ acts) ≡ true
same_ack table number acts = rw (eq-eqb table table refl, eq-eqb number number refl) refl

brought_rest : (steps : List Happening) (action : Action) (acts : List Action) → AreBrought steps (action ∷ acts) → AreBrought steps acts
brought_rest steps action acts brought table number is = brought table number (rw is (or_true (is_ack_of table number action)))

real_one : (steps : List Happening) (action : Action) (acts : List Action) (ps : List Progress) → AreBrought steps (action ∷ acts) → AreReal steps ps → AreReal steps (noted_one action ps)
real_one steps (actions.Ack table number) acts ps brought real = real_acknowledged steps table number ps (brought table number (same_ack table number acts)) real
real_one steps (actions.Send bytes) acts ps brought real = real
real_one steps (actions.Learn u) acts ps brought real = real_received steps u.table u.number ps real
real_one steps (actions.Reopen table) acts ps brought real = real
real_one steps (actions.Copy table kind) acts ps brought real = real
real_one steps (actions.Teach batch) acts ps brought real = real
real_one steps (actions.Part kind) acts ps brought real = real
real_one steps actions.Close acts ps brought real = real

real_noted : (steps : List Happening) (acts : List Action) (ps : List Progress) → AreBrought steps acts → AreReal steps ps → AreReal steps (noted acts ps)
real_noted steps [] ps brought real = real
real_noted steps (action ∷ acts) ps brought real =
    real_noted steps acts (noted_one action ps) (brought_rest steps action acts brought) (real_one steps action acts ps brought real)

-- the bytes of the last step bring what its actions acknowledge
last_brings : (steps : List Happening) (now : ℕ) (bytes : List ℕ) (acts : List Action) (table number : ℕ) → acknowledges table number acts ≡ true → was_acknowledged table number (steps ++ (at now (events.Bytes bytes) acts ∷ [])) ≡ true
last_brings steps now bytes acts table number is =
    list_any-append (brings_ack table number) steps (at now (events.Bytes bytes) acts ∷ []) ∙ rw is (or_true (list_any (brings_ack table number) steps))

-- ---- what else acknowledges

abbrev pair_or : ℕ × ℕ → Option (ℕ × ℕ) → ℕ × ℕ
pair_or pair None = pair
pair_or pair (Some other) = other

repeated_real : (steps : List Happening) (table last : ℕ) (acknowledged : Option ℕ) → is_number acknowledged last ≡ true → IsReal steps table acknowledged → was_acknowledged table last steps ≡ true
repeated_real steps table last None is real = absurd (false≢true is)
repeated_real steps table last (Some n) is real =
    elim (cases_eq n last) [
      | inl same ↦ subst (λ (x : ℕ). was_acknowledged table x steps ≡ true) same real
      | inr other ↦ absurd (false≢true (sym (ne_eqb n last other) ∙ is))
    ]

found_real : (steps : List Happening) (asked table number : ℕ) (p : Progress) → (p.table == asked) ≡ true → is_number p.acknowledged p.last ≡ true → IsReal steps p.table p.acknowledged → ◌≡◌ {A = Option (ℕ × ℕ)} (Some (asked, p.last)) (Some (table, number)) → was_acknowledged table number steps ≡ true
found_real steps asked table number p here last real is =
    elim (cases_eq p.table asked) [
      | inl same ↦
          let found : was_acknowledged asked p.last steps ≡ true = subst (λ (t : ℕ). was_acknowledged t p.last steps ≡ true) same (repeated_real steps p.table p.last p.acknowledged last real) in
          subst (λ (q : ℕ × ℕ). was_acknowledged q.0 q.1 steps ≡ true) (ap (pair_or (asked, p.last)) is) found
      | inr other ↦ absurd (false≢true (sym (ne_eqb p.table asked other) ∙ here))
    ]

inferred_one : (steps : List Happening) (asked table number : ℕ) (p : Progress) (ps : List Progress) (here last : Bool) → (p.table == asked) ≡ here → is_number p.acknowledged p.last ≡ last → IsReal steps p.table p.acknowledged → (inferred (Some asked) ps ≡ Some (table, number) → was_acknowledged table number steps ≡ true) → inferred (Some asked) (p ∷ ps) ≡ Some (table, number) → was_acknowledged table number steps ≡ true
inferred_one steps asked table number p ps true true here last real more is = found_real steps asked table number p here last real (sym (rw (here, last) refl) ∙ is)
inferred_one steps asked table number p ps true false here last real more is = more (sym (rw (here, last) refl) ∙ is)
inferred_one steps asked table number p ps false last here is_last real more is = more (sym (rw here refl) ∙ is)

-- the latest batch that is inferred to be acknowledged was
inferred_real : (steps : List Happening) (asked table number : ℕ) (ps : List Progress) → AreReal steps ps → inferred (Some asked) ps ≡ Some (table, number) → was_acknowledged table number steps ≡ true
inferred_real steps asked table number [] real is = absurd (cc)
inferred_real steps asked table number (p ∷ ps) real is =
    inferred_one steps asked table number p ps (p.table == asked) (is_number p.acknowledged p.last) refl refl real.0 (λ more. inferred_real steps asked table number ps real.1 more) is

inferred_of : (steps : List Happening) (asked : Option ℕ) (table number : ℕ) (ps : List Progress) → AreReal steps ps → inferred asked ps ≡ Some (table, number) → was_acknowledged table number steps ≡ true
inferred_of steps None table number ps real is = absurd (cc)
inferred_of steps (Some asked) table number ps real is = inferred_real steps asked table number ps real is

only_ack : (steps : List Happening) (table number t n : ℕ) → was_acknowledged table number steps ≡ true → acknowledges t n (actions.Ack table number ∷ []) ≡ true → was_acknowledged t n steps ≡ true
only_ack steps table number t n real is =
    elim (cases_eq table t) [
      | inl same ↦ elim (cases_eq number n) [
        | inl also ↦ subst (λ (y : ℕ). was_acknowledged t y steps ≡ true) also (subst (λ (x : ℕ). was_acknowledged x number steps ≡ true) same real)
        | inr other ↦ absurd (false≢true (sym (rw (eq-eqb table t same, ne_eqb number n other) refl) ∙ is))
      ]
      | inr other ↦ absurd (false≢true (sym (rw (ne_eqb table t other) refl) ∙ is))
    ]

passed_on : (steps : List Happening) (b : Bool) (c : Course) (table number t n : ℕ) → was_acknowledged table number steps ≡ true → acknowledges t n (acknowledged b c table number).0 ≡ true → was_acknowledged t n steps ≡ true
passed_on steps true c table number t n real is = only_ack steps table number t n real is
passed_on steps false c table number t n real is = absurd (false≢true is)

inferred_acts : (steps : List Happening) (c : Course) (ps : List Progress) (found : Option (ℕ × ℕ)) (t n : ℕ) → inferred c.asked ps ≡ found → AreReal steps ps → acknowledges t n (ack_received c found).0 ≡ true → was_acknowledged t n steps ≡ true
inferred_acts steps c ps None t n finds real is = absurd (false≢true is)
inferred_acts steps c ps (Some (table, number)) t n finds real is = passed_on steps _ c table number t n (inferred_of steps c.asked table number ps real finds) is

-- ---- other events acknowledge nothing

abbrev IsOther : Event → Type 0
IsOther (events.Bytes bytes) = ⊥
IsOther (events.Written known) = ⊥
IsOther event = Unit {0}

abbrev AcksNone : List Action → Type 0
AcksNone acts = (table number : ℕ) → acknowledges table number acts ≡ false

none_is : (acts given : List Action) → acts ≡ given → AcksNone given → AcksNone acts
none_is acts given is none table number = ap (acknowledges table number) is ∙ none table number

none_reopens : (ss : List Share) → AcksNone (reopens ss)
none_reopens [] table number = refl
none_reopens (s ∷ ss) table number = none_reopens ss table number

none_new : (s : SessionState) (hello : Hello) (c : Course) (event : Event) (acts : List Action) (e : SessionState) → GoesNew s hello c event acts e → AcksNone acts
none_new s hello c events.Opened acts e (is, then) = none_is acts _ is (λ table number. refl)
none_new s hello c events.Turn acts e (is, then) = none_is acts [] is (λ table number. refl)
none_new s hello c events.Tick acts e (is, then) = none_is acts [] is (λ table number. refl)
none_new s hello c events.Ask acts e (is, then) = none_is acts [] is (λ table number. refl)
none_new s hello c events.CaughtUp acts e (is, then) = none_is acts [] is (λ table number. refl)
none_new s hello c events.End acts e (is, then) = none_is acts (actions.Close ∷ []) is (λ table number. refl)
none_new s hello c events.ReadFault acts e (is, then) = none_is acts (actions.Close ∷ []) is (λ table number. refl)
none_new s hello c events.WriteFault acts e (is, then) = none_is acts (actions.Close ∷ []) is (λ table number. refl)
none_new s hello c (events.Bytes bytes) acts e goes = absurd goes
none_new s hello c (events.Copied table batch) acts e goes = absurd goes
none_new s hello c (events.Nothing table) acts e goes = absurd goes
none_new s hello c (events.Written known) acts e goes = absurd goes
none_new s hello c (events.Settled table settled) acts e goes = absurd goes
none_new s hello c (events.Refused table) acts e goes = absurd goes

none_hello : (s : SessionState) (greeter : Greeter) (bytes : List ℕ) (c : Course) (event : Event) (acts : List Action) (e : SessionState) → IsOther event → GoesHello s greeter bytes c event acts e → AcksNone acts
none_hello s greeter bytes c events.Turn acts e other (is, then) = none_is acts [] is (λ table number. refl)
none_hello s greeter bytes c events.Tick acts e other (is, then) = none_is acts [] is (λ table number. refl)
none_hello s greeter bytes c events.Ask acts e other (is, then) = none_is acts [] is (λ table number. refl)
none_hello s greeter bytes c events.CaughtUp acts e other (is, then) = none_is acts [] is (λ table number. refl)
none_hello s greeter bytes c events.End acts e other (is, then) = none_is acts (actions.Close ∷ []) is (λ table number. refl)
none_hello s greeter bytes c events.ReadFault acts e other (is, then) = none_is acts (actions.Close ∷ []) is (λ table number. refl)
none_hello s greeter bytes c events.WriteFault acts e other (is, then) = none_is acts (actions.Close ∷ []) is (λ table number. refl)
none_hello s greeter bytes c (events.Bytes piece) acts e other goes = absurd other
none_hello s greeter bytes c events.Opened acts e other goes = absurd goes
none_hello s greeter bytes c (events.Copied table batch) acts e other goes = absurd goes
none_hello s greeter bytes c (events.Nothing table) acts e other goes = absurd goes
none_hello s greeter bytes c (events.Written known) acts e other goes = absurd goes
none_hello s greeter bytes c (events.Settled table settled) acts e other goes = absurd goes
none_hello s greeter bytes c (events.Refused table) acts e other goes = absurd goes

none_turns : (asked : Option ℕ) (s : SessionState) (c : Course) (acts : List Action) (e : SessionState) → Turns asked s c acts e → AcksNone acts
none_turns None s c acts e (is, then) = none_is acts [] is (λ table number. refl)
none_turns (Some asked) s c acts e (is, then) = none_is acts _ is (λ table number. refl)

none_finishes : (b : Bool) (s : SessionState) (c : Course) (acts : List Action) (e : SessionState) → FinishesResync b s c acts e → AcksNone acts
none_finishes true s c acts e (is, then) = none_is acts _ is (λ table number. refl)
none_finishes false s c acts e (is, then) = none_is acts [] is (λ table number. refl)

none_nothing : (b : Bool) (s : SessionState) (c : Course) (asked : ℕ) (acts : List Action) (e : SessionState) → HasNothing b s c asked acts e → AcksNone acts
none_nothing true s c asked acts e finishes = none_finishes _ s _ acts e finishes
none_nothing false s c asked acts e (is, then) = none_is acts [] is (λ table number. refl)

none_starts : (b : Bool) (s : SessionState) (c : Course) (acts : List Action) (e : SessionState) → StartsPendingResync b s c acts e → AcksNone acts
none_starts true s c acts e (is, then) = none_is acts (reopens c.shares) is (none_reopens c.shares)
none_starts false s c acts e (is, then) = none_is acts [] is (λ table number. refl)

none_settles : (settled : Settled) (s : SessionState) (c : Course) (asked : ℕ) (acts : List Action) (e : SessionState) → Settles settled s c asked acts e → AcksNone acts
none_settles settles.All s c asked acts e starts = none_starts _ s _ acts e starts
none_settles settles.Some s c asked acts e (is, then) = none_is acts [] is (λ table number. refl)
none_settles settles.Older s c asked acts e (is, then) = none_is acts [] is (λ table number. refl)

none_open : (s : SessionState) (c : Course) (event : Event) (acts : List Action) (e : SessionState) → IsOther event → GoesOpen s c event acts e → AcksNone acts
none_open s c events.Turn acts e other (due, turns) = none_turns (table_to_ask c) s c acts e turns
none_open s c events.Tick acts e other (due, (is, then)) = none_is acts _ is (λ table number. refl)
none_open s c events.Ask acts e other (due, (is, then)) = none_is acts _ is (λ table number. refl)
none_open s c events.CaughtUp acts e other (due, (is, then)) = none_is acts _ is (λ table number. refl)
none_open s c (events.Bytes bytes) acts e other goes = absurd other
none_open s c (events.Copied asked batch) acts e other (mid, answered, (is, then)) = none_is acts (actions.Teach batch ∷ []) is (λ table number. refl)
none_open s c (events.Nothing asked) acts e other (mid, answered, nothing) = none_nothing mid.teaching s mid asked acts e nothing
none_open s c (events.Written known) acts e other goes = absurd other
none_open s c (events.Settled asked settled) acts e other (mid, answered, settles) = none_settles settled s mid asked acts e settles
none_open s c (events.Refused asked) acts e other (mid, answered, is, then) = none_is acts _ is (λ table number. refl)
none_open s c events.End acts e other (is, then) = none_is acts (actions.Close ∷ []) is (λ table number. refl)
none_open s c events.ReadFault acts e other (is, then) = none_is acts (actions.Close ∷ []) is (λ table number. refl)
none_open s c events.WriteFault acts e other (is, then) = none_is acts (actions.Close ∷ []) is (λ table number. refl)
none_open s c events.Opened acts e other goes = absurd goes

none_in : (phase : Phase) (s : SessionState) (event : Event) (acts : List Action) (e : SessionState) → IsOther event → GoesIn phase s event acts e → AcksNone acts
none_in (phases.New hello c) s event acts e other goes = none_new s hello c event acts e goes
none_in (phases.Hello greeter bytes c) s event acts e other goes = none_hello s greeter bytes c event acts e other goes
none_in (phases.Open c) s event acts e other goes = none_open s c event acts e other goes
none_in phases.Ended s event acts e other goes = absurd goes

none_finished : (b : Bool) (c : Course) → AcksNone (finished_if b c).0
none_finished true c table number = refl
none_finished false c table number = refl

none_begun : (c : Course) → AcksNone (begun_resync c).0
none_begun c table number =
    list_any-append (is_ack_of table number) (reopens c.shares) (finishing (teaching_anew c)).0
    ∙ rw (none_reopens c.shares table number) (none_finished _ (teaching_anew c) table number)

none_does : (task : Task) (s e : StandingState) (c : Course) (now : ℕ) (acts : List Action) → Does task s c now acts e → AcksNone acts
none_does tasks.Copy s e c now acts (goes, pace) = none_in s.session.phase s.session events.Turn acts e.session tt goes
none_does tasks.Rest s e c now acts (due, is, same) = none_is acts [] is (λ table number. refl)
none_does tasks.Begin s e c now acts (due, is, session, pace) = none_is acts (begun_resync c).0 is (none_begun c)

none_turn : (phase : Phase) (s e : StandingState) (now : ℕ) (acts : List Action) → TakesTurn phase s now acts e → AcksNone acts
none_turn (phases.Open c) s e now acts does = none_does (task_at now s.pace c) s e c now acts does
none_turn (phases.New hello c) s e now acts (goes, pace) = none_in s.session.phase s.session events.Turn acts e.session tt goes
none_turn (phases.Hello greeter bytes c) s e now acts (goes, pace) = none_in s.session.phase s.session events.Turn acts e.session tt goes
none_turn phases.Ended s e now acts (goes, pace) = none_in s.session.phase s.session events.Turn acts e.session tt goes

other_word : (b : Bool) → IsOther (word_of b)
other_word true = tt
other_word false = tt

none_leaving : (left : List ℕ) (c : Course) → AcksNone (leaving left c).0
none_leaving [] c table number = refl
none_leaving (id ∷ ids) c table number = none_finished _ (without_tables (id ∷ ids) c) table number

none_beats : (b : Bool) → AcksNone (heartbeats b)
none_beats true table number = refl
none_beats false table number = refl

none_ticks : (silent : Bool) (phase : Phase) (s e : StandingState) (now : ℕ) (left : List ℕ) (rest : List Action) → TicksIn silent phase s now left rest e → AcksNone rest
none_ticks true phase s e now left rest (leaves, is, session, pace) = none_is rest (actions.Close ∷ []) is (λ table number. refl)
none_ticks false (phases.Open c) s e now left rest (leaves, is, session, pace) = none_is rest _ is
    (λ table number. list_any-append (is_ack_of table number) (leaving left c).0 (heartbeats _) ∙ rw (none_leaving left c table number) (none_beats _ table number))
none_ticks false (phases.New hello c) s e now left rest (leaves, is, same) = none_is rest [] is (λ table number. refl)
none_ticks false (phases.Hello greeter bytes c) s e now left rest (leaves, is, same) = none_is rest [] is (λ table number. refl)
none_ticks false phases.Ended s e now left rest (leaves, is, same) = none_is rest [] is (λ table number. refl)

none_after : (left : List ℕ) (rest : List Action) → AcksNone rest → AcksNone (reopening left ++ rest)
none_after left rest none table number = after_reopening (is_ack_of table number) (λ id. refl) left rest ∙ none table number

other_refusal : (b : Bool) (table : ℕ) → IsOther (answer_of_refusal b table)
other_refusal true table = tt
other_refusal false table = tt

-- a lesson that was written asks for nothing in a plain session
written_none : (phase : Phase) (s : SessionState) (known : KnownState) (acts : List Action) (e : SessionState) → GoesIn phase s (events.Written known) acts e → AcksNone acts
written_none (phases.Open c) s known acts e (mid, answered, is, ends) = none_is acts [] is (λ table number. refl)
written_none (phases.New hello c) s known acts e goes = absurd goes
written_none (phases.Hello greeter bytes c) s known acts e goes = absurd goes
written_none phases.Ended s known acts e goes = absurd goes

-- ---- one event

-- what an event passes on was received then or before
abbrev IsBrought : List Happening → ℕ → Event → List Action → Type 0
IsBrought steps now event acts = AreBrought (steps ++ (at now event acts ∷ [])) acts

brought_none : (steps : List Happening) (now : ℕ) (event : Event) (acts : List Action) → AcksNone acts → IsBrought steps now event acts
brought_none steps now event acts none = λ table number is. absurd (false≢true (sym (none table number) ∙ is))

brought_writes : (phase : Phase) (steps : List Happening) (s e : StandingState) (now : ℕ) (known : KnownState) (acts : List Action) → AreReal steps s.pace.progress → Writes phase s now known acts e → IsBrought steps now (events.Written known) acts
brought_writes (phases.Open c) steps s e now known acts real (goes, acted, pace) = λ table number is.
    one_more steps (at now (events.Written known) acts) table (Some number)
    (inferred_acts steps c s.pace.progress _ table number refl real (sym (ap (acknowledges table number) acted) ∙ is))
brought_writes (phases.New hello c) steps s e now known acts real writes = absurd writes
brought_writes (phases.Hello greeter bytes c) steps s e now known acts real writes = absurd writes
brought_writes phases.Ended steps s e now known acts real writes = absurd writes

brought : (event : Event) (steps : List Happening) (s e : StandingState) (now : ℕ) (acts : List Action) → AreReal steps s.pace.progress → Stands s now event acts e → IsBrought steps now event acts
brought (events.Bytes bytes) steps s e now acts real stands = λ table number is. last_brings steps now bytes acts table number is
brought events.Turn steps s e now acts real turns = brought_none steps now events.Turn acts (none_turn s.session.phase s e now acts turns)
brought (events.Copied table batch) steps s e now acts real (goes, pace) = brought_none steps now (events.Copied table batch) acts (none_in s.session.phase s.session (events.Copied table batch) acts e.session tt goes)
brought (events.Written known) steps s e now acts real writes = brought_writes s.session.phase steps s e now known acts real writes
brought (events.Refused table) steps s e now acts real (goes, pace) = brought_none steps now (events.Refused table) acts (none_in s.session.phase s.session _ acts e.session (other_refusal (is_ahead table s.pace.progress) table) goes)
brought events.Opened steps s e now acts real (goes, pace) = brought_none steps now events.Opened acts (none_in s.session.phase s.session events.Opened acts e.session tt goes)
brought events.Ask steps s e now acts real (goes, pace) = brought_none steps now events.Ask acts (none_in s.session.phase s.session events.Ask acts e.session tt goes)
brought events.CaughtUp steps s e now acts real (goes, pace) = brought_none steps now events.CaughtUp acts (none_in s.session.phase s.session _ acts e.session (other_word (has_left s.pace.progress)) goes)
brought events.Tick steps s e now acts real (asked, (left, rest, ticks, is)) = brought_none steps now events.Tick acts (none_is acts _ is (none_after left rest (none_ticks _ s.session.phase s e now left rest ticks)))
brought events.End steps s e now acts real (goes, pace) = brought_none steps now events.End acts (none_in s.session.phase s.session events.End acts e.session tt goes)
brought events.ReadFault steps s e now acts real (goes, pace) = brought_none steps now events.ReadFault acts (none_in s.session.phase s.session events.ReadFault acts e.session tt goes)
brought events.WriteFault steps s e now acts real (goes, pace) = brought_none steps now events.WriteFault acts (none_in s.session.phase s.session events.WriteFault acts e.session tt goes)
brought (events.Nothing table) steps s e now acts real (goes, pace) = brought_none steps now (events.Nothing table) acts (none_in s.session.phase s.session (events.Nothing table) acts e.session tt goes)
brought (events.Settled table settled) steps s e now acts real (goes, pace) = brought_none steps now (events.Settled table settled) acts (none_in s.session.phase s.session (events.Settled table settled) acts e.session tt goes)

-- ---- what is noted stays real

-- the progress is as it was
still_real : (steps : List Happening) (one : Happening) (ps qs : List Progress) → qs ≡ ps → AreReal steps ps → AreReal (steps ++ (one ∷ [])) qs
still_real steps one ps qs same real = subst (AreReal (steps ++ (one ∷ []))) (sym same) (real_more steps one ps real)

does_real : (task : Task) (steps : List Happening) (s e : StandingState) (c : Course) (now : ℕ) (acts : List Action) → AreReal steps s.pace.progress → Does task s c now acts e → AreReal (steps ++ (at now events.Turn acts ∷ [])) e.pace.progress
does_real tasks.Copy steps s e c now acts real (goes, pace) = still_real steps _ s.pace.progress e.pace.progress (ap (λ (p : Pace). p.progress) pace) real
does_real tasks.Rest steps s e c now acts real (due, is, same) = still_real steps _ s.pace.progress e.pace.progress (ap (λ (x : StandingState). x.pace.progress) same) real
does_real tasks.Begin steps s e c now acts real (due, is, session, pace) = still_real steps _ s.pace.progress e.pace.progress (ap (λ (p : Pace). p.progress) pace) real

turn_real : (phase : Phase) (steps : List Happening) (s e : StandingState) (now : ℕ) (acts : List Action) → AreReal steps s.pace.progress → TakesTurn phase s now acts e → AreReal (steps ++ (at now events.Turn acts ∷ [])) e.pace.progress
turn_real (phases.Open c) steps s e now acts real does = does_real (task_at now s.pace c) steps s e c now acts real does
turn_real (phases.New hello c) steps s e now acts real (goes, pace) = still_real steps _ s.pace.progress e.pace.progress (ap (λ (p : Pace). p.progress) pace) real
turn_real (phases.Hello greeter bytes c) steps s e now acts real (goes, pace) = still_real steps _ s.pace.progress e.pace.progress (ap (λ (p : Pace). p.progress) pace) real
turn_real phases.Ended steps s e now acts real (goes, pace) = still_real steps _ s.pace.progress e.pace.progress (ap (λ (p : Pace). p.progress) pace) real

writes_real : (phase : Phase) (steps : List Happening) (s e : StandingState) (now : ℕ) (known : KnownState) (acts : List Action) → AreReal steps s.pace.progress → Writes phase s now known acts e → AreReal (steps ++ (at now (events.Written known) acts ∷ [])) e.pace.progress
writes_real (phases.Open c) steps s e now known acts real (goes, acted, pace) = still_real steps _ s.pace.progress e.pace.progress (ap (λ (p : Pace). p.progress) pace) real
writes_real (phases.New hello c) steps s e now known acts real writes = absurd writes
writes_real (phases.Hello greeter bytes c) steps s e now known acts real writes = absurd writes
writes_real phases.Ended steps s e now known acts real writes = absurd writes

ticks_real : (silent : Bool) (phase : Phase) (steps : List Happening) (one : Happening) (s e : StandingState) (now : ℕ) (left : List ℕ) (acts : List Action) → AreReal steps s.pace.progress → TicksIn silent phase s now left acts e → AreReal (steps ++ (one ∷ [])) e.pace.progress
ticks_real true phase steps one s e now left acts real (leaves, is, session, pace) = still_real steps _ s.pace.progress e.pace.progress (ap (λ (p : Pace). p.progress) pace) real
ticks_real false (phases.Open c) steps one s e now left acts real (leaves, is, session, pace) =
    subst (AreReal (steps ++ (one ∷ []))) (sym (ap (λ (p : Pace). p.progress) pace)) (real_left (steps ++ (one ∷ [])) left s.pace.progress (real_more steps one s.pace.progress real))
ticks_real false (phases.New hello c) steps one s e now left acts real (leaves, is, same) = still_real steps _ s.pace.progress e.pace.progress (ap (λ (x : StandingState). x.pace.progress) same) real
ticks_real false (phases.Hello greeter bytes c) steps one s e now left acts real (leaves, is, same) = still_real steps _ s.pace.progress e.pace.progress (ap (λ (x : StandingState). x.pace.progress) same) real
ticks_real false phases.Ended steps one s e now left acts real (leaves, is, same) = still_real steps _ s.pace.progress e.pace.progress (ap (λ (x : StandingState). x.pace.progress) same) real

stands_real : (event : Event) (steps : List Happening) (s e : StandingState) (now : ℕ) (acts : List Action) → AreReal steps s.pace.progress → Stands s now event acts e → AreReal (steps ++ (at now event acts ∷ [])) e.pace.progress
stands_real (events.Bytes bytes) steps s e now acts real (goes, pace) =
    let steps_then : List Happening = steps ++ (at now (events.Bytes bytes) acts ∷ []) in
    subst (AreReal steps_then) (sym (ap (λ (p : Pace). p.progress) pace))
    (real_noted steps_then acts s.pace.progress (last_brings steps now bytes acts) (real_more steps (at now (events.Bytes bytes) acts) s.pace.progress real))
stands_real events.Turn steps s e now acts real turns = turn_real s.session.phase steps s e now acts real turns
stands_real (events.Copied table batch) steps s e now acts real (goes, pace) =
    let steps_then : List Happening = steps ++ (at now (events.Copied table batch) acts ∷ []) in
    subst (AreReal steps_then) (sym (ap (λ (p : Pace). p.progress) pace))
    (real_copied steps_then table (last_number batch) now s.pace.progress (real_more steps (at now (events.Copied table batch) acts) s.pace.progress real))
stands_real (events.Written known) steps s e now acts real writes = writes_real s.session.phase steps s e now known acts real writes
stands_real (events.Refused table) steps s e now acts real (goes, pace) = still_real steps _ s.pace.progress e.pace.progress (ap (λ (p : Pace). p.progress) pace) real
stands_real events.Opened steps s e now acts real (goes, pace) = still_real steps _ s.pace.progress e.pace.progress (ap (λ (p : Pace). p.progress) pace) real
stands_real events.Ask steps s e now acts real (goes, pace) = still_real steps _ s.pace.progress e.pace.progress (ap (λ (p : Pace). p.progress) pace) real
stands_real events.CaughtUp steps s e now acts real (goes, pace) = still_real steps _ s.pace.progress e.pace.progress (ap (λ (p : Pace). p.progress) pace) real
stands_real events.Tick steps s e now acts real (asked, (left, rest, ticks, is)) = ticks_real _ s.session.phase steps (at now events.Tick acts) s e now left rest real ticks
stands_real events.End steps s e now acts real (goes, pace) = still_real steps _ s.pace.progress e.pace.progress (ap (λ (p : Pace). p.progress) pace) real
stands_real events.ReadFault steps s e now acts real (goes, pace) = still_real steps _ s.pace.progress e.pace.progress (ap (λ (p : Pace). p.progress) pace) real
stands_real events.WriteFault steps s e now acts real (goes, pace) = still_real steps _ s.pace.progress e.pace.progress (ap (λ (p : Pace). p.progress) pace) real
stands_real (events.Nothing table) steps s e now acts real (goes, pace) = still_real steps _ s.pace.progress e.pace.progress (ap (λ (p : Pace). p.progress) pace) real
stands_real (events.Settled table settled) steps s e now acts real (goes, pace) = still_real steps _ s.pace.progress e.pace.progress (ap (λ (p : Pace). p.progress) pace) real

happens_real : (one : Happening) (steps : List Happening) (s e : StandingState) → AreReal steps s.pace.progress → Happens s one e → AreReal (steps ++ (one ∷ [])) e.pace.progress
happens_real one steps s e real happens = stands_real one.event steps s e one.now one.acts real happens

-- ---- runs

run_real : (before steps : List Happening) (s e : StandingState) → AreReal before s.pace.progress → Lasts s steps e → AreReal (before ++ steps) e.pace.progress
run_real before [] s e real here =
    subst (λ (steps : List Happening). AreReal steps e.pace.progress) (sym (append-nil before)) (subst (λ (x : StandingState). AreReal before x.pace.progress) (sym here) real)
run_real before (one ∷ steps) s e real (mid, happens, lasts) =
    let grouped : (before ++ (one ∷ [])) ++ steps ≡ before ++ (one ∷ steps) = append_assoc before (one ∷ []) steps in
    subst (λ (all : List Happening). AreReal all e.pace.progress) grouped
    (run_real (before ++ (one ∷ [])) steps mid e (happens_real one before s mid real happens) lasts)

begun_real : (roster : List Definition) (s : StandingState) → BeginsToStay roster s → AreReal [] s.pace.progress
begun_real roster s (begun, now, begins, is) = subst (λ (x : StandingState). AreReal [] x.pace.progress) (sym is) (real_begun now begun.known.roster)

pub acks_were_received : (roster : List Definition) (begun s e : StandingState) (steps : List Happening) (one : Happening) (table number : ℕ) → BeginsToStay roster begun → Lasts begun steps s → Happens s one e → acknowledges table number one.acts ≡ true → was_acknowledged table number (steps ++ (one ∷ [])) ≡ true
acks_were_received roster begun s e steps one table number begins lasts happens is =
    brought one.event steps s e one.now one.acts (run_real [] steps begun s (begun_real roster begun begins) lasts) happens table number is

-- ---- a plain session

goes_brought : (event : Event) (steps : List Happening) (s e : SessionState) (now : ℕ) (acts : List Action) → Goes s event acts e → IsBrought steps now event acts
goes_brought (events.Bytes bytes) steps s e now acts goes = λ table number is. last_brings steps now bytes acts table number is
goes_brought (events.Written known) steps s e now acts goes = brought_none steps now (events.Written known) acts (written_none s.phase s known acts e goes)
goes_brought events.Opened steps s e now acts goes = brought_none steps now events.Opened acts (none_in s.phase s events.Opened acts e tt goes)
goes_brought events.End steps s e now acts goes = brought_none steps now events.End acts (none_in s.phase s events.End acts e tt goes)
goes_brought events.ReadFault steps s e now acts goes = brought_none steps now events.ReadFault acts (none_in s.phase s events.ReadFault acts e tt goes)
goes_brought events.Turn steps s e now acts goes = brought_none steps now events.Turn acts (none_in s.phase s events.Turn acts e tt goes)
goes_brought events.Tick steps s e now acts goes = brought_none steps now events.Tick acts (none_in s.phase s events.Tick acts e tt goes)
goes_brought events.Ask steps s e now acts goes = brought_none steps now events.Ask acts (none_in s.phase s events.Ask acts e tt goes)
goes_brought events.CaughtUp steps s e now acts goes = brought_none steps now events.CaughtUp acts (none_in s.phase s events.CaughtUp acts e tt goes)
goes_brought (events.Copied table batch) steps s e now acts goes = brought_none steps now (events.Copied table batch) acts (none_in s.phase s (events.Copied table batch) acts e tt goes)
goes_brought (events.Nothing table) steps s e now acts goes = brought_none steps now (events.Nothing table) acts (none_in s.phase s (events.Nothing table) acts e tt goes)
goes_brought events.WriteFault steps s e now acts goes = brought_none steps now events.WriteFault acts (none_in s.phase s events.WriteFault acts e tt goes)
goes_brought (events.Settled table settled) steps s e now acts goes = brought_none steps now (events.Settled table settled) acts (none_in s.phase s (events.Settled table settled) acts e tt goes)
goes_brought (events.Refused table) steps s e now acts goes = brought_none steps now (events.Refused table) acts (none_in s.phase s (events.Refused table) acts e tt goes)

pub plain_acks_received : (s e : SessionState) (steps : List Happening) (one : Happening) (table number : ℕ) → Goes s one.event one.acts e → acknowledges table number one.acts ≡ true → was_acknowledged table number (steps ++ (one ∷ [])) ≡ true
plain_acks_received s e steps one table number goes is = goes_brought one.event steps s e one.now one.acts goes table number is
