-- A session that stays and teaches in a resync shares a table that isn't quiet.
use Rattle.std.proofs.Common.{◌≡◌, ℕ, Bool, true, false, ◌&&◌, ◌==◌, List, [], ◌∷◌, ◌++◌, Some, None, Option, refl, sym, ap, ◌∙◌, subst, cond}
use Rattle.std.proofs.lemmas.Bool.{false≢true}
use Rattle.table_types.specs.Tables.{Definition}
use Rattle.table_types.specs.declared.copies.Settled.{Settled}
use Rattle.table_types.specs.declared.copies.Settled.TheVariants as settles
use Rattle.peers_hello.specs.declared.hello.Hello.{Hello}
use Rattle.known_state.specs.Known.{KnownState}
use Rattle.session_core.specs.declared.action.Action.{Action}
use Rattle.session_core.specs.declared.event.Event.{Event}
use Rattle.session_core.specs.declared.event.Event.TheVariants as events
use Rattle.session_core.specs.declared.pace.Task.{Task}
use Rattle.session_core.specs.declared.pace.Task.TheVariants as tasks
use Rattle.session_core.specs.declared.phase.Greeter.{Greeter}
use Rattle.session_core.specs.declared.share.Share.{Share}
use Rattle.session_core.specs.Phases.{Phase}
use Rattle.session_core.specs.Phases as phases
use Rattle.session_core.specs.Shares.{any_out, all_quiet, is_out, out_set, quiet_set}
use Rattle.session_core.specs.Courses.{Course, teaching_anew, acknowledged, ack_received, table_to_ask}
use Rattle.session_core.specs.Sessions.{SessionState, going, GoesIn, GoesNew, GoesHello, GoesOpen, Turns, HasNothing, FinishesResync, StartsPendingResync, Settles}
use Rattle.session_core.specs.Paces.{inferred, has_left}
use Rattle.session_core.specs.Standing.{StandingState, finished_if, finishing, Does, task_at, TakesTurn, Writes, Stands, without_tables, leaving, TicksIn, word_of}
use Rattle.session_core.specs.Happenings.{Happening, HasWork}
use Rattle.session_core.proofs.MachineRuns.{Happens, Lasts, BeginsToStay}
use Rattle.session_core.proofs.BegunToStay.{begun_in, StaysOn, HearsOn, greeted, heard_open, never_starts, stays_ack, stays_happens, begun_stays}

abbrev IsOrderlyCourse : Course → Type 0
IsOrderlyCourse c = c.teaching ≡ true → all_quiet c.shares ≡ false

abbrev IsOrderly : Phase → Type 0
IsOrderly (phases.New hello c) = IsOrderlyCourse c
IsOrderly (phases.Hello greeter bytes c) = IsOrderlyCourse c
IsOrderly (phases.Open c) = IsOrderlyCourse c
IsOrderly phases.Ended = Unit {0}

at_phase : (e : SessionState) (x : SessionState) → e ≡ x → IsOrderly x.phase → IsOrderly e.phase
at_phase e x is orderly = subst (λ (y : SessionState). IsOrderly y.phase) (sym is) orderly

-- bytes leave the teaching and the tables as they were
orderly_heard : (c : Course) (phase : Phase) → IsOrderlyCourse c → HearsOn c phase → IsOrderly phase
orderly_heard c (phases.New hello d) busy hears = absurd hears
orderly_heard c (phases.Hello greeter bytes d) busy hears = subst IsOrderlyCourse (sym hears) busy
orderly_heard c (phases.Open d) busy hears = λ so. ap all_quiet hears.2 ∙ busy (sym hears.1 ∙ so)
orderly_heard c phases.Ended busy hears = tt

-- ---- changes of the tables

out_one : (b flag : Bool) (s : Share) → (cond b (record { table = s.table; out = flag; quiet = s.quiet }) s).quiet ≡ s.quiet
out_one true flag s = refl
out_one false flag s = refl

quiet_out_set : (table : ℕ) (flag : Bool) (ss : List Share) → all_quiet (out_set table flag ss) ≡ all_quiet ss
quiet_out_set table flag [] = refl
quiet_out_set table flag (s ∷ ss) = rw (out_one (s.table == table) flag s, quiet_out_set table flag ss) refl

orderly_out_set : (c : Course) (table : ℕ) (flag : Bool) → IsOrderlyCourse c → IsOrderlyCourse (record c { shares = out_set table flag c.shares })
orderly_out_set c table flag busy = λ so. quiet_out_set table flag c.shares ∙ busy so

finished_orderly : (b : Bool) (c : Course) → (c.teaching && all_quiet c.shares) ≡ b → IsOrderlyCourse (finished_if b c).1
finished_orderly true c is = λ so. absurd (false≢true so)
finished_orderly false c is = λ so. subst (λ (x : Bool). (x && all_quiet c.shares) ≡ false) so is

finishing_orderly : (c : Course) → IsOrderlyCourse (finishing c).1
finishing_orderly c = finished_orderly _ c refl

-- ---- events

orderly_new : (s : SessionState) (hello : Hello) (c : Course) (event : Event) (acts : List Action) (e : SessionState) → IsOrderlyCourse c → GoesNew s hello c event acts e → IsOrderly e.phase
orderly_new s hello c events.Opened acts e busy (is, ends) = at_phase e _ ends busy
orderly_new s hello c events.Turn acts e busy (is, ends) = at_phase e _ ends busy
orderly_new s hello c events.Tick acts e busy (is, ends) = at_phase e _ ends busy
orderly_new s hello c events.Ask acts e busy (is, ends) = at_phase e _ ends busy
orderly_new s hello c events.CaughtUp acts e busy (is, ends) = at_phase e _ ends busy
orderly_new s hello c events.End acts e busy (is, ends) = at_phase e _ ends tt
orderly_new s hello c events.ReadFault acts e busy (is, ends) = at_phase e _ ends tt
orderly_new s hello c events.WriteFault acts e busy (is, ends) = at_phase e _ ends tt
orderly_new s hello c (events.Bytes bytes) acts e busy goes = absurd goes
orderly_new s hello c (events.Copied table batch) acts e busy goes = absurd goes
orderly_new s hello c (events.Nothing table) acts e busy goes = absurd goes
orderly_new s hello c (events.Written known) acts e busy goes = absurd goes
orderly_new s hello c (events.Settled table settled) acts e busy goes = absurd goes
orderly_new s hello c (events.Refused table) acts e busy goes = absurd goes

orderly_hello : (s : SessionState) (greeter : Greeter) (bytes : List ℕ) (c : Course) (event : Event) (acts : List Action) (e : SessionState) → c.stays ≡ true → IsOrderlyCourse c → GoesHello s greeter bytes c event acts e → IsOrderly e.phase
orderly_hello s greeter bytes c (events.Bytes piece) acts e stays busy goes = orderly_heard c e.phase busy (greeted s greeter (bytes ++ piece) c acts e stays goes).1
orderly_hello s greeter bytes c events.Turn acts e stays busy (is, ends) = at_phase e _ ends busy
orderly_hello s greeter bytes c events.Tick acts e stays busy (is, ends) = at_phase e _ ends busy
orderly_hello s greeter bytes c events.Ask acts e stays busy (is, ends) = at_phase e _ ends busy
orderly_hello s greeter bytes c events.CaughtUp acts e stays busy (is, ends) = at_phase e _ ends busy
orderly_hello s greeter bytes c events.End acts e stays busy (is, ends) = at_phase e _ ends tt
orderly_hello s greeter bytes c events.ReadFault acts e stays busy (is, ends) = at_phase e _ ends tt
orderly_hello s greeter bytes c events.WriteFault acts e stays busy (is, ends) = at_phase e _ ends tt
orderly_hello s greeter bytes c events.Opened acts e stays busy goes = absurd goes
orderly_hello s greeter bytes c (events.Copied table batch) acts e stays busy goes = absurd goes
orderly_hello s greeter bytes c (events.Nothing table) acts e stays busy goes = absurd goes
orderly_hello s greeter bytes c (events.Written known) acts e stays busy goes = absurd goes
orderly_hello s greeter bytes c (events.Settled table settled) acts e stays busy goes = absurd goes
orderly_hello s greeter bytes c (events.Refused table) acts e stays busy goes = absurd goes

orderly_turns : (asked : Option ℕ) (s : SessionState) (c : Course) (acts : List Action) (e : SessionState) → IsOrderlyCourse c → Turns asked s c acts e → IsOrderly e.phase
orderly_turns None s c acts e orderly (is, ends) = at_phase e _ ends orderly
orderly_turns (Some table) s c acts e orderly (is, ends) = at_phase e _ ends orderly

orderly_finishes : (b : Bool) (s : SessionState) (c : Course) (acts : List Action) (e : SessionState) → all_quiet c.shares ≡ b → FinishesResync b s c acts e → IsOrderly e.phase
orderly_finishes true s c acts e quiet (is, ends) = at_phase e _ ends (λ so. absurd (false≢true so))
orderly_finishes false s c acts e quiet (is, ends) = at_phase e _ ends (λ so. quiet)

orderly_nothing : (b : Bool) (s : SessionState) (c : Course) (table : ℕ) (acts : List Action) (e : SessionState) → IsOrderlyCourse c → HasNothing b s c table acts e → IsOrderly e.phase
orderly_nothing true s c table acts e orderly finishes = orderly_finishes (all_quiet (quiet_set table c.shares)) s (record c { shares = quiet_set table c.shares }) acts e refl finishes
orderly_nothing false s c table acts e orderly (is, ends) = at_phase e _ ends orderly

orderly_starts : (b : Bool) (s : SessionState) (c : Course) (acts : List Action) (e : SessionState) → b ≡ false → IsOrderlyCourse c → StartsPendingResync b s c acts e → IsOrderly e.phase
orderly_starts true s c acts e never orderly starts = absurd (false≢true (sym never))
orderly_starts false s c acts e never orderly (is, ends) = at_phase e _ ends orderly

orderly_settles : (settled : Settled) (s : SessionState) (c : Course) (table : ℕ) (acts : List Action) (e : SessionState) → c.stays ≡ true → IsOrderlyCourse c → Settles settled s c table acts e → IsOrderly e.phase
orderly_settles settles.All s c table acts e stays orderly starts =
    orderly_starts _ s (record c { shares = out_set table false c.shares }) acts e (never_starts c.waits c.stays (any_out (out_set table false c.shares)) stays) (orderly_out_set c table false orderly) starts
orderly_settles settles.Some s c table acts e stays orderly (is, ends) = at_phase e _ ends orderly
orderly_settles settles.Older s c table acts e stays orderly (is, ends) = at_phase e _ ends orderly

orderly_open : (s : SessionState) (c : Course) (event : Event) (acts : List Action) (e : SessionState) → c.stays ≡ true → IsOrderlyCourse c → GoesOpen s c event acts e → IsOrderly e.phase
orderly_open s c events.Turn acts e stays orderly (due, turns) = orderly_turns (table_to_ask c) s c acts e orderly turns
orderly_open s c events.Tick acts e stays orderly (due, (is, ends)) = at_phase e _ ends orderly
orderly_open s c events.Ask acts e stays orderly (due, (is, ends)) = at_phase e _ ends orderly
orderly_open s c events.CaughtUp acts e stays orderly (due, (is, ends)) = at_phase e _ ends orderly
orderly_open s c (events.Bytes bytes) acts e stays orderly (due, receives) = orderly_heard c e.phase orderly (heard_open s c bytes acts e stays receives).1
orderly_open s c (events.Copied table batch) acts e stays orderly (mid, answered, (is, ends)) =
    at_phase e _ ends (orderly_out_set mid table true (subst IsOrderlyCourse (sym answered.1) orderly))
orderly_open s c (events.Nothing table) acts e stays orderly (mid, answered, nothing) =
    orderly_nothing mid.teaching s mid table acts e (subst IsOrderlyCourse (sym answered.1) orderly) nothing
orderly_open s c (events.Written known) acts e stays orderly (mid, answered, is, ends) = at_phase e _ ends (subst IsOrderlyCourse (sym answered.1) orderly)
orderly_open s c (events.Settled table settled) acts e stays orderly (mid, answered, settles) =
    orderly_settles settled s mid table acts e (ap (λ (x : Course). x.stays) answered.1 ∙ stays) (subst IsOrderlyCourse (sym answered.1) orderly) settles
orderly_open s c (events.Refused table) acts e stays orderly (mid, answered, is, ends) = at_phase e _ ends tt
orderly_open s c events.End acts e stays orderly (is, ends) = at_phase e _ ends tt
orderly_open s c events.ReadFault acts e stays orderly (is, ends) = at_phase e _ ends tt
orderly_open s c events.WriteFault acts e stays orderly (is, ends) = at_phase e _ ends tt
orderly_open s c events.Opened acts e stays orderly goes = absurd goes

orderly_in : (phase : Phase) (s : SessionState) (event : Event) (acts : List Action) (e : SessionState) → StaysOn phase → IsOrderly phase → GoesIn phase s event acts e → IsOrderly e.phase
orderly_in (phases.New hello c) s event acts e stays orderly goes = orderly_new s hello c event acts e orderly goes
orderly_in (phases.Hello greeter bytes c) s event acts e stays orderly goes = orderly_hello s greeter bytes c event acts e stays orderly goes
orderly_in (phases.Open c) s event acts e stays orderly goes = orderly_open s c event acts e stays orderly goes
orderly_in phases.Ended s event acts e stays orderly goes = absurd goes

-- ---- each step

orderly_does : (task : Task) (s e : StandingState) (c : Course) (now : ℕ) (acts : List Action) → StaysOn s.session.phase → IsOrderly s.session.phase → Does task s c now acts e → IsOrderly e.session.phase
orderly_does tasks.Copy s e c now acts stays orderly (goes, pace) = orderly_in s.session.phase s.session events.Turn acts e.session stays orderly goes
orderly_does tasks.Rest s e c now acts stays orderly (due, is, same) = subst (λ (x : StandingState). IsOrderly x.session.phase) (sym same) orderly
orderly_does tasks.Begin s e c now acts stays orderly (due, is, session, pace) = at_phase e.session _ session (finishing_orderly (teaching_anew c))

orderly_turn : (phase : Phase) (s e : StandingState) (now : ℕ) (acts : List Action) → StaysOn s.session.phase → IsOrderly s.session.phase → TakesTurn phase s now acts e → IsOrderly e.session.phase
orderly_turn (phases.Open c) s e now acts stays orderly does = orderly_does (task_at now s.pace c) s e c now acts stays orderly does
orderly_turn (phases.New hello c) s e now acts stays orderly (goes, pace) = orderly_in s.session.phase s.session events.Turn acts e.session stays orderly goes
orderly_turn (phases.Hello greeter bytes c) s e now acts stays orderly (goes, pace) = orderly_in s.session.phase s.session events.Turn acts e.session stays orderly goes
orderly_turn phases.Ended s e now acts stays orderly (goes, pace) = orderly_in s.session.phase s.session events.Turn acts e.session stays orderly goes

orderly_passed : (b : Bool) (c : Course) (table number : ℕ) → IsOrderlyCourse c → IsOrderlyCourse (acknowledged b c table number).1
orderly_passed true c table number orderly = orderly
orderly_passed false c table number orderly = orderly

orderly_ack : (c : Course) (ack : Option (ℕ × ℕ)) → IsOrderlyCourse c → IsOrderlyCourse (ack_received c ack).1
orderly_ack c (Some (table, number)) orderly = orderly_passed (is_out table c.shares) c table number orderly
orderly_ack c None orderly = orderly

orderly_writes : (phase : Phase) (s e : StandingState) (now : ℕ) (known : KnownState) (acts : List Action) → StaysOn phase → IsOrderly phase → Writes phase s now known acts e → IsOrderly e.session.phase
orderly_writes (phases.Open c) s e now known acts stays orderly (goes, is, pace) =
    orderly_open (going s.session (ack_received c (inferred c.asked s.pace.progress)).1) (ack_received c (inferred c.asked s.pace.progress)).1 (events.Written known) [] e.session (stays_ack c (inferred c.asked s.pace.progress) stays) (orderly_ack c (inferred c.asked s.pace.progress) orderly) goes
orderly_writes (phases.New hello c) s e now known acts stays orderly writes = absurd writes
orderly_writes (phases.Hello greeter bytes c) s e now known acts stays orderly writes = absurd writes
orderly_writes phases.Ended s e now known acts stays orderly writes = absurd writes

orderly_leaving : (left : List ℕ) (c : Course) → IsOrderlyCourse c → IsOrderlyCourse (leaving left c).1
orderly_leaving [] c orderly = orderly
orderly_leaving (table ∷ tables) c orderly = finishing_orderly (without_tables (table ∷ tables) c)

orderly_ticks : (silent : Bool) (phase : Phase) (s e : StandingState) (now : ℕ) (left : List ℕ) (acts : List Action) → IsOrderly phase → IsOrderly s.session.phase → TicksIn silent phase s now left acts e → IsOrderly e.session.phase
orderly_ticks true phase s e now left acts here orderly (leaves, is, session, pace) = at_phase e.session _ session tt
orderly_ticks false (phases.Open c) s e now left acts here orderly (leaves, is, session, pace) = at_phase e.session _ session (orderly_leaving left c here)
orderly_ticks false (phases.New hello c) s e now left acts here orderly (leaves, is, same) = subst (λ (x : StandingState). IsOrderly x.session.phase) (sym same) orderly
orderly_ticks false (phases.Hello greeter bytes c) s e now left acts here orderly (leaves, is, same) = subst (λ (x : StandingState). IsOrderly x.session.phase) (sym same) orderly
orderly_ticks false phases.Ended s e now left acts here orderly (leaves, is, same) = subst (λ (x : StandingState). IsOrderly x.session.phase) (sym same) orderly

orderly_stands : (event : Event) (s e : StandingState) (now : ℕ) (acts : List Action) → StaysOn s.session.phase → IsOrderly s.session.phase → Stands s now event acts e → IsOrderly e.session.phase
orderly_stands (events.Bytes bytes) s e now acts stays orderly (goes, pace) = orderly_in s.session.phase s.session (events.Bytes bytes) acts e.session stays orderly goes
orderly_stands events.Turn s e now acts stays orderly turns = orderly_turn s.session.phase s e now acts stays orderly turns
orderly_stands (events.Copied table batch) s e now acts stays orderly (goes, pace) = orderly_in s.session.phase s.session (events.Copied table batch) acts e.session stays orderly goes
orderly_stands (events.Written known) s e now acts stays orderly writes = orderly_writes s.session.phase s e now known acts stays orderly writes
orderly_stands (events.Refused table) s e now acts stays orderly (goes, pace) = orderly_in s.session.phase s.session _ acts e.session stays orderly goes
orderly_stands events.Opened s e now acts stays orderly (goes, pace) = orderly_in s.session.phase s.session events.Opened acts e.session stays orderly goes
orderly_stands events.Ask s e now acts stays orderly (goes, pace) = orderly_in s.session.phase s.session events.Ask acts e.session stays orderly goes
orderly_stands events.CaughtUp s e now acts stays orderly (goes, pace) = orderly_in s.session.phase s.session (word_of (has_left s.pace.progress)) acts e.session stays orderly goes
orderly_stands events.Tick s e now acts stays orderly (asked, (left, rest, ticks, is)) = orderly_ticks _ s.session.phase s e now left rest orderly orderly ticks
orderly_stands events.End s e now acts stays orderly (goes, pace) = orderly_in s.session.phase s.session events.End acts e.session stays orderly goes
orderly_stands events.ReadFault s e now acts stays orderly (goes, pace) = orderly_in s.session.phase s.session events.ReadFault acts e.session stays orderly goes
orderly_stands events.WriteFault s e now acts stays orderly (goes, pace) = orderly_in s.session.phase s.session events.WriteFault acts e.session stays orderly goes
orderly_stands (events.Nothing table) s e now acts stays orderly (goes, pace) = orderly_in s.session.phase s.session (events.Nothing table) acts e.session stays orderly goes
orderly_stands (events.Settled table settled) s e now acts stays orderly (goes, pace) = orderly_in s.session.phase s.session (events.Settled table settled) acts e.session stays orderly goes

orderly_happens : (one : Happening) (s e : StandingState) → StaysOn s.session.phase → IsOrderly s.session.phase → Happens s one e → IsOrderly e.session.phase
orderly_happens one s e stays orderly happens = orderly_stands one.event s e one.now one.acts stays orderly happens

-- ---- runs

orderly_lasts : (steps : List Happening) (s e : StandingState) → StaysOn s.session.phase → IsOrderly s.session.phase → Lasts s steps e → IsOrderly e.session.phase
orderly_lasts [] s e stays orderly here = subst (λ (x : StandingState). IsOrderly x.session.phase) (sym here) orderly
orderly_lasts (one ∷ steps) s e stays orderly (mid, happens, lasts) = orderly_lasts steps mid e (stays_happens one s mid stays happens) (orderly_happens one s mid stays orderly happens) lasts

begun_orderly : (roster : List Definition) (begun : StandingState) → BeginsToStay roster begun → IsOrderly begun.session.phase
begun_orderly roster begun begins = begun_in IsOrderly roster begun ((λ hello up_to_date so. absurd (false≢true so)), (λ own peers up_to_date so. absurd (false≢true so))) begins

work_in : (phase : Phase) → IsOrderly phase → HasWork phase
work_in (phases.New hello c) orderly = tt
work_in (phases.Hello greeter bytes c) orderly = tt
work_in (phases.Open c) orderly = orderly
work_in phases.Ended orderly = tt

pub has_work : (roster : List Definition) (begun s : StandingState) (steps : List Happening) → BeginsToStay roster begun → Lasts begun steps s → HasWork s.session.phase
has_work roster begun s steps begins lasts = work_in s.session.phase (orderly_lasts steps begun s (begun_stays roster begun begins) (begun_orderly roster begun begins) lasts)
