-- Every event that may come to a session that stays has a step, and so does every tick.
use Rattle.std.proofs.Common.{◌≡◌, ℕ, Bool, true, false, ◌||◌, List, [], ◌∷◌, ◌++◌, Option, Some, None, refl, sym, ◌∙◌, subst}
use Rattle.std.specs.List.{list_any}
use Rattle.std.proofs.lemmas.Bool.{false≢true}
use Rattle.known_state.specs.Known.{KnownState}
use Rattle.peers_msg.specs.Integers.{IsBytes}
use Rattle.session_core.specs.declared.action.Action.{Action}
use Rattle.session_core.specs.declared.action.Action.TheVariants as actions
use Rattle.session_core.specs.declared.due.Due.{Due}
use Rattle.session_core.specs.declared.due.Due.TheVariants as dues
use Rattle.session_core.specs.declared.event.Event.{Event}
use Rattle.session_core.specs.declared.event.Event.TheVariants as events
use Rattle.session_core.specs.declared.pace.Task.{Task}
use Rattle.session_core.specs.declared.pace.Task.TheVariants as tasks
use Rattle.session_core.specs.Phases.{Phase}
use Rattle.session_core.specs.Phases as phases
use Rattle.session_core.specs.Shares.{is_out}
use Rattle.session_core.specs.Courses.{Course, teaching_anew, acknowledged, ack_received, is_due, none_due}
use Rattle.session_core.specs.Sessions.{SessionState, GoesOpen, going, ended, is_asked}
use Rattle.session_core.specs.Runs.{HoldsBytes, BringsBytes}
use Rattle.session_core.specs.Paces.{has_passed, heartbeat_time, silence_time, renewed, inferred, is_ahead, noted, copied_in, last_number, tables_to_leave, left_in, has_left}
use Rattle.session_core.specs.Standing.{StandingState, is_send, paced, HandsOn, finished_if, finishing, begun_resync, Does, task_at, TakesTurn, Writes, answer_of_refusal, Stands, without_tables, leaving, heartbeats, forgetting, any_left, word_of, reopening, TicksIn}
use Rattle.session_core.proofs.BytesStay.{step_holds}
use Rattle.session_core.proofs.SomeStep.{some_step}
use Rattle.session_core.proofs.StandingOnce.{asked_refusal}
use Rattle.session_core.proofs.TickGives.{asked_word}

-- ---- the session holds only bytes

holds_at : (e x : SessionState) → e ≡ x → HoldsBytes x.phase → HoldsBytes e.phase
holds_at e x is holds = subst (λ (y : SessionState). HoldsBytes y.phase) (sym is) holds

holds_finished : (b : Bool) (c : Course) → IsBytes c.intake.unread → IsBytes (finished_if b c).1.intake.unread
holds_finished true c holds = holds
holds_finished false c holds = holds

holds_finishing : (c : Course) → IsBytes c.intake.unread → IsBytes (finishing c).1.intake.unread
holds_finishing c holds = holds_finished _ c holds

holds_does : (task : Task) (s e : StandingState) (c : Course) (now : ℕ) (acts : List Action) → s.session.phase ≡ phases.Open c → HoldsBytes s.session.phase → Does task s c now acts e → HoldsBytes e.session.phase
holds_does tasks.Copy s e c now acts stands holds (goes, paces) = step_holds s.session e.session events.Turn acts holds tt goes
holds_does tasks.Rest s e c now acts stands holds (due, is, same) = subst (λ (x : StandingState). HoldsBytes x.session.phase) (sym same) holds
holds_does tasks.Begin s e c now acts stands holds (due, is, session, paces) = holds_at e.session _ session (holds_finishing (teaching_anew c) (subst HoldsBytes stands holds))

holds_turn : (phase : Phase) (s e : StandingState) (now : ℕ) (acts : List Action) → s.session.phase ≡ phase → HoldsBytes s.session.phase → TakesTurn phase s now acts e → HoldsBytes e.session.phase
holds_turn (phases.Open c) s e now acts stands holds does = holds_does (task_at now s.pace c) s e c now acts stands holds does
holds_turn (phases.New hello c) s e now acts stands holds (goes, paces) = step_holds s.session e.session events.Turn acts holds tt goes
holds_turn (phases.Hello greeter bytes c) s e now acts stands holds (goes, paces) = step_holds s.session e.session events.Turn acts holds tt goes
holds_turn phases.Ended s e now acts stands holds (goes, paces) = step_holds s.session e.session events.Turn acts holds tt goes

holds_passed : (b : Bool) (c : Course) (table number : ℕ) → IsBytes c.intake.unread → IsBytes (acknowledged b c table number).1.intake.unread
holds_passed true c table number holds = holds
holds_passed false c table number holds = holds

holds_ack : (c : Course) (ack : Option (ℕ × ℕ)) → IsBytes c.intake.unread → IsBytes (ack_received c ack).1.intake.unread
holds_ack c (Some (table, number)) holds = holds_passed (is_out table c.shares) c table number holds
holds_ack c None holds = holds

holds_writes : (phase : Phase) (s e : StandingState) (now : ℕ) (known : KnownState) (acts : List Action) → HoldsBytes phase → Writes phase s now known acts e → HoldsBytes e.session.phase
holds_writes (phases.Open c) s e now known acts holds (goes, is, paces) =
    step_holds (going s.session (ack_received c (inferred c.asked s.pace.progress)).1) e.session (events.Written known) [] (holds_ack c (inferred c.asked s.pace.progress) holds) tt goes
holds_writes (phases.New hello c) s e now known acts holds writes = absurd writes
holds_writes (phases.Hello greeter bytes c) s e now known acts holds writes = absurd writes
holds_writes phases.Ended s e now known acts holds writes = absurd writes

brings_word : (b : Bool) → BringsBytes (word_of b)
brings_word true = tt
brings_word false = tt

brings_refusal : (b : Bool) (table : ℕ) → BringsBytes (answer_of_refusal b table)
brings_refusal true table = tt
brings_refusal false table = tt

holds_leaving : (left : List ℕ) (c : Course) → IsBytes c.intake.unread → IsBytes (leaving left c).1.intake.unread
holds_leaving [] c holds = holds
holds_leaving (table ∷ tables) c holds = holds_finishing (without_tables (table ∷ tables) c) holds

holds_still : (s e : StandingState) → e ≡ s → HoldsBytes s.session.phase → HoldsBytes e.session.phase
holds_still s e same holds = subst (λ (x : StandingState). HoldsBytes x.session.phase) (sym same) holds

holds_ticks : (silent : Bool) (phase : Phase) (s e : StandingState) (now : ℕ) (left : List ℕ) (acts : List Action) → s.session.phase ≡ phase → HoldsBytes s.session.phase → TicksIn silent phase s now left acts e → HoldsBytes e.session.phase
holds_ticks true phase s e now left acts stands holds (leaves, is, session, paces) = holds_at e.session _ session tt
holds_ticks false (phases.Open c) s e now left acts stands holds (leaves, is, session, paces) = holds_at e.session _ session (holds_leaving left c (subst HoldsBytes stands holds))
holds_ticks false (phases.New hello c) s e now left acts stands holds (leaves, is, same) = holds_still s e same holds
holds_ticks false (phases.Hello greeter bytes c) s e now left acts stands holds (leaves, is, same) = holds_still s e same holds
holds_ticks false phases.Ended s e now left acts stands holds (leaves, is, same) = holds_still s e same holds

pub holds_stands : (event : Event) (s e : StandingState) (now : ℕ) (acts : List Action) → HoldsBytes s.session.phase → BringsBytes event → Stands s now event acts e → HoldsBytes e.session.phase
holds_stands (events.Bytes bytes) s e now acts holds brings (goes, paces) = step_holds s.session e.session (events.Bytes bytes) acts holds brings goes
holds_stands events.Turn s e now acts holds brings turns = holds_turn s.session.phase s e now acts refl holds turns
holds_stands (events.Written known) s e now acts holds brings writes = holds_writes s.session.phase s e now known acts holds writes
holds_stands (events.Refused table) s e now acts holds brings (goes, paces) =
    step_holds s.session e.session (answer_of_refusal (is_ahead table s.pace.progress) table) acts holds (brings_refusal (is_ahead table s.pace.progress) table) goes
holds_stands (events.Copied table batch) s e now acts holds brings (goes, paces) = step_holds s.session e.session (events.Copied table batch) acts holds brings goes
holds_stands events.Opened s e now acts holds brings (goes, paces) = step_holds s.session e.session events.Opened acts holds brings goes
holds_stands events.Ask s e now acts holds brings (goes, paces) = step_holds s.session e.session events.Ask acts holds brings goes
holds_stands events.CaughtUp s e now acts holds brings (goes, paces) = step_holds s.session e.session (word_of (has_left s.pace.progress)) acts holds (brings_word (has_left s.pace.progress)) goes
holds_stands events.Tick s e now acts holds brings (asked, (left, rest, ticks, is)) = holds_ticks _ s.session.phase s e now left rest refl holds ticks
holds_stands events.End s e now acts holds brings (goes, paces) = step_holds s.session e.session events.End acts holds brings goes
holds_stands events.ReadFault s e now acts holds brings (goes, paces) = step_holds s.session e.session events.ReadFault acts holds brings goes
holds_stands events.WriteFault s e now acts holds brings (goes, paces) = step_holds s.session e.session events.WriteFault acts holds brings goes
holds_stands (events.Nothing table) s e now acts holds brings (goes, paces) = step_holds s.session e.session (events.Nothing table) acts holds brings goes
holds_stands (events.Settled table settled) s e now acts holds brings (goes, paces) = step_holds s.session e.session (events.Settled table settled) acts holds brings goes

-- ---- some step

abbrev pub HasStep : StandingState → ℕ → Event → Type 0
HasStep s now event = (acts : List Action) × (e : StandingState) × Stands s now event acts e

some_hands : (event : Event) (s : StandingState) (now : ℕ) → HoldsBytes s.session.phase → BringsBytes event → is_asked s.session.phase event ≡ true → (acts : List Action) × (e : StandingState) × HandsOn s now event acts e
some_hands event s now holds brings asked =
    let one = some_step s.session event holds brings asked in
    (one.0, record { session = one.1; pace = paced s.session.phase now event one.0 s.pace }, (one.2, refl))

none_is_due : (due : List Due) → none_due due ≡ true → due ≡ []
none_is_due [] none = refl
none_is_due (d ∷ ds) none = absurd (false≢true none)

some_does : (task : Task) (s : StandingState) (c : Course) (now : ℕ) → s.session.phase ≡ phases.Open c → HoldsBytes s.session.phase → is_asked s.session.phase events.Turn ≡ true → (acts : List Action) × (e : StandingState) × Does task s c now acts e
some_does tasks.Copy s c now stands holds asked = some_hands events.Turn s now holds tt asked
some_does tasks.Rest s c now stands holds asked = ([], s, (none_is_due c.due (subst (λ (p : Phase). is_asked p events.Turn ≡ true) stands asked), refl, refl))
some_does tasks.Begin s c now stands holds asked = (
  (begun_resync c).0,
  record { session = going s.session (begun_resync c).1; pace = record (paced s.session.phase now events.Turn (begun_resync c).0 s.pace) { reopened = Some now } },
  (none_is_due c.due (subst (λ (p : Phase). is_asked p events.Turn ≡ true) stands asked), refl, refl, refl),
)

some_turn : (phase : Phase) (s : StandingState) (now : ℕ) → s.session.phase ≡ phase → HoldsBytes s.session.phase → is_asked s.session.phase events.Turn ≡ true → (acts : List Action) × (e : StandingState) × TakesTurn phase s now acts e
some_turn (phases.Open c) s now stands holds asked = some_does (task_at now s.pace c) s c now stands holds asked
some_turn (phases.New hello c) s now stands holds asked = some_hands events.Turn s now holds tt asked
some_turn (phases.Hello greeter bytes c) s now stands holds asked = some_hands events.Turn s now holds tt asked
some_turn phases.Ended s now stands holds asked = some_hands events.Turn s now holds tt asked

due_after : (due : List Due) (table : ℕ) → is_due dues.Teach due ≡ true → is_due dues.Teach (due ++ (dues.Ack table ∷ [])) ≡ true
due_after [] table is = absurd (false≢true is)
due_after (d ∷ ds) table is = is

due_then : (b : Bool) (c : Course) (table number : ℕ) → is_due dues.Teach c.due ≡ true → is_due dues.Teach (acknowledged b c table number).1.due ≡ true
due_then true c table number is = due_after c.due table is
due_then false c table number is = is

due_acked : (c : Course) (ack : Option (ℕ × ℕ)) → is_due dues.Teach c.due ≡ true → is_due dues.Teach (ack_received c ack).1.due ≡ true
due_acked c (Some (table, number)) is = due_then (is_out table c.shares) c table number is
due_acked c None is = is

-- what was written asks for nothing
written_again : (s : SessionState) (c : Course) (known : KnownState) (acts : List Action) (e : SessionState) → GoesOpen s c (events.Written known) acts e → GoesOpen s c (events.Written known) [] e
written_again s c known acts e (mid, answered, is, ends) = (mid, answered, refl, ends)

some_writes : (phase : Phase) (s : StandingState) (now : ℕ) (known : KnownState) → HoldsBytes phase → is_asked phase (events.Written known) ≡ true → (acts : List Action) × (e : StandingState) × Writes phase s now known acts e
some_writes (phases.Open c) s now known holds asked =
    let ack : Option (ℕ × ℕ) = inferred c.asked s.pace.progress in
    let one = some_step (going s.session (ack_received c ack).1) (events.Written known) (holds_ack c ack holds) tt (due_acked c ack asked) in (
      (ack_received c ack).0,
      record { session = one.1; pace = paced s.session.phase now (events.Written known) (ack_received c ack).0 s.pace },
      (written_again (going s.session (ack_received c ack).1) (ack_received c ack).1 known one.0 one.1 one.2, refl, refl),
    )
some_writes (phases.New hello c) s now known holds asked = absurd (false≢true asked)
some_writes (phases.Hello greeter bytes c) s now known holds asked = absurd (false≢true asked)
some_writes phases.Ended s now known holds asked = absurd (false≢true asked)

some_tick : (silent : Bool) (phase : Phase) (s : StandingState) (now : ℕ) → (left : List ℕ) × (acts : List Action) × (e : StandingState) × TicksIn silent phase s now left acts e
some_tick true phase s now = ([], actions.Close ∷ [], record { session = ended s.session; pace = s.pace }, (refl, refl, refl, refl))
some_tick false (phases.Open c) s now =
    let left : List ℕ = tables_to_leave now s.pace.progress c.shares in
    let acts : List Action = (leaving left c).0 ++ heartbeats (has_passed heartbeat_time s.pace.sent now) in (
      left,
      acts,
      record { session = going (forgetting left s.session) (leaving left c).1; pace = record s.pace { sent = renewed (list_any is_send acts) now s.pace.sent; progress = left_in left s.pace.progress } },
      (refl, refl, refl, refl),
    )
some_tick false (phases.New hello c) s now = ([], [], s, (refl, refl, refl))
some_tick false (phases.Hello greeter bytes c) s now = ([], [], s, (refl, refl, refl))
some_tick false phases.Ended s now = ([], [], s, (refl, refl, refl))

pub some_ticks : (s : StandingState) (now : ℕ) → is_asked s.session.phase events.Tick ≡ true → HasStep s now events.Tick
some_ticks s now asked =
    let one = some_tick (has_passed silence_time s.pace.heard now) s.session.phase s now in
    (reopening one.0 ++ one.1, one.2, (asked, (one.0, one.1, one.3, refl)))

pub some_event : (event : Event) (s : StandingState) (now : ℕ) → HoldsBytes s.session.phase → BringsBytes event → is_asked s.session.phase event ≡ true → HasStep s now event
some_event (events.Bytes bytes) s now holds brings asked =
    let one = some_step s.session (events.Bytes bytes) holds brings asked in
    (one.0, record { session = one.1; pace = record (paced s.session.phase now (events.Bytes bytes) one.0 s.pace) { progress = noted one.0 s.pace.progress } }, (one.2, refl))
some_event events.Turn s now holds brings asked = some_turn s.session.phase s now refl holds asked
some_event (events.Written known) s now holds brings asked = some_writes s.session.phase s now known holds asked
some_event (events.Refused table) s now holds brings asked =
    let ahead : Bool = is_ahead table s.pace.progress in
    some_hands (answer_of_refusal ahead table) s now holds (brings_refusal ahead table) (asked_refusal s.session.phase ahead table ∙ asked)
some_event (events.Copied table batch) s now holds brings asked =
    let one = some_step s.session (events.Copied table batch) holds brings asked in (
      one.0,
      record { session = one.1; pace = record (paced s.session.phase now (events.Copied table batch) one.0 s.pace) { progress = copied_in table (last_number batch) now s.pace.progress } },
      (one.2, refl),
    )
some_event events.Opened s now holds brings asked = some_hands events.Opened s now holds brings asked
some_event events.Ask s now holds brings asked = some_hands events.Ask s now holds brings asked
some_event events.CaughtUp s now holds brings asked = some_hands (word_of (has_left s.pace.progress)) s now holds (brings_word (has_left s.pace.progress)) (asked_word s.session.phase (has_left s.pace.progress) ∙ asked)
some_event events.Tick s now holds brings asked = some_ticks s now asked
some_event events.End s now holds brings asked = some_hands events.End s now holds brings asked
some_event events.ReadFault s now holds brings asked = some_hands events.ReadFault s now holds brings asked
some_event events.WriteFault s now holds brings asked = some_hands events.WriteFault s now holds brings asked
some_event (events.Nothing table) s now holds brings asked = some_hands (events.Nothing table) s now holds brings asked
some_event (events.Settled table settled) s now holds brings asked = some_hands (events.Settled table settled) s now holds brings asked
