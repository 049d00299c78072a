-- Only a turn copies.
use Rattle.std.proofs.Common.{◌≡◌, ℕ, Bool, true, false, List, [], ◌∷◌, ◌++◌, Option, Some, None, Result, Ok, Err, refl, sym, ap, ◌∙◌}
use Rattle.std.proofs.lemmas.List.Folds.{list_any-append}
use Rattle.std.specs.Prelude.{drop}
use Rattle.std.proofs.lemmas.Bool.{false≢true}
use Rattle.table_types.specs.declared.copies.Settled.{Settled}
use Rattle.table_types.specs.declared.copies.Settled.TheVariants as settles
use Rattle.table_types.specs.declared.version.Version.{Version}
use Rattle.known_state.specs.Known.{KnownState}
use Rattle.peers_hello.specs.declared.hello.Hello.{Hello}
use Rattle.peers_hello.specs.declared.hello.Answer.{Answer}
use Rattle.peers_hello.specs.declared.hello.Answer.TheVariants as answers
use Rattle.peers_hello.specs.declared.status.Status.{Status}
use Rattle.peers_hello.specs.declared.status.Status.TheVariants as statuses
use Rattle.peers_hello.specs.Hellos.{answer_of}
use Rattle.peers_hello.specs.Statuses.{status_of}
use Rattle.session_core.specs.declared.action.Action.{Action}
use Rattle.session_core.specs.declared.action.Action.TheVariants as actions
use Rattle.session_core.specs.declared.event.Event.{Event}
use Rattle.session_core.specs.declared.event.Event.TheVariants as events
use Rattle.session_core.specs.declared.halt.Halt.{Halt}
use Rattle.session_core.specs.declared.halt.Halt.TheVariants as halts
use Rattle.session_core.specs.declared.phase.Greeter.{Greeter}
use Rattle.session_core.specs.declared.phase.Greeter.TheVariants as greeters
use Rattle.session_core.specs.Phases.{Phase}
use Rattle.session_core.specs.Phases as phases
use Rattle.session_core.specs.Shares.{is_out}
use Rattle.session_core.specs.Actions.{sends_control, status_text}
use Rattle.session_core.specs.Courses.{Course, course_fed, acknowledged, ack_received, ReceivesAll, acks_given}
use Rattle.session_core.specs.Sessions.{SessionState, Concludes, ReceivesBytes, IsWelcomed, Connects, Accepts, Greets, GoesIn, GoesNew, GoesHello, GoesOpen, HasNothing, FinishesResync, StartsPendingResync, Settles, first_word, opening, speaking, Goes}
use Rattle.session_core.specs.Runs.{copies, is_copy_of}
use Rattle.session_core.specs.Paces.{inferred, is_ahead, has_left}
use Rattle.session_core.specs.Standing.{StandingState, Writes, answer_of_refusal, word_of, reopening, finished_if, leaving, without_tables, heartbeats, TicksIn, Stands}
use Rattle.session_core.proofs.TickGives.{after_reopening}
use Rattle.session_core.proofs.EndLemmas.{is_plain, plain_append, plain_all, plain_acks, plain_ready, plain_status, plain_reopens, plain_word}

-- ---- bytes

copied_concluded : (t : ℕ) (s : SessionState) (c mid : Course) (result : Result (Unit {0}) Halt) (first gs given : List Action) (e : SessionState) → is_plain t first → ReceivesAll c result gs mid → Concludes s mid result (first ++ gs) given e → copies t given ≡ false
copied_concluded t s c mid (Ok u) first gs given e plain (ts, are, waits) (all, ends) =
    ap (copies t) all ∙ (plain_append t (first ++ gs) (acks_given mid) (plain_append t first gs plain (plain_all t c mid ts gs are)) (plain_acks t mid.intake)).1
copied_concluded t s c mid (Err halts.Failed) first gs given e plain (ts, at_halt, are, halted) (all, ends) =
    ap (copies t) all ∙ (plain_append t (first ++ gs) (actions.Close ∷ []) (plain_append t first gs plain (plain_all t c at_halt ts gs are)) (refl, refl)).1
copied_concluded t s c mid (Err (halts.Fault fault)) first gs given e plain (ts, at_halt, are, halted) (all, ends) =
    ap (copies t) all ∙ (plain_append t (first ++ gs) (actions.Part _ ∷ []) (plain_append t first gs plain (plain_all t c at_halt ts gs are)) (refl, refl)).1
copied_concluded t s c mid (Err halts.Memory) first gs given e plain receives concludes = absurd concludes

copied_receives : (t : ℕ) (s : SessionState) (c : Course) (first given : List Action) (e : SessionState) → is_plain t first → ReceivesBytes s c first given e → copies t given ≡ false
copied_receives t s c first given e plain (result, gs, mid, receives, concludes) = copied_concluded t s c mid result first gs given e plain receives concludes

copied_welcomed : (t : ℕ) (b : Bool) (version : Version) (code : ℕ) (s : SessionState) (c : Course) (rest : List ℕ) (given : List Action) (e : SessionState) → IsWelcomed b version code s c rest given e → copies t given ≡ false
copied_welcomed t true version code s c rest given e receives = copied_receives t (speaking version s) (course_fed c rest) (sends_control (first_word c.stays) ∷ opening version c.shares) given e (plain_ready t (sends_control (first_word c.stays)) version c.shares (plain_word t c.stays)) receives
copied_welcomed t false version code s c rest given e (is, ends) = ap (copies t) is

copied_connects : (t : ℕ) (version : Version) (status : Status) (s : SessionState) (bytes : List ℕ) (c : Course) (given : List Action) (e : SessionState) → Connects version status s bytes c given e → copies t given ≡ false
copied_connects t version statuses.More s bytes c given e (is, ends) = ap (copies t) is
copied_connects t version (statuses.Code code used) s bytes c given e goes = copied_welcomed t _ version code s c _ given e goes
copied_connects t version (statuses.Other used) s bytes c given e (is, ends) = ap (copies t) is

copied_accepts : (t : ℕ) (answer : Answer) (s : SessionState) (greeter : Greeter) (bytes : List ℕ) (c : Course) (given : List Action) (e : SessionState) → Accepts answer s greeter bytes c given e → copies t given ≡ false
copied_accepts t answers.More s greeter bytes c given e (is, ends) = ap (copies t) is
copied_accepts t (answers.Accepted name version used) s greeter bytes c given e goes = copied_receives t (speaking version s) (course_fed c (drop used bytes)) (actions.Send (status_text 200) ∷ opening version c.shares) given e (plain_ready t (actions.Send (status_text 200)) version c.shares (plain_status t 200)) goes
copied_accepts t (answers.Refused code used) s greeter bytes c given e (is, ends) = ap (copies t) is

copied_greets : (t : ℕ) (s : SessionState) (greeter : Greeter) (bytes : List ℕ) (c : Course) (given : List Action) (e : SessionState) → Greets s greeter bytes c given e → copies t given ≡ false
copied_greets t s (greeters.Connects version) bytes c given e goes = copied_connects t version (status_of bytes) s bytes c given e goes
copied_greets t s (greeters.Accepts own peers) bytes c given e goes = copied_accepts t (answer_of own peers bytes) s (greeters.Accepts own peers) bytes c given e goes

pub copied_bytes : (t : ℕ) (phase : Phase) (s : SessionState) (bytes : List ℕ) (given : List Action) (e : SessionState) → GoesIn phase s (events.Bytes bytes) given e → copies t given ≡ false
copied_bytes t (phases.New hello c) s bytes given e goes = absurd goes
copied_bytes t (phases.Hello greeter before c) s bytes given e goes = copied_greets t s greeter (before ++ bytes) c given e goes
copied_bytes t (phases.Open c) s bytes given e (due, receives) = copied_receives t s (course_fed c bytes) [] given e (refl, refl) receives
copied_bytes t phases.Ended s bytes given e goes = absurd goes

-- ---- other events

abbrev IsOther : Event → Type 0
IsOther (events.Bytes bytes) = ⊥
IsOther events.Turn = ⊥
IsOther event = Unit {0}

copied_new : (t : ℕ) (s : SessionState) (hello : Hello) (c : Course) (event : Event) (acts : List Action) (e : SessionState) → GoesNew s hello c event acts e → copies t acts ≡ false
copied_new t s hello c events.Opened acts e (is, ends) = ap (copies t) is
copied_new t s hello c events.Turn acts e (is, ends) = ap (copies t) is
copied_new t s hello c events.Tick acts e (is, ends) = ap (copies t) is
copied_new t s hello c events.Ask acts e (is, ends) = ap (copies t) is
copied_new t s hello c events.CaughtUp acts e (is, ends) = ap (copies t) is
copied_new t s hello c events.End acts e (is, ends) = ap (copies t) is
copied_new t s hello c events.ReadFault acts e (is, ends) = ap (copies t) is
copied_new t s hello c events.WriteFault acts e (is, ends) = ap (copies t) is
copied_new t s hello c (events.Bytes bytes) acts e goes = absurd goes
copied_new t s hello c (events.Copied table batch) acts e goes = absurd goes
copied_new t s hello c (events.Nothing table) acts e goes = absurd goes
copied_new t s hello c (events.Written known) acts e goes = absurd goes
copied_new t s hello c (events.Settled table settled) acts e goes = absurd goes
copied_new t s hello c (events.Refused table) acts e goes = absurd goes

copied_hello : (t : ℕ) (s : SessionState) (greeter : Greeter) (bytes : List ℕ) (c : Course) (event : Event) (acts : List Action) (e : SessionState) → IsOther event → GoesHello s greeter bytes c event acts e → copies t acts ≡ false
copied_hello t s greeter bytes c (events.Bytes piece) acts e other goes = absurd other
copied_hello t s greeter bytes c events.Turn acts e other goes = absurd other
copied_hello t s greeter bytes c events.End acts e other (is, ends) = ap (copies t) is
copied_hello t s greeter bytes c events.ReadFault acts e other (is, ends) = ap (copies t) is
copied_hello t s greeter bytes c events.WriteFault acts e other (is, ends) = ap (copies t) is
copied_hello t s greeter bytes c events.Tick acts e other (is, ends) = ap (copies t) is
copied_hello t s greeter bytes c events.Ask acts e other (is, ends) = ap (copies t) is
copied_hello t s greeter bytes c events.CaughtUp acts e other (is, ends) = ap (copies t) is
copied_hello t s greeter bytes c events.Opened acts e other goes = absurd goes
copied_hello t s greeter bytes c (events.Copied table batch) acts e other goes = absurd goes
copied_hello t s greeter bytes c (events.Nothing table) acts e other goes = absurd goes
copied_hello t s greeter bytes c (events.Written known) acts e other goes = absurd goes
copied_hello t s greeter bytes c (events.Settled table settled) acts e other goes = absurd goes
copied_hello t s greeter bytes c (events.Refused table) acts e other goes = absurd goes

copied_finishes : (t : ℕ) (b : Bool) (s : SessionState) (c : Course) (acts : List Action) (e : SessionState) → FinishesResync b s c acts e → copies t acts ≡ false
copied_finishes t true s c acts e (is, ends) = ap (copies t) is
copied_finishes t false s c acts e (is, ends) = ap (copies t) is

copied_nothing : (t : ℕ) (b : Bool) (s : SessionState) (c : Course) (table : ℕ) (acts : List Action) (e : SessionState) → HasNothing b s c table acts e → copies t acts ≡ false
copied_nothing t true s c table acts e finishes = copied_finishes t _ s _ acts e finishes
copied_nothing t false s c table acts e (is, ends) = ap (copies t) is

copied_starts : (t : ℕ) (b : Bool) (s : SessionState) (c : Course) (acts : List Action) (e : SessionState) → StartsPendingResync b s c acts e → copies t acts ≡ false
copied_starts t true s c acts e (is, ends) = ap (copies t) is ∙ (plain_reopens t c.shares).1
copied_starts t false s c acts e (is, ends) = ap (copies t) is

copied_settles : (t : ℕ) (settled : Settled) (s : SessionState) (c : Course) (table : ℕ) (acts : List Action) (e : SessionState) → Settles settled s c table acts e → copies t acts ≡ false
copied_settles t settles.All s c table acts e starts = copied_starts t _ s _ acts e starts
copied_settles t settles.Some s c table acts e (is, ends) = ap (copies t) is
copied_settles t settles.Older s c table acts e (is, ends) = ap (copies t) is

copied_open : (t : ℕ) (s : SessionState) (c : Course) (event : Event) (acts : List Action) (e : SessionState) → IsOther event → GoesOpen s c event acts e → copies t acts ≡ false
copied_open t s c events.Turn acts e other goes = absurd other
copied_open t s c events.Tick acts e other (due, (is, ends)) = ap (copies t) is
copied_open t s c events.Ask acts e other (due, (is, ends)) = ap (copies t) is
copied_open t s c events.CaughtUp acts e other (due, (is, ends)) = ap (copies t) is
copied_open t s c (events.Bytes bytes) acts e other goes = absurd other
copied_open t s c (events.Copied table batch) acts e other (mid, answered, (is, ends)) = ap (copies t) is
copied_open t s c (events.Nothing table) acts e other (mid, answered, nothing) = copied_nothing t mid.teaching s mid table acts e nothing
copied_open t s c (events.Written known) acts e other (mid, answered, is, ends) = ap (copies t) is
copied_open t s c (events.Settled table settled) acts e other (mid, answered, settles) = copied_settles t settled s mid table acts e settles
copied_open t s c (events.Refused table) acts e other (mid, answered, is, ends) = ap (copies t) is
copied_open t s c events.End acts e other (is, ends) = ap (copies t) is
copied_open t s c events.ReadFault acts e other (is, ends) = ap (copies t) is
copied_open t s c events.WriteFault acts e other (is, ends) = ap (copies t) is
copied_open t s c events.Opened acts e other goes = absurd goes

copied_in : (t : ℕ) (phase : Phase) (s : SessionState) (event : Event) (acts : List Action) (e : SessionState) → IsOther event → GoesIn phase s event acts e → copies t acts ≡ false
copied_in t (phases.New hello c) s event acts e other goes = copied_new t s hello c event acts e goes
copied_in t (phases.Hello greeter bytes c) s event acts e other goes = copied_hello t s greeter bytes c event acts e other goes
copied_in t (phases.Open c) s event acts e other goes = copied_open t s c event acts e other goes
copied_in t phases.Ended s event acts e other goes = absurd goes

-- ---- the law

copied_passed : (t : ℕ) (b : Bool) (c : Course) (table number : ℕ) → copies t (acknowledged b c table number).0 ≡ false
copied_passed t true c table number = refl
copied_passed t false c table number = refl

copied_ack : (t : ℕ) (c : Course) (ack : Option (ℕ × ℕ)) → copies t (ack_received c ack).0 ≡ false
copied_ack t c (Some (table, number)) = copied_passed t (is_out table c.shares) c table number
copied_ack t c None = refl

copied_writes : (t : ℕ) (phase : Phase) (s e : StandingState) (now : ℕ) (known : KnownState) (acts : List Action) → Writes phase s now known acts e → copies t acts ≡ false
copied_writes t (phases.Open c) s e now known acts (goes, is, paces) = ap (copies t) is ∙ copied_ack t c (inferred c.asked s.pace.progress)
copied_writes t (phases.New hello c) s e now known acts writes = absurd writes
copied_writes t (phases.Hello greeter bytes c) s e now known acts writes = absurd writes
copied_writes t phases.Ended s e now known acts writes = absurd writes

other_refusal : (b : Bool) (table : ℕ) → IsOther (answer_of_refusal b table)
other_refusal true table = tt
other_refusal false table = tt

other_word : (b : Bool) → IsOther (word_of b)
other_word true = tt
other_word false = tt

copied_end : (t : ℕ) (b : Bool) (c : Course) → copies t (finished_if b c).0 ≡ false
copied_end t true c = refl
copied_end t false c = refl

copied_leaving : (t : ℕ) (left : List ℕ) (c : Course) → copies t (leaving left c).0 ≡ false
copied_leaving t [] c = refl
copied_leaving t (table ∷ tables) c = copied_end t _ (without_tables (table ∷ tables) c)

copied_beats : (t : ℕ) (b : Bool) → copies t (heartbeats b) ≡ false
copied_beats t true = refl
copied_beats t false = refl

copied_rest : (t : ℕ) (silent : Bool) (phase : Phase) (s e : StandingState) (now : ℕ) (left : List ℕ) (rest : List Action) → TicksIn silent phase s now left rest e → copies t rest ≡ false
copied_rest t true phase s e now left rest (leaves, is, session, paces) = ap (copies t) is
copied_rest t false (phases.Open c) s e now left rest (leaves, is, session, paces) =
    ap (copies t) is ∙ (list_any-append (is_copy_of t) (leaving left c).0 (heartbeats _) ∙ rw (copied_leaving t left c) (copied_beats t _))
copied_rest t false (phases.New hello c) s e now left rest (leaves, is, same) = ap (copies t) is
copied_rest t false (phases.Hello greeter bytes c) s e now left rest (leaves, is, same) = ap (copies t) is
copied_rest t false phases.Ended s e now left rest (leaves, is, same) = ap (copies t) is

-- no tick copies
pub copied_ticks : (t : ℕ) (silent : Bool) (phase : Phase) (s e : StandingState) (now : ℕ) (left : List ℕ) (rest : List Action) → TicksIn silent phase s now left rest e → copies t (reopening left ++ rest) ≡ false
copied_ticks t silent phase s e now left rest ticks = after_reopening (is_copy_of t) (λ table. refl) left rest ∙ copied_rest t silent phase s e now left rest ticks

clash : (event : Event) (t : ℕ) (acts : List Action) → copies t acts ≡ true → copies t acts ≡ false → event ≡ events.Turn
clash event t acts copied none = absurd (false≢true (sym none ∙ copied))

pub only_turns_copy : (s e : StandingState) (now : ℕ) (event : Event) (acts : List Action) (table : ℕ) → Stands s now event acts e → copies table acts ≡ true → event ≡ events.Turn
only_turns_copy s e now events.Turn acts table stands copied = refl
only_turns_copy s e now (events.Bytes bytes) acts table (goes, paces) copied = clash (events.Bytes bytes) table acts copied (copied_bytes table s.session.phase s.session bytes acts e.session goes)
only_turns_copy s e now (events.Written known) acts table writes copied = clash (events.Written known) table acts copied (copied_writes table s.session.phase s e now known acts writes)
only_turns_copy s e now (events.Refused other) acts table (goes, paces) copied =
    clash (events.Refused other) table acts copied (copied_in table s.session.phase s.session _ acts e.session (other_refusal (is_ahead other s.pace.progress) other) goes)
only_turns_copy s e now (events.Copied other batch) acts table (goes, paces) copied = clash (events.Copied other batch) table acts copied (copied_in table s.session.phase s.session (events.Copied other batch) acts e.session tt goes)
only_turns_copy s e now events.Opened acts table (goes, paces) copied = clash events.Opened table acts copied (copied_in table s.session.phase s.session events.Opened acts e.session tt goes)
only_turns_copy s e now events.Ask acts table (goes, paces) copied = clash events.Ask table acts copied (copied_in table s.session.phase s.session events.Ask acts e.session tt goes)
only_turns_copy s e now events.CaughtUp acts table (goes, paces) copied = clash events.CaughtUp table acts copied (copied_in table s.session.phase s.session _ acts e.session (other_word (has_left s.pace.progress)) goes)
only_turns_copy s e now events.Tick acts table (asked, (left, rest, ticks, is)) copied = clash events.Tick table acts copied (ap (copies table) is ∙ copied_ticks table _ s.session.phase s e now left rest ticks)
only_turns_copy s e now events.End acts table (goes, paces) copied = clash events.End table acts copied (copied_in table s.session.phase s.session events.End acts e.session tt goes)
only_turns_copy s e now events.ReadFault acts table (goes, paces) copied = clash events.ReadFault table acts copied (copied_in table s.session.phase s.session events.ReadFault acts e.session tt goes)
only_turns_copy s e now events.WriteFault acts table (goes, paces) copied = clash events.WriteFault table acts copied (copied_in table s.session.phase s.session events.WriteFault acts e.session tt goes)
only_turns_copy s e now (events.Nothing other) acts table (goes, paces) copied = clash (events.Nothing other) table acts copied (copied_in table s.session.phase s.session (events.Nothing other) acts e.session tt goes)
only_turns_copy s e now (events.Settled other settled) acts table (goes, paces) copied = clash (events.Settled other settled) table acts copied (copied_in table s.session.phase s.session (events.Settled other settled) acts e.session tt goes)

-- so it is in a plain session
pub goes_copy : (s e : SessionState) (event : Event) (acts : List Action) (table : ℕ) → Goes s event acts e → copies table acts ≡ true → event ≡ events.Turn
goes_copy s e events.Turn acts table goes copied = refl
goes_copy s e (events.Bytes bytes) acts table goes copied = clash (events.Bytes bytes) table acts copied (copied_bytes table s.phase s bytes acts e goes)
goes_copy s e events.Opened acts table goes copied = clash events.Opened table acts copied (copied_in table s.phase s events.Opened acts e tt goes)
goes_copy s e events.End acts table goes copied = clash events.End table acts copied (copied_in table s.phase s events.End acts e tt goes)
goes_copy s e events.ReadFault acts table goes copied = clash events.ReadFault table acts copied (copied_in table s.phase s events.ReadFault acts e tt goes)
goes_copy s e events.WriteFault acts table goes copied = clash events.WriteFault table acts copied (copied_in table s.phase s events.WriteFault acts e tt goes)
goes_copy s e events.Tick acts table goes copied = clash events.Tick table acts copied (copied_in table s.phase s events.Tick acts e tt goes)
goes_copy s e events.Ask acts table goes copied = clash events.Ask table acts copied (copied_in table s.phase s events.Ask acts e tt goes)
goes_copy s e events.CaughtUp acts table goes copied = clash events.CaughtUp table acts copied (copied_in table s.phase s events.CaughtUp acts e tt goes)
goes_copy s e (events.Copied other batch) acts table goes copied = clash (events.Copied other batch) table acts copied (copied_in table s.phase s (events.Copied other batch) acts e tt goes)
goes_copy s e (events.Nothing other) acts table goes copied = clash (events.Nothing other) table acts copied (copied_in table s.phase s (events.Nothing other) acts e tt goes)
goes_copy s e (events.Written known) acts table goes copied = clash (events.Written known) table acts copied (copied_in table s.phase s (events.Written known) acts e tt goes)
goes_copy s e (events.Settled other settled) acts table goes copied = clash (events.Settled other settled) table acts copied (copied_in table s.phase s (events.Settled other settled) acts e tt goes)
goes_copy s e (events.Refused other) acts table goes copied = clash (events.Refused other) table acts copied (copied_in table s.phase s (events.Refused other) acts e tt goes)
