-- What a session asks for when it receives the answers of its actions: a copy leads to a lesson, a lesson to an acknowledgement, and
-- that to nothing that has an answer.
use Rattle.std.proofs.Common.{◌≡◌, ℕ, Bool, true, false, List, [], ◌∷◌, ◌++◌, Option, Some, None, refl, sym, ap, ◌∙◌, subst, inl, inr}
use Rattle.std.specs.Prelude.{◌⊎◌}
use Rattle.std.specs.List.{list_all}
use Rattle.std.proofs.lemmas.Bool.{false≢true, and_parts, and_from}
use Rattle.std.proofs.lemmas.List.{append-nil}
use Rattle.std.proofs.lemmas.List.Folds.{list_all-append}
use Rattle.std.proofs.lemmas.List.Concat.{flat_map-append}
use Rattle.table_types.specs.declared.update.Update.{Update}
use Rattle.table_types.specs.declared.copies.CopyKind.{CopyKind}
use Rattle.table_types.specs.declared.copies.Settled.{Settled}
use Rattle.table_types.specs.declared.copies.Settled.TheVariants as settles
use Rattle.table_shards.specs.Receipts.{SeatState}
use Rattle.known_state.specs.Known.{KnownState}
use Rattle.session_core.specs.declared.action.Action.{Action}
use Rattle.session_core.specs.declared.action.Action.TheVariants as actions
use Rattle.session_core.specs.declared.event.Event.{Event}
use Rattle.session_core.specs.declared.event.Event.TheVariants as events
use Rattle.session_core.specs.declared.share.Share.{Share}
use Rattle.session_core.specs.declared.state.State.{State}
use Rattle.session_core.specs.declared.state.State.TheVariants as states
use Rattle.session_core.specs.Phases.{Phase}
use Rattle.session_core.specs.Phases as phases
use Rattle.session_core.specs.Manners.{Manner}
use Rattle.session_core.specs.Manners as manners
use Rattle.session_core.specs.Shares.{all_quiet, is_out, out_set, quiet_set}
use Rattle.session_core.specs.Actions.{reopens}
use Rattle.session_core.specs.Courses.{Course, ack_received, acknowledged}
use Rattle.session_core.specs.Paces.{Pace, has_left, inferred, is_ahead}
use Rattle.session_core.specs.Keeping.{KeptSession, Steps, StepsAs, is_staying, standing}
use Rattle.session_core.specs.Sessions.{SessionState, FinishesResync, GoesIn, GoesOpen, HasNothing, Settles, StartsPendingResync, state_of}
use Rattle.session_core.specs.Standing.{StandingState, Stands, TicksIn, Writes, answer_of_refusal, finished_if, heartbeats, leaving, reopening, without_tables, word_of}
use Rattle.session_core.specs.Hearing.{asked_in}
use Rattle.peers_engine.specs.Calls.{IsCopied}
use Rattle.peers_engine.specs.Doing.{Done}
use Rattle.peers_engine.specs.Acting.{Acts, IsGiven, IsGivenIn, Worker, stands}

-- ---- kinds of actions

-- an action without an answer
abbrev is_mute : Action → Bool
is_mute (actions.Ack table number) = false
is_mute (actions.Copy table kind) = false
is_mute (actions.Teach batch) = false
is_mute act = true

-- no copy and no lesson
abbrev is_light : Action → Bool
is_light (actions.Copy table kind) = false
is_light (actions.Teach batch) = false
is_light act = true

-- no copy
abbrev is_fair : Action → Bool
is_fair (actions.Copy table kind) = false
is_fair act = true

abbrev are_mute : List Action → Bool
are_mute acts = list_all is_mute acts

abbrev are_light : List Action → Bool
are_light acts = list_all is_light acts

abbrev are_fair : List Action → Bool
are_fair acts = list_all is_fair acts

mute_light : (act : Action) → is_mute act ≡ true → is_light act ≡ true
mute_light (actions.Send bytes) mute = refl
mute_light (actions.Learn u) mute = refl
mute_light (actions.Ack table number) mute = refl
mute_light (actions.Reopen table) mute = refl
mute_light (actions.Copy table kind) mute = mute
mute_light (actions.Teach batch) mute = mute
mute_light (actions.Part kind) mute = refl
mute_light actions.Close mute = refl

light_fair : (act : Action) → is_light act ≡ true → is_fair act ≡ true
light_fair (actions.Send bytes) light = refl
light_fair (actions.Learn u) light = refl
light_fair (actions.Ack table number) light = refl
light_fair (actions.Reopen table) light = refl
light_fair (actions.Copy table kind) light = light
light_fair (actions.Teach batch) light = refl
light_fair (actions.Part kind) light = refl
light_fair actions.Close light = refl

each : (p q : Action → Bool) → ((act : Action) → p act ≡ true → q act ≡ true) → (acts : List Action) → list_all p acts ≡ true → list_all q acts ≡ true
each p q weaker [] are = refl
each p q weaker (act ∷ acts) are =
    let both = and_parts (p act) (list_all p acts) are in
    and_from (q act) (list_all q acts) (weaker act both.0) (each p q weaker acts both.1)

both_all : (p : Action → Bool) (xs ys : List Action) → list_all p xs ≡ true → list_all p ys ≡ true → list_all p (xs ++ ys) ≡ true
both_all p xs ys first second = list_all-append p xs ys ∙ and_from (list_all p xs) (list_all p ys) first second

are_at : (p : Action → Bool) (acts given : List Action) → acts ≡ given → list_all p given ≡ true → list_all p acts ≡ true
are_at p acts given is are = ap (λ (x : List Action). list_all p x) is ∙ are

-- ---- what an event other than these asks for

reopens_mute : (ss : List Share) → are_mute (reopens ss) ≡ true
reopens_mute [] = refl
reopens_mute (s ∷ ss) = reopens_mute ss

-- an event other than bytes, a turn, a copy and the end of a lesson
abbrev is_mild : Event → Bool
is_mild (events.Bytes bytes) = false
is_mild events.Turn = false
is_mild (events.Copied table batch) = false
is_mild (events.Written known) = false
is_mild event = true

finishes_mute : (b : Bool) (s : SessionState) (c : Course) (acts : List Action) (e : SessionState) → FinishesResync b s c acts e → are_mute acts ≡ true
finishes_mute true s c acts e (is, goes) = are_at is_mute acts _ is refl
finishes_mute false s c acts e (is, goes) = are_at is_mute acts _ is refl

nothing_mute : (b : Bool) (s : SessionState) (c : Course) (table : ℕ) (acts : List Action) (e : SessionState) → HasNothing b s c table acts e → are_mute acts ≡ true
nothing_mute true s c table acts e goes = finishes_mute (all_quiet (quiet_set table c.shares)) s (record c { shares = quiet_set table c.shares }) acts e goes
nothing_mute false s c table acts e (is, goes) = are_at is_mute acts _ is refl

pending_mute : (b : Bool) (s : SessionState) (c : Course) (acts : List Action) (e : SessionState) → StartsPendingResync b s c acts e → are_mute acts ≡ true
pending_mute true s c acts e (is, goes) = are_at is_mute acts (reopens c.shares) is (reopens_mute c.shares)
pending_mute false s c acts e (is, goes) = are_at is_mute acts _ is refl

settled_mute : (settled : Settled) (s : SessionState) (c : Course) (table : ℕ) (acts : List Action) (e : SessionState) → Settles settled s c table acts e → are_mute acts ≡ true
settled_mute settles.All s c table acts e goes = pending_mute _ s (record c { shares = out_set table false c.shares }) acts e goes
settled_mute settles.Some s c table acts e (is, goes) = are_at is_mute acts _ is refl
settled_mute settles.Older s c table acts e (is, goes) = are_at is_mute acts _ is refl

open_mute : (s : SessionState) (c : Course) (event : Event) (acts : List Action) (e : SessionState) → is_mild event ≡ true → GoesOpen s c event acts e → are_mute acts ≡ true
open_mute s c events.Opened acts e mild goes = absurd goes
open_mute s c events.End acts e mild (is, goes) = are_at is_mute acts _ is refl
open_mute s c events.Tick acts e mild (due, (is, goes)) = are_at is_mute acts _ is refl
open_mute s c events.Ask acts e mild (due, (is, goes)) = are_at is_mute acts _ is refl
open_mute s c events.CaughtUp acts e mild (due, (is, goes)) = are_at is_mute acts _ is refl
open_mute s c events.ReadFault acts e mild (is, goes) = are_at is_mute acts _ is refl
open_mute s c events.WriteFault acts e mild (is, goes) = are_at is_mute acts _ is refl
open_mute s c (events.Nothing table) acts e mild (mid, answered, goes) = nothing_mute mid.teaching s mid table acts e goes
open_mute s c (events.Settled table settled) acts e mild (mid, answered, goes) = settled_mute settled s mid table acts e goes
open_mute s c (events.Refused table) acts e mild (mid, answered, is, goes) = are_at is_mute acts _ is refl
open_mute s c (events.Bytes bytes) acts e mild goes = absurd (false≢true mild)
open_mute s c events.Turn acts e mild goes = absurd (false≢true mild)
open_mute s c (events.Copied table batch) acts e mild goes = absurd (false≢true mild)
open_mute s c (events.Written known) acts e mild goes = absurd (false≢true mild)

goes_mute : (phase : Phase) (s : SessionState) (event : Event) (acts : List Action) (e : SessionState) → is_mild event ≡ true → GoesIn phase s event acts e → are_mute acts ≡ true
goes_mute (phases.Open c) s event acts e mild goes = open_mute s c event acts e mild goes
goes_mute phases.Ended s event acts e mild goes = absurd goes
goes_mute (phases.New hello c) s events.Opened acts e mild (is, goes) = are_at is_mute acts _ is refl
goes_mute (phases.New hello c) s events.End acts e mild (is, goes) = are_at is_mute acts _ is refl
goes_mute (phases.New hello c) s events.Tick acts e mild (is, goes) = are_at is_mute acts _ is refl
goes_mute (phases.New hello c) s events.Ask acts e mild (is, goes) = are_at is_mute acts _ is refl
goes_mute (phases.New hello c) s events.CaughtUp acts e mild (is, goes) = are_at is_mute acts _ is refl
goes_mute (phases.New hello c) s events.ReadFault acts e mild (is, goes) = are_at is_mute acts _ is refl
goes_mute (phases.New hello c) s events.WriteFault acts e mild (is, goes) = are_at is_mute acts _ is refl
goes_mute (phases.New hello c) s (events.Nothing table) acts e mild goes = absurd goes
goes_mute (phases.New hello c) s (events.Settled table settled) acts e mild goes = absurd goes
goes_mute (phases.New hello c) s (events.Refused table) acts e mild goes = absurd goes
goes_mute (phases.New hello c) s (events.Bytes bytes) acts e mild goes = absurd (false≢true mild)
goes_mute (phases.New hello c) s events.Turn acts e mild goes = absurd (false≢true mild)
goes_mute (phases.New hello c) s (events.Copied table batch) acts e mild goes = absurd (false≢true mild)
goes_mute (phases.New hello c) s (events.Written known) acts e mild goes = absurd (false≢true mild)
goes_mute (phases.Hello greeter kept c) s events.Opened acts e mild goes = absurd goes
goes_mute (phases.Hello greeter kept c) s events.End acts e mild (is, goes) = are_at is_mute acts _ is refl
goes_mute (phases.Hello greeter kept c) s events.Tick acts e mild (is, goes) = are_at is_mute acts _ is refl
goes_mute (phases.Hello greeter kept c) s events.Ask acts e mild (is, goes) = are_at is_mute acts _ is refl
goes_mute (phases.Hello greeter kept c) s events.CaughtUp acts e mild (is, goes) = are_at is_mute acts _ is refl
goes_mute (phases.Hello greeter kept c) s events.ReadFault acts e mild (is, goes) = are_at is_mute acts _ is refl
goes_mute (phases.Hello greeter kept c) s events.WriteFault acts e mild (is, goes) = are_at is_mute acts _ is refl
goes_mute (phases.Hello greeter kept c) s (events.Nothing table) acts e mild goes = absurd goes
goes_mute (phases.Hello greeter kept c) s (events.Settled table settled) acts e mild goes = absurd goes
goes_mute (phases.Hello greeter kept c) s (events.Refused table) acts e mild goes = absurd goes
goes_mute (phases.Hello greeter kept c) s (events.Bytes bytes) acts e mild goes = absurd (false≢true mild)
goes_mute (phases.Hello greeter kept c) s events.Turn acts e mild goes = absurd (false≢true mild)
goes_mute (phases.Hello greeter kept c) s (events.Copied table batch) acts e mild goes = absurd (false≢true mild)
goes_mute (phases.Hello greeter kept c) s (events.Written known) acts e mild goes = absurd (false≢true mild)

refusal_mild : (b : Bool) (table : ℕ) → is_mild (answer_of_refusal b table) ≡ true
refusal_mild true table = refl
refusal_mild false table = refl

finished_mute : (b : Bool) (c : Course) → are_mute (finished_if b c).0 ≡ true
finished_mute true c = refl
finished_mute false c = refl

heartbeats_mute : (b : Bool) → are_mute (heartbeats b) ≡ true
heartbeats_mute true = refl
heartbeats_mute false = refl

leaving_mute : (left : List ℕ) (c : Course) → are_mute (leaving left c).0 ≡ true
leaving_mute [] c = refl
leaving_mute (table ∷ tables) c = finished_mute _ (without_tables (table ∷ tables) c)

ticks_mute : (silent : Bool) (phase : Phase) (s e : StandingState) (now : ℕ) (left : List ℕ) (acts : List Action) → TicksIn silent phase s now left acts e → are_mute acts ≡ true
ticks_mute true phase s e now left acts (none, is, ends, pace) = are_at is_mute acts _ is refl
ticks_mute false (phases.New hello c) s e now left acts (none, is, same) = are_at is_mute acts _ is refl
ticks_mute false (phases.Hello greeter bytes c) s e now left acts (none, is, same) = are_at is_mute acts _ is refl
ticks_mute false (phases.Open c) s e now left acts (leaves, is, goes, pace) = are_at is_mute acts _ is (both_all is_mute (leaving left c).0 _ (leaving_mute left c) (heartbeats_mute _))
ticks_mute false phases.Ended s e now left acts (none, is, same) = are_at is_mute acts _ is refl

reopening_mute : (left : List ℕ) → are_mute (reopening left) ≡ true
reopening_mute [] = refl
reopening_mute (table ∷ left) = reopening_mute left

word_mild : (b : Bool) → is_mild (word_of b) ≡ true
word_mild true = refl
word_mild false = refl

stands_mute : (s : StandingState) (now : ℕ) (event : Event) (acts : List Action) (e : StandingState) → is_mild event ≡ true → Stands s now event acts e → are_mute acts ≡ true
stands_mute s now events.Opened acts e mild (goes, pace) = goes_mute s.session.phase s.session events.Opened acts e.session refl goes
stands_mute s now events.End acts e mild (goes, pace) = goes_mute s.session.phase s.session events.End acts e.session refl goes
stands_mute s now events.Ask acts e mild (goes, pace) = goes_mute s.session.phase s.session events.Ask acts e.session refl goes
stands_mute s now events.CaughtUp acts e mild (goes, pace) = goes_mute s.session.phase s.session (word_of (has_left s.pace.progress)) acts e.session (word_mild (has_left s.pace.progress)) goes
stands_mute s now events.Tick acts e mild (asked, (left, rest, ticks, is)) = are_at is_mute acts _ is (both_all is_mute (reopening left) rest (reopening_mute left) (ticks_mute _ s.session.phase s e now left rest ticks))
stands_mute s now events.ReadFault acts e mild (goes, pace) = goes_mute s.session.phase s.session events.ReadFault acts e.session refl goes
stands_mute s now events.WriteFault acts e mild (goes, pace) = goes_mute s.session.phase s.session events.WriteFault acts e.session refl goes
stands_mute s now (events.Nothing table) acts e mild (goes, pace) = goes_mute s.session.phase s.session (events.Nothing table) acts e.session refl goes
stands_mute s now (events.Settled table settled) acts e mild (goes, pace) = goes_mute s.session.phase s.session (events.Settled table settled) acts e.session refl goes
stands_mute s now (events.Refused table) acts e mild (goes, pace) =
    goes_mute s.session.phase s.session (answer_of_refusal (is_ahead table s.pace.progress) table) acts e.session (refusal_mild (is_ahead table s.pace.progress) table) goes
stands_mute s now (events.Bytes bytes) acts e mild stands = absurd (false≢true mild)
stands_mute s now events.Turn acts e mild stands = absurd (false≢true mild)
stands_mute s now (events.Copied table batch) acts e mild stands = absurd (false≢true mild)
stands_mute s now (events.Written known) acts e mild stands = absurd (false≢true mild)

-- ---- what any event asks for

acknowledged_light : (b : Bool) (c : Course) (table number : ℕ) → are_light (acknowledged b c table number).0 ≡ true
acknowledged_light true c table number = refl
acknowledged_light false c table number = refl

ack_light : (c : Course) (ack : Option (ℕ × ℕ)) → are_light (ack_received c ack).0 ≡ true
ack_light c None = refl
ack_light c (Some (table, number)) = acknowledged_light (is_out table c.shares) c table number

writes_light : (phase : Phase) (s e : StandingState) (now : ℕ) (known : KnownState) (acts : List Action) → Writes phase s now known acts e → are_light acts ≡ true
writes_light (phases.New hello c) s e now known acts writes = absurd writes
writes_light (phases.Hello greeter bytes c) s e now known acts writes = absurd writes
writes_light (phases.Open c) s e now known acts (goes, is, pace) = are_at is_light acts _ is (ack_light c (inferred c.asked s.pace.progress))
writes_light phases.Ended s e now known acts writes = absurd writes

-- a batch that was copied is to be taught
copied_fair : (phase : Phase) (s : SessionState) (table : ℕ) (batch : List Update) (acts : List Action) (e : SessionState) → GoesIn phase s (events.Copied table batch) acts e → are_fair acts ≡ true
copied_fair (phases.New hello c) s table batch acts e goes = absurd goes
copied_fair (phases.Hello greeter bytes c) s table batch acts e goes = absurd goes
copied_fair (phases.Open c) s table batch acts e (mid, answered, copied) = are_at is_fair acts _ copied.0 refl
copied_fair phases.Ended s table batch acts e goes = absurd goes

fair : (acts : List Action) → are_mute acts ≡ true → are_fair acts ≡ true
fair acts mute = each is_light is_fair light_fair acts (each is_mute is_light mute_light acts mute)

light : (acts : List Action) → are_mute acts ≡ true → are_light acts ≡ true
light acts mute = each is_mute is_light mute_light acts mute

-- ---- the same in both manners

-- an event that answers an action
abbrev is_answer : Event → Bool
is_answer (events.Copied table batch) = true
is_answer (events.Nothing table) = true
is_answer (events.Written known) = true
is_answer (events.Settled table settled) = true
is_answer (events.Refused table) = true
is_answer event = false

steps_mute : (manner : Manner) (s : KeptSession) (now : ℕ) (event : Event) (acts : List Action) (e : KeptSession) → is_mild event ≡ true → StepsAs manner s now event acts e → are_mute acts ≡ true
steps_mute manners.Plain s now event acts e mild (goes, same) = goes_mute s.session.phase s.session event acts e.session mild goes
steps_mute (manners.Staying p) s now event acts e mild (q, stood, same) = stands_mute (standing s.session p) now event acts (standing e.session q) mild stood

-- the end of a lesson asks for nothing in a plain session
written_light : (phase : Phase) (s : SessionState) (known : KnownState) (acts : List Action) (e : SessionState) → GoesIn phase s (events.Written known) acts e → are_light acts ≡ true
written_light (phases.New hello c) s known acts e goes = absurd goes
written_light (phases.Hello greeter bytes c) s known acts e goes = absurd goes
written_light (phases.Open c) s known acts e (mid, answered, none, then) = are_at is_light acts _ none refl
written_light phases.Ended s known acts e goes = absurd goes

steps_light : (manner : Manner) (s : KeptSession) (now : ℕ) (known : KnownState) (acts : List Action) (e : KeptSession) → StepsAs manner s now (events.Written known) acts e → are_light acts ≡ true
steps_light manners.Plain s now known acts e (goes, same) = written_light s.session.phase s.session known acts e.session goes
steps_light (manners.Staying p) s now known acts e (q, writes, same) = writes_light s.session.phase (standing s.session p) (standing e.session q) now known acts writes

steps_fair : (manner : Manner) (s : KeptSession) (now : ℕ) (table : ℕ) (batch : List Update) (acts : List Action) (e : KeptSession) → StepsAs manner s now (events.Copied table batch) acts e → are_fair acts ≡ true
steps_fair manners.Plain s now table batch acts e (goes, same) = copied_fair s.session.phase s.session table batch acts e.session goes
steps_fair (manners.Staying p) s now table batch acts e (q, (goes, pace), same) = copied_fair s.session.phase s.session table batch acts e.session goes

-- ---- what the answers ask for

-- no answer, or one that asks for no table
abbrev is_mild_answer : Option Event → Bool
is_mild_answer None = true
is_mild_answer (Some event) = is_mild event

-- the same, or the end of a lesson
abbrev is_late_answer : Option Event → Bool
is_late_answer (Some (events.Written known)) = true
is_late_answer answer = is_mild_answer answer

abbrev is_answered : Option Event → Bool
is_answered None = true
is_answered (Some event) = is_answer event

abbrev WasGiven : KeptSession → ℕ → Event → List (Event × List Action) → KeptSession → Type 0
WasGiven s now event steps e = (steps ≡ []) ⊎ ((acts : List Action) × Steps s now event acts e × (asked_in steps ≡ acts))

one_given : (s : KeptSession) (now : ℕ) (event : Event) (steps : List (Event × List Action)) (e : KeptSession) → ((acts : List Action) × Steps s now event acts e × (steps ≡ (event, acts) ∷ [])) → WasGiven s now event steps e
one_given s now event steps e (acts, steps1, is) = inr (acts, steps1, ap asked_in is ∙ append-nil acts)

given_as : (state : State) (s : KeptSession) (now : ℕ) (event : Event) (steps : List (Event × List Action)) (e : KeptSession) → IsGivenIn state s now event steps e → WasGiven s now event steps e
given_as states.Ended s now event steps e given = inl given.0
given_as states.New s now event steps e given = one_given s now event steps e given
given_as states.Hello s now event steps e given = one_given s now event steps e given
given_as states.Ready s now event steps e given = one_given s now event steps e given
given_as states.Teaching s now event steps e given = one_given s now event steps e given

was_given : (s : KeptSession) (now : ℕ) (event : Event) (steps : List (Event × List Action)) (e : KeptSession) → IsGiven s now (Some event) steps e → WasGiven s now event steps e
was_given s now event steps e given = given_as (state_of s.session.phase) s now event steps e given

asks_none : (p : Action → Bool) (steps : List (Event × List Action)) → steps ≡ [] → list_all p (asked_in steps) ≡ true
asks_none p steps none = ap (λ (x : List (Event × List Action)). list_all p (asked_in x)) none

given_mute : (s : KeptSession) (now : ℕ) (answer : Option Event) (steps : List (Event × List Action)) (e : KeptSession) → is_mild_answer answer ≡ true → IsGiven s now answer steps e → are_mute (asked_in steps) ≡ true
given_mute s now None steps e mild (none, same) = asks_none is_mute steps none
given_mute s now (Some event) steps e mild given = elim (was_given s now event steps e given) [
  | inl none ↦ asks_none is_mute steps none
  | inr one ↦ are_at is_mute (asked_in steps) one.0 one.2 (steps_mute s.manner s now event one.0 e mild one.1.0)
]

given_light : (s : KeptSession) (now : ℕ) (answer : Option Event) (steps : List (Event × List Action)) (e : KeptSession) → is_late_answer answer ≡ true → IsGiven s now answer steps e → are_light (asked_in steps) ≡ true
given_light s now (Some (events.Written known)) steps e late given = elim (was_given s now (events.Written known) steps e given) [
  | inl none ↦ asks_none is_light steps none
  | inr one ↦ are_at is_light (asked_in steps) one.0 one.2 (steps_light s.manner s now known one.0 e one.1.0)
]
given_light s now None steps e late given = light (asked_in steps) (given_mute s now None steps e late given)
given_light s now (Some events.Opened) steps e late given = light (asked_in steps) (given_mute s now (Some events.Opened) steps e late given)
given_light s now (Some events.End) steps e late given = light (asked_in steps) (given_mute s now (Some events.End) steps e late given)
given_light s now (Some events.CaughtUp) steps e late given = light (asked_in steps) (given_mute s now (Some events.CaughtUp) steps e late given)
given_light s now (Some events.Ask) steps e late given = light (asked_in steps) (given_mute s now (Some events.Ask) steps e late given)
given_light s now (Some events.Tick) steps e late given = light (asked_in steps) (given_mute s now (Some events.Tick) steps e late given)
given_light s now (Some events.ReadFault) steps e late given = light (asked_in steps) (given_mute s now (Some events.ReadFault) steps e late given)
given_light s now (Some events.WriteFault) steps e late given = light (asked_in steps) (given_mute s now (Some events.WriteFault) steps e late given)
given_light s now (Some (events.Nothing table)) steps e late given = light (asked_in steps) (given_mute s now (Some (events.Nothing table)) steps e late given)
given_light s now (Some (events.Settled table settled)) steps e late given = light (asked_in steps) (given_mute s now (Some (events.Settled table settled)) steps e late given)
given_light s now (Some (events.Refused table)) steps e late given = light (asked_in steps) (given_mute s now (Some (events.Refused table)) steps e late given)
given_light s now (Some (events.Bytes bytes)) steps e late given = absurd (false≢true late)
given_light s now (Some events.Turn) steps e late given = absurd (false≢true late)
given_light s now (Some (events.Copied table batch)) steps e late given = absurd (false≢true late)

answer_fair : (s : KeptSession) (now : ℕ) (event : Event) (acts : List Action) (e : KeptSession) → is_answer event ≡ true → Steps s now event acts e → are_fair acts ≡ true
answer_fair s now (events.Copied table batch) acts e is taken = steps_fair s.manner s now table batch acts e taken.0
answer_fair s now (events.Written known) acts e is taken = each is_light is_fair light_fair acts (steps_light s.manner s now known acts e taken.0)
answer_fair s now (events.Nothing table) acts e is taken = fair acts (steps_mute s.manner s now (events.Nothing table) acts e refl taken.0)
answer_fair s now (events.Settled table settled) acts e is taken = fair acts (steps_mute s.manner s now (events.Settled table settled) acts e refl taken.0)
answer_fair s now (events.Refused table) acts e is taken = fair acts (steps_mute s.manner s now (events.Refused table) acts e refl taken.0)
answer_fair s now events.Opened acts e is taken = absurd (false≢true is)
answer_fair s now events.Turn acts e is taken = absurd (false≢true is)
answer_fair s now (events.Bytes bytes) acts e is taken = absurd (false≢true is)
answer_fair s now events.End acts e is taken = absurd (false≢true is)
answer_fair s now events.CaughtUp acts e is taken = absurd (false≢true is)
answer_fair s now events.Ask acts e is taken = absurd (false≢true is)
answer_fair s now events.Tick acts e is taken = absurd (false≢true is)
answer_fair s now events.ReadFault acts e is taken = absurd (false≢true is)
answer_fair s now events.WriteFault acts e is taken = absurd (false≢true is)

given_fair : (s : KeptSession) (now : ℕ) (answer : Option Event) (steps : List (Event × List Action)) (e : KeptSession) → is_answered answer ≡ true → IsGiven s now answer steps e → are_fair (asked_in steps) ≡ true
given_fair s now None steps e answers (none, same) = asks_none is_fair steps none
given_fair s now (Some event) steps e answers given = elim (was_given s now event steps e given) [
  | inl none ↦ asks_none is_fair steps none
  | inr one ↦ are_at is_fair (asked_in steps) one.0 one.2 (answer_fair s now event one.0 e answers one.1)
]

-- ---- which answers come

copied_is : (stays : Bool) (n now : ℕ) (s t : SeatState) (table : ℕ) (kind : CopyKind) (event : Event) → IsCopied stays n now s table kind t event → is_answer event ≡ true
copied_is stays n now s t table kind event (c, at, is, inl (batch, copied, call)) = ap is_answer copied
copied_is stays n now s t table kind event (c, at, is, inr (nothing, call)) = ap is_answer nothing

done_answered : (stays : Bool) (n now : ℕ) (x : SessionState) (s t : SeatState) (act : Action) (out : List ℕ) (answer : Option Event) → Done stays n now x s act out answer t → is_answered answer ≡ true
done_answered stays n now x s t (actions.Send bytes) out answer (written, none, same) = ap is_answered none
done_answered stays n now x s t (actions.Learn u) out answer (written, none, learned) = ap is_answered none
done_answered stays n now x s t (actions.Ack table number) out answer (none, event, is, inl (settled, same, call)) = ap is_answered is ∙ ap is_answer same
done_answered stays n now x s t (actions.Ack table number) out answer (none, event, is, inr (same, call)) = ap is_answered is ∙ ap is_answer same
done_answered stays n now x s t (actions.Reopen table) out answer (written, none, reopened) = ap is_answered none
done_answered stays n now x s t (actions.Copy table kind) out answer (none, event, is, copied) = ap is_answered is ∙ copied_is stays n now s t table kind event copied
done_answered stays n now x s t (actions.Teach batch) out answer (after, lesson, is, settled) = ap is_answered is
done_answered stays n now x s t (actions.Part kind) out answer (written, none, same) = ap is_answered none
done_answered stays n now x s t actions.Close out answer (written, none, same) = ap is_answered none

mute_done : (stays : Bool) (n at : ℕ) (x : SessionState) (s t : SeatState) (act : Action) (out : List ℕ) (answer : Option Event) → is_mute act ≡ true → Done stays n at x s act out answer t → answer ≡ None
mute_done stays n at x s t (actions.Send bytes) out answer mute (written, none, same) = none
mute_done stays n at x s t (actions.Learn u) out answer mute (written, none, learned) = none
mute_done stays n at x s t (actions.Reopen table) out answer mute (written, none, reopened) = none
mute_done stays n at x s t (actions.Part kind) out answer mute (written, none, same) = none
mute_done stays n at x s t actions.Close out answer mute (written, none, same) = none
mute_done stays n at x s t (actions.Ack table number) out answer mute done = absurd (false≢true mute)
mute_done stays n at x s t (actions.Copy table kind) out answer mute done = absurd (false≢true mute)
mute_done stays n at x s t (actions.Teach batch) out answer mute done = absurd (false≢true mute)

light_done : (stays : Bool) (n at : ℕ) (x : SessionState) (s t : SeatState) (act : Action) (out : List ℕ) (answer : Option Event) → is_light act ≡ true → Done stays n at x s act out answer t → is_mild_answer answer ≡ true
light_done stays n at x s t (actions.Send bytes) out answer light (written, none, same) = ap is_mild_answer none
light_done stays n at x s t (actions.Learn u) out answer light (written, none, learned) = ap is_mild_answer none
light_done stays n at x s t (actions.Reopen table) out answer light (written, none, reopened) = ap is_mild_answer none
light_done stays n at x s t (actions.Part kind) out answer light (written, none, same) = ap is_mild_answer none
light_done stays n at x s t actions.Close out answer light (written, none, same) = ap is_mild_answer none
light_done stays n at x s t (actions.Ack table number) out answer light (written, event, is, inl (settled, same, call)) = ap is_mild_answer is ∙ ap is_mild same
light_done stays n at x s t (actions.Ack table number) out answer light (written, event, is, inr (same, call)) = ap is_mild_answer is ∙ ap is_mild same
light_done stays n at x s t (actions.Copy table kind) out answer light done = absurd (false≢true light)
light_done stays n at x s t (actions.Teach batch) out answer light done = absurd (false≢true light)

mild_late : (answer : Option Event) → is_mild_answer answer ≡ true → is_late_answer answer ≡ true
mild_late None mild = refl
mild_late (Some events.Opened) mild = refl
mild_late (Some events.Tick) mild = refl
mild_late (Some events.Ask) mild = refl
mild_late (Some events.CaughtUp) mild = refl
mild_late (Some events.End) mild = refl
mild_late (Some events.ReadFault) mild = refl
mild_late (Some events.WriteFault) mild = refl
mild_late (Some (events.Nothing table)) mild = refl
mild_late (Some (events.Settled table settled)) mild = refl
mild_late (Some (events.Refused table)) mild = refl
mild_late (Some (events.Written known)) mild = refl
mild_late (Some (events.Bytes bytes)) mild = mild
mild_late (Some events.Turn) mild = mild
mild_late (Some (events.Copied table batch)) mild = mild

fair_done : (stays : Bool) (n at : ℕ) (x : SessionState) (s t : SeatState) (act : Action) (out : List ℕ) (answer : Option Event) → is_fair act ≡ true → Done stays n at x s act out answer t → is_late_answer answer ≡ true
fair_done stays n at x s t (actions.Teach batch) out answer fair (after, lesson, is, settled) = ap is_late_answer is
fair_done stays n at x s t (actions.Copy table kind) out answer fair done = absurd (false≢true fair)
fair_done stays n at x s t (actions.Send bytes) out answer fair done = mild_late answer (light_done stays n at x s t (actions.Send bytes) out answer refl done)
fair_done stays n at x s t (actions.Learn u) out answer fair done = mild_late answer (light_done stays n at x s t (actions.Learn u) out answer refl done)
fair_done stays n at x s t (actions.Reopen table) out answer fair done = mild_late answer (light_done stays n at x s t (actions.Reopen table) out answer refl done)
fair_done stays n at x s t (actions.Part kind) out answer fair done = mild_late answer (light_done stays n at x s t (actions.Part kind) out answer refl done)
fair_done stays n at x s t actions.Close out answer fair done = mild_late answer (light_done stays n at x s t actions.Close out answer refl done)
fair_done stays n at x s t (actions.Ack table number) out answer fair done = mild_late answer (light_done stays n at x s t (actions.Ack table number) out answer refl done)

-- ---- one action after another

asked_of : (p : Action → Bool) (answers first rest : List (Event × List Action)) → answers ≡ first ++ rest → list_all p (asked_in first) ≡ true → list_all p (asked_in rest) ≡ true → list_all p (asked_in answers) ≡ true
asked_of p answers first rest is one more =
    are_at p (asked_in answers) (asked_in first ++ asked_in rest) (ap asked_in is ∙ flat_map-append (λ (step : Event × List Action). step.1) first rest)
    (both_all p (asked_in first) (asked_in rest) one more)

fair_acts : (w e : Worker) (acts : List Action) (answers : List (Event × List Action)) (out : List ℕ) → are_fair acts ≡ true → Acts w acts answers out e → are_light (asked_in answers) ≡ true
fair_acts w e [] answers out are (none, nothing, same) = asks_none is_light answers none
fair_acts w e (act ∷ acts) answers out are (bytes, more, answer, first, rest, seat, mid, done, given, after, is, written) =
    let both = and_parts (is_fair act) (are_fair acts) are in
    asked_of is_light answers first rest is
    (given_light w.session w.now answer first mid (fair_done (is_staying w.session.manner) w.number w.now w.session.session w.seat seat act bytes answer both.0 done) given)
    (fair_acts (stands w mid seat) e acts rest more both.1 after)

light_acts : (w e : Worker) (acts : List Action) (answers : List (Event × List Action)) (out : List ℕ) → are_light acts ≡ true → Acts w acts answers out e → are_mute (asked_in answers) ≡ true
light_acts w e [] answers out are (none, nothing, same) = asks_none is_mute answers none
light_acts w e (act ∷ acts) answers out are (bytes, more, answer, first, rest, seat, mid, done, given, after, is, written) =
    let both = and_parts (is_light act) (are_light acts) are in
    asked_of is_mute answers first rest is
    (given_mute w.session w.now answer first mid (light_done (is_staying w.session.manner) w.number w.now w.session.session w.seat seat act bytes answer both.0 done) given)
    (light_acts (stands w mid seat) e acts rest more both.1 after)

given_nothing : (s : KeptSession) (now : ℕ) (answer : Option Event) (steps : List (Event × List Action)) (e : KeptSession) → answer ≡ None → IsGiven s now answer steps e → steps ≡ []
given_nothing s now answer steps e none given = (subst (λ (x : Option Event). IsGiven s now x steps e) none given).0

mute_acts : (w e : Worker) (acts : List Action) (answers : List (Event × List Action)) (out : List ℕ) → are_mute acts ≡ true → Acts w acts answers out e → answers ≡ []
mute_acts w e [] answers out are (none, nothing, same) = none
mute_acts w e (act ∷ acts) answers out are (bytes, more, answer, first, rest, seat, mid, done, given, after, is, written) =
    let both = and_parts (is_mute act) (are_mute acts) are in
    is
    ∙ (ap (λ (x : List (Event × List Action)). x ++ rest) (given_nothing w.session w.now answer first mid (mute_done (is_staying w.session.manner) w.number w.now w.session.session w.seat seat act bytes answer both.0 done) given)
    ∙ mute_acts (stands w mid seat) e acts rest more both.1 after)

any_acts : (w e : Worker) (acts : List Action) (answers : List (Event × List Action)) (out : List ℕ) → Acts w acts answers out e → are_fair (asked_in answers) ≡ true
any_acts w e [] answers out (none, nothing, same) = asks_none is_fair answers none
any_acts w e (act ∷ acts) answers out (bytes, more, answer, first, rest, seat, mid, done, given, after, is, written) =
    asked_of is_fair answers first rest is
    (given_fair w.session w.now answer first mid (done_answered (is_staying w.session.manner) w.number w.now w.session.session w.seat seat act bytes answer done) given)
    (any_acts (stands w mid seat) e acts rest more after)

-- ---- four lists of actions, each asked for by the answers to the one before

pub ends_after_four : (s one two three e : Worker) (acts : List Action) (a b c d : List (Event × List Action)) (p q r t : List ℕ)
    → Acts s acts a p one → Acts one (asked_in a) b q two → Acts two (asked_in b) c r three → Acts three (asked_in c) d t e → asked_in d ≡ []
ends_after_four s one two three e acts a b c d p q r t first second third fourth =
    let fair = any_acts s one acts a p first in
    let light = fair_acts one two (asked_in a) b q fair second in
    let mute = light_acts two three (asked_in b) c r light third in
    ap asked_in (mute_acts three e (asked_in c) d t mute fourth)
