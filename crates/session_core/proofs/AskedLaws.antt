-- An event that makes a step is one that may happen.
use Rattle.std.proofs.Common.{◌≡◌, ℕ, true, List, refl}
use Rattle.std.proofs.lemmas.Bool.{eq-eqb}
use Rattle.peers_hello.specs.declared.hello.Hello.{Hello}
use Rattle.session_core.specs.declared.action.Action.{Action}
use Rattle.session_core.specs.declared.event.Event.{Event}
use Rattle.session_core.specs.declared.event.Event.TheVariants as events
use Rattle.session_core.specs.declared.phase.Greeter.{Greeter}
use Rattle.session_core.specs.Phases.{Phase}
use Rattle.session_core.specs.Phases as phases
use Rattle.session_core.specs.Courses.{Course}
use Rattle.session_core.specs.Sessions.{SessionState, Goes, GoesIn, GoesNew, GoesHello, GoesOpen, is_asked, is_asked_new, is_asked_hello, is_asked_open}

asked_new : (s : SessionState) (hello : Hello) (c : Course) (event : Event) (acts : List Action) (e : SessionState) → GoesNew s hello c event acts e → is_asked_new event ≡ true
asked_new s hello c events.Opened acts e goes = refl
asked_new s hello c events.Turn acts e goes = refl
asked_new s hello c events.Tick acts e goes = refl
asked_new s hello c events.Ask acts e goes = refl
asked_new s hello c events.CaughtUp acts e goes = refl
asked_new s hello c events.End acts e goes = refl
asked_new s hello c events.ReadFault acts e goes = refl
asked_new s hello c events.WriteFault acts e goes = refl
asked_new s hello c (events.Bytes bytes) acts e goes = absurd goes
asked_new s hello c (events.Copied table batch) acts e goes = absurd goes
asked_new s hello c (events.Nothing table) acts e goes = absurd goes
asked_new s hello c (events.Written known) acts e goes = absurd goes
asked_new s hello c (events.Settled table settled) acts e goes = absurd goes
asked_new s hello c (events.Refused table) acts e goes = absurd goes

asked_hello : (s : SessionState) (greeter : Greeter) (bytes : List ℕ) (c : Course) (event : Event) (acts : List Action) (e : SessionState) → GoesHello s greeter bytes c event acts e → is_asked_hello event ≡ true
asked_hello s greeter bytes c (events.Bytes piece) acts e goes = refl
asked_hello s greeter bytes c events.Turn acts e goes = refl
asked_hello s greeter bytes c events.Tick acts e goes = refl
asked_hello s greeter bytes c events.Ask acts e goes = refl
asked_hello s greeter bytes c events.CaughtUp acts e goes = refl
asked_hello s greeter bytes c events.End acts e goes = refl
asked_hello s greeter bytes c events.ReadFault acts e goes = refl
asked_hello s greeter bytes c events.WriteFault acts e goes = refl
asked_hello s greeter bytes c events.Opened acts e goes = absurd goes
asked_hello s greeter bytes c (events.Copied table batch) acts e goes = absurd goes
asked_hello s greeter bytes c (events.Nothing table) acts e goes = absurd goes
asked_hello s greeter bytes c (events.Written known) acts e goes = absurd goes
asked_hello s greeter bytes c (events.Settled table settled) acts e goes = absurd goes
asked_hello s greeter bytes c (events.Refused table) acts e goes = absurd goes

asked_open : (s : SessionState) (c : Course) (event : Event) (acts : List Action) (e : SessionState) → GoesOpen s c event acts e → is_asked_open c.due event ≡ true
asked_open s c events.Turn acts e (none, turns) = rw none refl
asked_open s c events.Tick acts e (none, stays) = rw none refl
asked_open s c events.Ask acts e (none, stays) = rw none refl
asked_open s c events.CaughtUp acts e (none, stays) = rw none refl
asked_open s c (events.Bytes bytes) acts e (none, receives) = rw none refl
asked_open s c (events.Copied table batch) acts e (mid, answered, copied) = rw answered.0 (eq-eqb table table refl)
asked_open s c (events.Nothing table) acts e (mid, answered, nothing) = rw answered.0 (eq-eqb table table refl)
asked_open s c (events.Written known) acts e (mid, answered, is, then) = rw answered.0 refl
asked_open s c (events.Settled table settled) acts e (mid, answered, settles) = rw answered.0 (eq-eqb table table refl)
asked_open s c (events.Refused table) acts e (mid, answered, is, then) = rw answered.0 (eq-eqb table table refl)
asked_open s c events.End acts e goes = refl
asked_open s c events.ReadFault acts e goes = refl
asked_open s c events.WriteFault acts e goes = refl
asked_open s c events.Opened acts e goes = absurd goes

asked_in : (phase : Phase) (s : SessionState) (event : Event) (acts : List Action) (e : SessionState) → GoesIn phase s event acts e → is_asked phase event ≡ true
asked_in (phases.New hello c) s event acts e goes = asked_new s hello c event acts e goes
asked_in (phases.Hello greeter bytes c) s event acts e goes = asked_hello s greeter bytes c event acts e goes
asked_in (phases.Open c) s event acts e goes = asked_open s c event acts e goes
asked_in phases.Ended s event acts e goes = absurd goes

pub asked_where_goes : (s e : SessionState) (event : Event) (acts : List Action) → Goes s event acts e → is_asked s.phase event ≡ true
asked_where_goes s e event acts goes = asked_in s.phase s event acts e goes
