-- A session's step at an event is unique.
use Rattle.std.proofs.Common.{◌≡◌, ◌≢◌, ℕ, Bool, true, false, List, [], ◌∷◌, ◌++◌, Option, Some, None, Result, Ok, Err, refl, sym, ap, subst, ◌∙◌, drop}
use Rattle.table_types.specs.declared.copies.Settled.{Settled}
use Rattle.table_types.specs.declared.copies.Settled.TheVariants as settles
use Rattle.table_types.specs.declared.version.Version.{Version}
use Rattle.peers_hello.specs.declared.hello.Hello.{Hello}
use Rattle.peers_hello.specs.declared.hello.Answer.{Answer}
use Rattle.peers_hello.specs.declared.hello.Answer.TheVariants as answers
use Rattle.peers_hello.specs.declared.status.Status.{Status}
use Rattle.peers_hello.specs.declared.status.Status.TheVariants as statuses
use Rattle.peers_hello.specs.Hellos.{answer_of}
use Rattle.peers_hello.specs.Statuses.{status_of}
use Rattle.learner.specs.declared.fault.Fault.{Fault}
use Rattle.learner.specs.declared.fault.Fault.TheVariants as faults
use Rattle.learner.specs.declared.taken.Taken.{Taken}
use Rattle.learner.specs.declared.taken.Taken.TheVariants as taken
use Rattle.tolerant_intake.specs.Reading.{Reading}
use Rattle.session_core.specs.declared.action.Action.{Action}
use Rattle.session_core.specs.declared.action.Action.TheVariants as actions
use Rattle.session_core.specs.Actions.{sends_control, status_text}
use Rattle.session_core.specs.declared.due.Due.{Due}
use Rattle.session_core.specs.declared.event.Event.{Event}
use Rattle.session_core.specs.declared.event.Event.TheVariants as events
use Rattle.session_core.specs.declared.halt.Halt.{Halt}
use Rattle.session_core.specs.declared.halt.Halt.TheVariants as halts
use Rattle.session_core.specs.declared.phase.Greeter.{Greeter}
use Rattle.session_core.specs.declared.phase.Greeter.TheVariants as greeters
use Rattle.session_core.specs.Phases.{Phase}
use Rattle.session_core.specs.Phases as phases
use Rattle.session_core.specs.Courses.{Course, AreReceived, Answered, Receives, ReceivesAll, IsHalted, AwaitsMore, acks_sent, course_fed, message_received, is_failure, table_to_ask}
use Rattle.session_core.specs.Sessions.{SessionState, Accepts, Concludes, Connects, FinishesResync, Goes, GoesHello, GoesIn, GoesNew, GoesOpen, Greets, HasNothing, IsCopied, IsWelcomed, ReceivesBytes, Settles, StartsPendingResync, Turns, confirmed_by, ended, going, first_word, opening, speaking}
use Rattle.session_core.proofs.ReadersGoOn.{Gives, gives_once, reading_of}

-- two results that equal the same result are equal
both : {given acts others : List Action} → {then e end : SessionState} → (acts ≡ given) × (e ≡ then) → (others ≡ given) × (end ≡ then) → (acts ≡ others) × (e ≡ end)
both p q = (p.0 ∙ sym q.0, p.1 ∙ sym q.1)

-- the actions determine the session after the step
same_end : (s e end : SessionState) (by : List Action → SessionState) (acts others : List Action) → acts ≡ others → e ≡ by acts → end ≡ by others → (acts ≡ others) × (e ≡ end)
same_end s e end by acts others same p q = (same, p ∙ ap by same ∙ sym q)

-- ---- messages one after another

-- what ends the received messages, by the answer of the reader; none if another message is received
abbrev ending : Result (Option Taken) Fault → Option (Result (Unit {0}) Halt)
ending (Ok None) = Some (Ok tt)
ending (Ok (Some (taken.Failed kind))) = Some (Err halts.Failed)
ending (Ok (Some t)) = None
ending (Err fault) = Some (Err (halts.Fault fault))

-- the reader gives this answer, and doesn't run out of memory
abbrev Shows : Course → Option (Result (Unit {0}) Halt) → Reading → Result (Option Taken) Fault → Type 0
Shows c end e answer = Gives (reading_of c) answer e × (answer ≢ Err faults.Memory) × (ending answer ≡ end)

-- no complete message is left, or one halts the session, though memory suffices
abbrev pub Ends : Course → Result (Unit {0}) Halt → Type 0
Ends c (Ok _) = AwaitsMore c
Ends c (Err halts.Memory) = ⊥
Ends c (Err halt) = IsHalted c halt

some_answer : (answer : Option Taken) → ◌≢◌ {A = Result (Option Taken) Fault} (Ok answer) (Err faults.Memory)
some_answer answer same = cc

fault_of : (fault other : Fault) → ◌≡◌ {A = Result (Option Taken) Fault} (Err fault) (Err other) → fault ≡ other
fault_of fault other same = cc

shown_end : (c : Course) (end : Result (Unit {0}) Halt) → Ends c end → (answer : Result (Option Taken) Fault) × (e : Reading) × Shows c (Some end) e answer
shown_end c (Ok _) ends = (Ok None, reading_of c, (ends, some_answer None, refl))
shown_end c (Err halts.Failed) (kind, e, after, gives) = (Ok (Some (taken.Failed kind)), record { intake = e; tolerance = after }, (gives, some_answer (Some (taken.Failed kind)), refl))
shown_end c (Err (halts.Fault fault)) (wanted, e, after, stops) = (Err fault, record { intake = e; tolerance = after }, (stops, (λ same. wanted (fault_of fault faults.Memory same)), refl))
shown_end c (Err halts.Memory) ends = absurd ends

goes_on : (t : Taken) → is_failure t ≡ false → ending (Ok (Some t)) ≡ None
goes_on (taken.Row u) is = refl
goes_on taken.Passed is = refl
goes_on (taken.Said control) is = refl
goes_on (taken.Acked table number) is = refl
goes_on (taken.Failed kind) is = cc

shown_received : (c mid : Course) (t : Taken) → Receives c t mid → Shows c None (reading_of mid) (Ok (Some t))
shown_received c mid t (is, gives, then) = (gives, some_answer (Some t), goes_on t is)

end_of : (a b : Result (Unit {0}) Halt) → ◌≡◌ {A = Option (Result (Unit {0}) Halt)} (Some a) (Some b) → a ≡ b
end_of a b same = cc

ends_alike : (c : Course) (a b : Result (Unit {0}) Halt) → (answer : Result (Option Taken) Fault) × (e : Reading) × Shows c (Some a) e answer
    → (answer : Result (Option Taken) Fault) × (e : Reading) × Shows c (Some b) e answer → a ≡ b
ends_alike c a b (answer, e, (next, wanted, is)) (answer', e', (next', wanted', is')) =
    end_of a b (sym is ∙ ap ending (gives_once (reading_of c) e e' answer answer' next next' wanted wanted').0 ∙ is')

pub one_end : (c : Course) (a b : Result (Unit {0}) Halt) → Ends c a → Ends c b → a ≡ b
one_end c a b ends again = ends_alike c a b (shown_end c a ends) (shown_end c b again)

no_end : (c : Course) (end : Result (Unit {0}) Halt) (next : Reading) (t : Taken) → (answer : Result (Option Taken) Fault) × (e : Reading) × Shows c (Some end) e answer → Shows c None next (Ok (Some t)) → ⊥
no_end c end next' t (answer, e, (next, wanted, is)) (gives, wanted', is') =
    let bad : Some end ≡ None = sym is ∙ ap ending (gives_once (reading_of c) e next' answer (Ok (Some t)) next gives wanted wanted').0 ∙ is' in
    cc

pub not_both : (c mid : Course) (t : Taken) (end : Result (Unit {0}) Halt) → Ends c end → Receives c t mid → ⊥
not_both c mid t end ends receives = no_end c end (reading_of mid) t (shown_end c end ends) (shown_received c mid t receives)

taken_of : (t u : Taken) → ◌≡◌ {A = Result (Option Taken) Fault} (Ok (Some t)) (Ok (Some u)) → t ≡ u
taken_of t u same = cc

pub one_received : (c mid next : Course) (t u : Taken) → Receives c t mid → Receives c u next → (t ≡ u) × (mid ≡ next)
one_received c mid next t u receives again =
    let same = gives_once (reading_of c) (reading_of mid) (reading_of next) (Ok (Some t)) (Ok (Some u)) receives.1 again.1 (some_answer (Some t)) (some_answer (Some u)) in
    (taken_of t u same.0, receives.2 ∙ ap (λ (x : Reading). record c { intake = x.intake; tolerance = x.tolerance }) same.1 ∙ sym again.2)

-- the messages of a course are received up to one end, and ask for the same actions
pub all_received_once : (c m n : Course) (ts us : List Taken) (acts others : List Action) (a b : Result (Unit {0}) Halt)
    → AreReceived c ts acts m → AreReceived c us others n → Ends m a → Ends n b → (acts ≡ others) × (m ≡ n) × (a ≡ b) × (ts ≡ us)
all_received_once c m n [] [] acts others a b one again ends ends' =
    (one.0 ∙ sym again.0, one.1 ∙ sym again.1, one_end c a b (subst (λ (x : Course). Ends x a) one.1 ends) (subst (λ (x : Course). Ends x b) again.1 ends'), refl)
all_received_once c m n [] (u ∷ us) acts others a b one (mid, rest, receives, is, then) ends ends' =
    absurd (not_both c mid u a (subst (λ (x : Course). Ends x a) one.1 ends) receives)
all_received_once c m n (t ∷ ts) [] acts others a b (mid, rest, receives, is, then) again ends ends' =
    absurd (not_both c mid t b (subst (λ (x : Course). Ends x b) again.1 ends') receives)
all_received_once c m n (t ∷ ts) (u ∷ us) acts others a b (mid, rest, receives, is, then) (mid', rest', receives', is', then') ends ends' =
    let same = one_received c mid mid' t u receives receives' in
    let moved : message_received mid' u ≡ message_received mid t = ap (λ (x : Course). message_received x u) (sym same.1) ∙ ap (message_received mid) (sym same.0) in
    let later : AreReceived (message_received mid t).1 us rest' n = subst (λ (x : List Action × Course). AreReceived x.1 us rest' n) moved then' in
    let all = all_received_once (message_received mid t).1 m n ts us rest rest' a b then later ends ends' in
    let asked : acts ≡ others = is ∙ ap (λ (x : List Action). (message_received mid t).0 ++ x) all.0 ∙ ap (λ (x : List Action × Course). x.0 ++ rest') (sym moved) ∙ sym is' in
    let read : t ∷ ts ≡ u ∷ us = ap (λ (x : Taken). x ∷ ts) same.0 ∙ ap (λ (xs : List Taken). u ∷ xs) all.3 in
    (asked, all.1, all.2, read)

-- bytes were received: which messages, up to which end, and what followed
abbrev pub Received : SessionState → Course → List Action → Result (Unit {0}) Halt → List Action → List Action → SessionState → Type 0
Received s c first end given acts e =
    (ts : List Taken) × (m : Course) × AreReceived c ts given m × Ends m end × Concludes s m end (first ++ given) acts e

pub received : (s : SessionState) (c mid : Course) (first given acts : List Action) (e : SessionState) (end : Result (Unit {0}) Halt)
    → ReceivesAll c end given mid → Concludes s mid end (first ++ given) acts e → Received s c first end given acts e
received s c mid first given acts e (Ok _) (ts, receives, waits) concludes = (ts, mid, receives, waits, concludes)
received s c mid first given acts e (Err halts.Failed) (ts, m, receives, halted) concludes = (ts, m, receives, halted, concludes)
received s c mid first given acts e (Err (halts.Fault fault)) (ts, m, receives, halted) concludes = (ts, m, receives, halted, concludes)
received s c mid first given acts e (Err halts.Memory) receives concludes = absurd concludes

concludes_once : (s e end : SessionState) (c : Course) (how : Result (Unit {0}) Halt) (given acts others : List Action)
    → Concludes s c how given acts e → Concludes s c how given others end → (acts ≡ others) × (e ≡ end)
concludes_once s e end c (Ok _) given acts others p q = same_end s e end (λ (x : List Action). confirmed_by x (going s (acks_sent c))) acts others (p.0 ∙ sym q.0) p.1 q.1
concludes_once s e end c (Err halts.Failed) given acts others p q = same_end s e end (λ (x : List Action). confirmed_by x (ended s)) acts others (p.0 ∙ sym q.0) p.1 q.1
concludes_once s e end c (Err (halts.Fault fault)) given acts others p q =
    same_end s e end (λ (x : List Action). confirmed_by x (record s { phase = phases.Ended; fault = Some fault })) acts others (p.0 ∙ sym q.0) p.1 q.1
concludes_once s e end c (Err halts.Memory) given acts others p q = absurd p

received_once : (s e end : SessionState) (c : Course) (first given given' acts others : List Action) (a b : Result (Unit {0}) Halt)
    → Received s c first a given acts e → Received s c first b given' others end → (acts ≡ others) × (e ≡ end)
received_once s e end c first given given' acts others a b (ts, m, receives, ends, concludes) (us, n, receives', ends', concludes') =
    let same = all_received_once c m n ts us given given' a b receives receives' ends ends' in
    let at_course : Concludes s m b (first ++ given') others end = subst (λ (x : Course). Concludes s x b (first ++ given') others end) (sym same.1) concludes' in
    let so : Concludes s m a (first ++ given') others end = subst (λ (x : Result (Unit {0}) Halt). Concludes s m x (first ++ given') others end) (sym same.2) at_course in
    concludes_once s e end m a (first ++ given) acts others concludes
    (subst (λ (x : List Action). Concludes s m a (first ++ x) others end) (sym same.0) so)

bytes_once : (s e end : SessionState) (c : Course) (first acts others : List Action) → ReceivesBytes s c first acts e → ReceivesBytes s c first others end → (acts ≡ others) × (e ≡ end)
bytes_once s e end c first acts others (how, given, mid, receives, concludes) (how', given', mid', receives', concludes') =
    received_once s e end c first given given' acts others how how'
    (received s c mid first given acts e how receives concludes) (received s c mid' first given' others end how' receives' concludes')

-- ---- New and Hello

new_once : (s e end : SessionState) (hello : Hello) (c : Course) (event : Event) (acts others : List Action) → GoesNew s hello c event acts e → GoesNew s hello c event others end → (acts ≡ others) × (e ≡ end)
new_once s e end hello c events.Opened acts others p q = both p q
new_once s e end hello c events.Turn acts others p q = both p q
new_once s e end hello c events.Tick acts others p q = both p q
new_once s e end hello c events.Ask acts others p q = both p q
new_once s e end hello c events.CaughtUp acts others p q = both p q
new_once s e end hello c events.End acts others p q = both p q
new_once s e end hello c events.ReadFault acts others p q = both p q
new_once s e end hello c events.WriteFault acts others p q = both p q
new_once s e end hello c (events.Bytes bytes) acts others p q = absurd p
new_once s e end hello c (events.Copied table batch) acts others p q = absurd p
new_once s e end hello c (events.Nothing table) acts others p q = absurd p
new_once s e end hello c (events.Written known) acts others p q = absurd p
new_once s e end hello c (events.Settled table settled) acts others p q = absurd p
new_once s e end hello c (events.Refused table) acts others p q = absurd p

welcomed_once : (welcome : Bool) (version : Version) (code : ℕ) (s e end : SessionState) (c : Course) (rest : List ℕ) (acts others : List Action) → IsWelcomed welcome version code s c rest acts e → IsWelcomed welcome version code s c rest others end → (acts ≡ others) × (e ≡ end)
welcomed_once true version code s e end c rest acts others p q = bytes_once (speaking version s) e end (course_fed c rest) (sends_control (first_word c.stays) ∷ opening version c.shares) acts others p q
welcomed_once false version code s e end c rest acts others p q = both p q

connects_once : (version : Version) (status : Status) (s e end : SessionState) (bytes : List ℕ) (c : Course) (acts others : List Action) → Connects version status s bytes c acts e → Connects version status s bytes c others end → (acts ≡ others) × (e ≡ end)
connects_once version statuses.More s e end bytes c acts others p q = both p q
connects_once version (statuses.Code code used) s e end bytes c acts others p q = welcomed_once _ version code s e end c _ acts others p q
connects_once version (statuses.Other used) s e end bytes c acts others p q = both p q

accepts_once : (answer : Answer) (s e end : SessionState) (greeter : Greeter) (bytes : List ℕ) (c : Course) (acts others : List Action) → Accepts answer s greeter bytes c acts e → Accepts answer s greeter bytes c others end → (acts ≡ others) × (e ≡ end)
accepts_once answers.More s e end greeter bytes c acts others p q = both p q
accepts_once (answers.Accepted name version used) s e end greeter bytes c acts others p q = bytes_once (speaking version s) e end (course_fed c (drop used bytes)) (actions.Send (status_text 200) ∷ opening version c.shares) acts others p q
accepts_once (answers.Refused code used) s e end greeter bytes c acts others p q = both p q

greets_once : (greeter : Greeter) (s e end : SessionState) (bytes : List ℕ) (c : Course) (acts others : List Action) → Greets s greeter bytes c acts e → Greets s greeter bytes c others end → (acts ≡ others) × (e ≡ end)
greets_once (greeters.Connects version) s e end bytes c acts others p q = connects_once version (status_of bytes) s e end bytes c acts others p q
greets_once (greeters.Accepts own peers) s e end bytes c acts others p q = accepts_once (answer_of own peers bytes) s e end _ bytes c acts others p q

hello_once : (s e end : SessionState) (greeter : Greeter) (bytes : List ℕ) (c : Course) (event : Event) (acts others : List Action) → GoesHello s greeter bytes c event acts e → GoesHello s greeter bytes c event others end → (acts ≡ others) × (e ≡ end)
hello_once s e end greeter bytes c (events.Bytes piece) acts others p q = greets_once greeter s e end (bytes ++ piece) c acts others p q
hello_once s e end greeter bytes c events.Turn acts others p q = both p q
hello_once s e end greeter bytes c events.Tick acts others p q = both p q
hello_once s e end greeter bytes c events.Ask acts others p q = both p q
hello_once s e end greeter bytes c events.CaughtUp acts others p q = both p q
hello_once s e end greeter bytes c events.End acts others p q = both p q
hello_once s e end greeter bytes c events.ReadFault acts others p q = both p q
hello_once s e end greeter bytes c events.WriteFault acts others p q = both p q
hello_once s e end greeter bytes c events.Opened acts others p q = absurd p
hello_once s e end greeter bytes c (events.Copied table batch) acts others p q = absurd p
hello_once s e end greeter bytes c (events.Nothing table) acts others p q = absurd p
hello_once s e end greeter bytes c (events.Written known) acts others p q = absurd p
hello_once s e end greeter bytes c (events.Settled table settled) acts others p q = absurd p
hello_once s e end greeter bytes c (events.Refused table) acts others p q = absurd p

-- ---- Ready and Teaching

same_tail : (d : Due) (ds others : List Due) → d ∷ ds ≡ d ∷ others → ds ≡ others
same_tail d ds others same = cc

-- the first answer due is given in one way
answered_once : (c mid next : Course) (d : Due) → Answered c d mid → Answered c d next → next ≡ mid
answered_once c mid next d p q =
    q.1 ∙ ap (λ (x : List Due). record c { due = x }) (same_tail d next.due mid.due (sym q.0 ∙ p.0)) ∙ sym p.1

turns_once : (table : Option ℕ) (s e end : SessionState) (c : Course) (acts others : List Action) → Turns table s c acts e → Turns table s c others end → (acts ≡ others) × (e ≡ end)
turns_once None s e end c acts others p q = both p q
turns_once (Some table) s e end c acts others p q = both p q

finishes_once : (quiet : Bool) (s e end : SessionState) (c : Course) (acts others : List Action) → FinishesResync quiet s c acts e → FinishesResync quiet s c others end → (acts ≡ others) × (e ≡ end)
finishes_once true s e end c acts others p q = both p q
finishes_once false s e end c acts others p q = both p q

nothing_once : (teaching : Bool) (s e end : SessionState) (c : Course) (table : ℕ) (acts others : List Action) → HasNothing teaching s c table acts e → HasNothing teaching s c table others end → (acts ≡ others) × (e ≡ end)
nothing_once true s e end c table acts others p q = finishes_once _ s e end _ acts others p q
nothing_once false s e end c table acts others p q = both p q

starts_once : (starts : Bool) (s e end : SessionState) (c : Course) (acts others : List Action) → StartsPendingResync starts s c acts e → StartsPendingResync starts s c others end → (acts ≡ others) × (e ≡ end)
starts_once true s e end c acts others p q = both p q
starts_once false s e end c acts others p q = both p q

settles_once : (settled : Settled) (s e end : SessionState) (c : Course) (table : ℕ) (acts others : List Action) → Settles settled s c table acts e → Settles settled s c table others end → (acts ≡ others) × (e ≡ end)
settles_once settles.All s e end c table acts others p q = starts_once _ s e end _ acts others p q
settles_once settles.Some s e end c table acts others p q = both p q
settles_once settles.Older s e end c table acts others p q = both p q

open_once : (s e end : SessionState) (c : Course) (event : Event) (acts others : List Action) → GoesOpen s c event acts e → GoesOpen s c event others end → (acts ≡ others) × (e ≡ end)
open_once s e end c events.Turn acts others (none, p) (none', q) = turns_once (table_to_ask c) s e end c acts others p q
open_once s e end c events.Tick acts others (none, p) (none', q) = both p q
open_once s e end c events.Ask acts others (none, p) (none', q) = both p q
open_once s e end c events.CaughtUp acts others (none, p) (none', q) = both p q
open_once s e end c (events.Bytes bytes) acts others (none, p) (none', q) = bytes_once s e end (course_fed c bytes) [] acts others p q
open_once s e end c (events.Copied table batch) acts others (mid, answered, p) (next, answered', q) =
    both p (subst (λ (x : Course). IsCopied s x table batch others end) (answered_once c mid next _ answered answered') q)
open_once s e end c (events.Nothing table) acts others (mid, answered, p) (next, answered', q) =
    nothing_once mid.teaching s e end mid table acts others p (subst (λ (x : Course). HasNothing x.teaching s x table others end) (answered_once c mid next _ answered answered') q)
open_once s e end c (events.Written known) acts others (mid, answered, none, then) (next, answered', none', then') =
    both (none, then) (none', then' ∙ ap (λ (x : Course). record s { phase = phases.Open x; known = known }) (answered_once c mid next _ answered answered'))
open_once s e end c (events.Settled table settled) acts others (mid, answered, p) (next, answered', q) =
    settles_once settled s e end mid table acts others p (subst (λ (x : Course). Settles settled s x table others end) (answered_once c mid next _ answered answered') q)
open_once s e end c (events.Refused table) acts others (mid, answered, parts, then) (next, answered', parts', then') = both (parts, then) (parts', then')
open_once s e end c events.End acts others p q = both p q
open_once s e end c events.ReadFault acts others p q = both p q
open_once s e end c events.WriteFault acts others p q = both p q
open_once s e end c events.Opened acts others p q = absurd p

once_in : (phase : Phase) (s e end : SessionState) (event : Event) (acts others : List Action) → GoesIn phase s event acts e → GoesIn phase s event others end → (acts ≡ others) × (e ≡ end)
once_in (phases.New hello c) s e end event acts others p q = new_once s e end hello c event acts others p q
once_in (phases.Hello greeter bytes c) s e end event acts others p q = hello_once s e end greeter bytes c event acts others p q
once_in (phases.Open c) s e end event acts others p q = open_once s e end c event acts others p q
once_in phases.Ended s e end event acts others p q = absurd p

pub goes_once : (s e end : SessionState) (event : Event) (acts others : List Action) → Goes s event acts e → Goes s event others end → (acts ≡ others) × (e ≡ end)
goes_once s e end event acts others p q = once_in s.phase s e end event acts others p q
