-- Bytes that come in several events ask for the same as all of them in one event.
use Rattle.std.proofs.Common.{◌≡◌, ◌⊎◌, ℕ, suc, inl, inr, Bool, true, false, ◌||◌, List, [], ◌∷◌, ◌++◌, Option, Some, None, Result, Ok, Err, refl, sym, ap, subst, ◌∙◌, append_assoc}
use Rattle.std.proofs.lemmas.List.{append-nil}
use Rattle.std.proofs.lemmas.List.Elements.{filter-append}
use Rattle.std.proofs.lemmas.List.Folds.{list_any-append}
use Rattle.table_types.specs.Tables.{Definition}
use Rattle.peers_msg.specs.Integers.{IsBytes}
use Rattle.peers_msg.specs.declared.control.Control.{Control}
use Rattle.peers_msg.specs.declared.control.Control.TheVariants as controls
use Rattle.peers_msg.specs.Decoding.{together}
use Rattle.peers_msg.proofs.CuttingIndependence.{front_good}
use Rattle.learner.specs.declared.fault.Fault.{Fault}
use Rattle.learner.specs.declared.taken.Taken.{Taken}
use Rattle.learner.specs.declared.taken.Taken.TheVariants as taken
use Rattle.learner.specs.Intake.{Taking, fed}
use Rattle.session_core.specs.declared.action.Action.{Action}
use Rattle.session_core.specs.declared.action.Action.TheVariants as actions
use Rattle.session_core.specs.declared.event.Event.TheVariants as events
use Rattle.session_core.specs.declared.halt.Halt.{Halt}
use Rattle.session_core.specs.declared.halt.Halt.TheVariants as halts
use Rattle.session_core.specs.Phases.{Phase}
use Rattle.session_core.specs.Phases as phases
use Rattle.session_core.specs.Actions.{confirms, is_confirmation}
use Rattle.session_core.specs.Acks.{ack_of}
use Rattle.session_core.specs.Courses.{Course, course_fed, is_held, Receives, AreReceived, message_received, requested, ack_received, acknowledged, said, acks_given, acks_sent}
use Rattle.session_core.specs.Shares.{is_out}
use Rattle.session_core.specs.Sessions.{SessionState, Goes, GoesIn, GoesOpen, ReceivesBytes, Concludes, confirmed_by, ended, going, kind_of_fault}
use Rattle.session_core.specs.Runs.{HoldsBytes}
use Rattle.session_core.specs.Cutting.{IsFedOut, answers_message, without_acks}
use Rattle.session_core.proofs.MachineRuns.{AreFed}
use Rattle.session_core.proofs.BytesStay.{append_good, step_holds}
use Rattle.session_core.proofs.EndLemmas.{silent_acks}
use Rattle.session_core.proofs.ReceivingGoesOn.{received_good}
use Rattle.session_core.proofs.ReadersGoOn.{gives_due, gives_more, reading_of, stops_more, waits_due}
use Rattle.session_core.proofs.StepIsUnique.{Ends, received, goes_once}

-- ---- another intake in the same course

abbrev lift : (Taking → Taking) → Course → Course
lift f c = record c { intake = f c.intake }

requested_lift : (f : Taking → Taking) (waits : Bool) (c : Course) → requested waits (lift f c) ≡ ((requested waits c).0, lift f (requested waits c).1)
requested_lift f true c = refl
requested_lift f false c = refl

acknowledged_lift : (f : Taking → Taking) (out : Bool) (c : Course) (table number : ℕ) → acknowledged out (lift f c) table number ≡ ((acknowledged out c table number).0, lift f (acknowledged out c table number).1)
acknowledged_lift f true c table number = refl
acknowledged_lift f false c table number = refl

said_lift : (f : Taking → Taking) (c : Course) (control : Control) → said (lift f c) control ≡ ((said c control).0, lift f (said c control).1)
said_lift f c controls.ResyncRequest = requested_lift f (is_held c.stays c.shares) c
said_lift f c controls.ResyncFinished = refl
said_lift f c controls.ResyncPartial = refl
said_lift f c controls.ResyncConfirmed = refl
said_lift f c controls.Heartbeat = refl

ack_lift : (f : Taking → Taking) (c : Course) (ack : Option (ℕ × ℕ)) → ack_received (lift f c) ack ≡ ((ack_received c ack).0, lift f (ack_received c ack).1)
ack_lift f c (Some (table, number)) = acknowledged_lift f (is_out table c.shares) c table number
ack_lift f c None = refl

message_lift : (f : Taking → Taking) (c : Course) (t : Taken) → (f c.intake).roster ≡ c.intake.roster → message_received (lift f c) t ≡ ((message_received c t).0, lift f (message_received c t).1)
message_lift f c (taken.Row u) same = refl
message_lift f c taken.Passed same = refl
message_lift f c (taken.Said control) same = said_lift f c control
message_lift f c (taken.Acked table number) same =
    let ack : List Definition → Option (ℕ × ℕ) = λ roster. ack_of roster (taken.Acked table number) in
    ap (λ (roster : List Definition). ack_received (lift f c) (ack roster)) same ∙ ack_lift f c (ack c.intake.roster)
message_lift f c (taken.Failed kind) same = refl

-- ---- more bytes after the messages

received_on : (more : List ℕ) (ts : List Taken) (c e : Course) (acts : List Action) → IsBytes c.intake.unread → AreReceived c ts acts e → AreReceived (course_fed c more) ts acts (course_fed e more)
received_on more [] c e acts good (none, here) = (none, ap (λ (x : Course). course_fed x more) here)
received_on more (t ∷ ts) c e acts good (mid, rest, (whole, gives, then), all, later) =
    let one : Receives (course_fed c more) t (course_fed mid more) = (whole, gives_more (reading_of c) (reading_of mid) t more good gives, ap (λ (x : Course). course_fed x more) then) in
    let next = message_lift (λ (x : Taking). fed x more) mid t refl in
    let left : IsBytes (message_received mid t).1.intake.unread = received_good c (message_received mid t).1 (t ∷ []) ((message_received mid t).0 ++ []) good (mid, [], (whole, gives, then), refl, (refl, refl)) in
    let others = received_on more ts (message_received mid t).1 e rest left later in
    (course_fed mid more, rest, one, all ∙ ap (λ (x : List Action × Course). x.0 ++ rest) (sym next), subst (λ (x : List Action × Course). AreReceived x.1 ts rest (course_fed e more)) (sym next) others)

fed_on : (c e : Course) (bytes more : List ℕ) (ts : List Taken) (acts : List Action) → IsBytes (c.intake.unread ++ bytes) → AreReceived (course_fed c bytes) ts acts e → AreReceived (course_fed c (bytes ++ more)) ts acts (course_fed e more)
fed_on c e bytes more ts acts good receives =
    let grouped : (c.intake.unread ++ bytes) ++ more ≡ c.intake.unread ++ (bytes ++ more) = simp append_assoc in
    subst (λ (all : List ℕ). AreReceived (record c { intake = record c.intake { unread = all } }) ts acts (course_fed e more)) grouped (received_on more ts (course_fed c bytes) e acts good receives)

-- ---- other ids due in the intake

abbrev redue : Course → List ℕ → Course
redue c due = lift (λ (x : Taking). record x { due = due }) c

received_redue : (ts : List Taken) (c e : Course) (acts : List Action) (due : List ℕ) → AreReceived c ts acts e → (after : List ℕ) × AreReceived (redue c due) ts acts (redue e after)
received_redue [] c e acts due (none, here) = (due, (none, ap (λ (x : Course). redue x due) here))
received_redue (t ∷ ts) c e acts due (mid, rest, (whole, gives, then), all, later) =
    let again = gives_due (reading_of c) (reading_of mid) due (Ok (Some t)) gives in
    let after : List ℕ = again.0 in
    let one : Receives (redue c due) t (redue mid after) = (whole, again.1, ap (λ (x : Course). redue x after) then) in
    let next = message_lift (λ (x : Taking). record x { due = after }) mid t refl in
    let others = received_redue ts (message_received mid t).1 e rest after later in
    (others.0, (redue mid after, rest, one, all ∙ ap (λ (x : List Action × Course). x.0 ++ rest) (sym next), subst (λ (x : List Action × Course). AreReceived x.1 ts rest (redue e others.0)) (sym next) others.1))

ends_redue : (c : Course) (due : List ℕ) (end : Result (Unit {0}) Halt) → Ends c end → Ends (redue c due) end
ends_redue c due (Ok u) waits = waits_due (reading_of c) due waits
ends_redue c due (Err halts.Failed) (kind, e, after, gives) =
    let there = gives_due (reading_of c) (record { intake = e; tolerance = after }) due (Ok (Some (taken.Failed kind))) gives in
    (kind, record e { due = there.0 }, after, there.1)
ends_redue c due (Err (halts.Fault fault)) (wanted, e, after, stops) =
    let there = gives_due (reading_of c) (record { intake = e; tolerance = after }) due (Err fault) stops in
    (wanted, record e { due = there.0 }, after, there.1)
ends_redue c due (Err halts.Memory) ends = absurd ends

-- ---- messages after messages

received_then : (ts us : List Taken) (c mid e : Course) (acts others : List Action) → AreReceived c ts acts mid → AreReceived mid us others e → AreReceived c (ts ++ us) (acts ++ others) e
received_then [] us c mid e acts others (none, here) later =
    subst (λ (x : List Action). AreReceived c us (x ++ others) e) (sym none) (subst (λ (x : Course). AreReceived x us others e) here later)
received_then (t ∷ ts) us c mid e acts others (next, rest, receives, all, goes) later =
    let grouped : ((message_received next t).0 ++ rest) ++ others ≡ (message_received next t).0 ++ (rest ++ others) = simp append_assoc in
    (next, rest ++ others, receives, ap (λ (x : List Action). x ++ others) all ∙ grouped, received_then ts us (message_received next t).1 mid e rest others goes later)

-- ---- the actions

-- the last actions at an end
abbrev last_acts : Course → Result (Unit {0}) Halt → List Action
last_acts c (Ok u) = acks_given c
last_acts c (Err halts.Failed) = actions.Close ∷ []
last_acts c (Err (halts.Fault fault)) = actions.Part (kind_of_fault fault) ∷ []
last_acts c (Err halts.Memory) = []

same_last : (c d : Course) (end : Result (Unit {0}) Halt) → without_acks (last_acts c end) ≡ without_acks (last_acts d end)
same_last c d (Ok u) = silent_acks c.intake ∙ sym (silent_acks d.intake)
same_last c d (Err halts.Failed) = refl
same_last c d (Err (halts.Fault fault)) = refl
same_last c d (Err halts.Memory) = refl

heard_both : (a b k x y : List Action) → without_acks k ≡ [] → without_acks x ≡ without_acks y → without_acks ((a ++ b) ++ x) ≡ without_acks (a ++ k) ++ without_acks (b ++ y)
heard_both a b k x y silent same =
    let first : without_acks (a ++ k) ≡ without_acks a = filter-append answers_message a k ∙ ap (λ (acts : List Action). without_acks a ++ acts) silent ∙ append-nil (without_acks a) in
    let grouped : (without_acks a ++ without_acks b) ++ without_acks y ≡ without_acks a ++ (without_acks b ++ without_acks y) = simp append_assoc in
    filter-append answers_message (a ++ b) x
    ∙ ap (λ (acts : List Action). acts ++ without_acks x) (filter-append answers_message a b)
    ∙ ap (λ (acts : List Action). (without_acks a ++ without_acks b) ++ acts) same
    ∙ grouped
    ∙ ap (λ (acts : List Action). acts ++ (without_acks b ++ without_acks y)) (sym first)
    ∙ ap (λ (acts : List Action). without_acks (a ++ k) ++ acts) (sym (filter-append answers_message b y))

-- a confirmation answers a message
confirms_heard : (acts : List Action) → confirms acts ≡ confirms (without_acks acts)
confirms_heard [] = refl
confirms_heard (actions.Send bytes ∷ acts) = sends (is_confirmation (actions.Send bytes)) refl (confirms_heard acts)
  where
    sends : (b : Bool) → is_confirmation (actions.Send bytes) ≡ b → confirms acts ≡ confirms (without_acks acts) → (is_confirmation (actions.Send bytes) || confirms acts) ≡ confirms (without_acks (actions.Send bytes ∷ acts))
    sends true is later = rw (is, is) refl
    sends false is later = rw is later
confirms_heard (actions.Learn u ∷ acts) = confirms_heard acts
confirms_heard (actions.Ack table number ∷ acts) = confirms_heard acts
confirms_heard (actions.Reopen table ∷ acts) = confirms_heard acts
confirms_heard (actions.Copy table kind ∷ acts) = confirms_heard acts
confirms_heard (actions.Teach batch ∷ acts) = confirms_heard acts
confirms_heard (actions.Part kind ∷ acts) = confirms_heard acts
confirms_heard (actions.Close ∷ acts) = confirms_heard acts

pub or_group : (a b c : Bool) → ((a || b) || c) ≡ (a || (b || c))
or_group true b c = refl
or_group false b c = refl

both_confirm : (said : Bool) (one other all : List Action) → without_acks all ≡ without_acks one ++ without_acks other → ((said || confirms one) || confirms other) ≡ (said || confirms all)
both_confirm said one other all heard =
    let same : confirms all ≡ (confirms one || confirms other) =
    confirms_heard all
    ∙ ap confirms heard
    ∙ list_any-append is_confirmation (without_acks one) (without_acks other)
    ∙ ap (λ (b : Bool). b || confirms (without_acks other)) (sym (confirms_heard one))
    ∙ ap (λ (b : Bool). confirms one || b) (sym (confirms_heard other)) in
    or_group said (confirms one) (confirms other) ∙ ap (λ (b : Bool). said || b) (sym same)

-- ---- bytes

pub after_good : (a b : List ℕ) → IsBytes (a ++ b) → IsBytes b
after_good [] b good = good
after_good (x ∷ a) b good = after_good a b (λ i. good (suc i))

-- ---- two events

-- all that was received in one event
whole_event : (s e : SessionState) (c m : Course) (ts : List Taken) (given : List Action) (end : Result (Unit {0}) Halt) → AreReceived c ts given m → Ends m end → Concludes s m end ([] ++ given) (given ++ last_acts m end) e → ReceivesBytes s c [] (given ++ last_acts m end) e
whole_event s e c m ts given (Ok u) receives ends concludes = (Ok u, given, m, (ts, receives, ends), concludes)
whole_event s e c m ts given (Err halts.Failed) receives ends concludes = (Err halts.Failed, given, m, (ts, m, receives, ends), concludes)
whole_event s e c m ts given (Err (halts.Fault fault)) receives ends concludes = (Err (halts.Fault fault), given, m, (ts, m, receives, ends), concludes)
whole_event s e c m ts given (Err halts.Memory) receives ends concludes = absurd concludes

-- what an event asks for ends with the last actions
acts_are : (s e : SessionState) (m : Course) (given acts : List Action) (end : Result (Unit {0}) Halt) → Concludes s m end ([] ++ given) acts e → acts ≡ given ++ last_acts m end
acts_are s e m given acts (Ok u) concludes = concludes.0
acts_are s e m given acts (Err halts.Failed) concludes = concludes.0
acts_are s e m given acts (Err (halts.Fault fault)) concludes = concludes.0
acts_are s e m given acts (Err halts.Memory) concludes = absurd concludes

-- the second event's conclusion, as that of both
concludes_both : (s mid e : SessionState) (m n : Course) (after : List ℕ) (one other all g : List Action) (end : Result (Unit {0}) Halt) → mid ≡ confirmed_by one (going s (acks_sent m)) → Concludes mid n end ([] ++ g) other e
    → (given : List Action) → all ≡ given ++ last_acts (redue n after) end → ((s.confirmed || confirms one) || confirms other) ≡ (s.confirmed || confirms all) → Concludes s (redue n after) end ([] ++ given) all e
concludes_both s mid e m n after one other all g (Ok u) left (is, ends) given is_all confirmed =
    (is_all, ends ∙ ap (λ (x : SessionState). confirmed_by other (going x (acks_sent n))) left ∙ ap (λ (b : Bool). record s { phase = phases.Open (acks_sent n); confirmed = b }) confirmed)
concludes_both s mid e m n after one other all g (Err halts.Failed) left (is, ends) given is_all confirmed =
    (is_all, ends ∙ ap (λ (x : SessionState). confirmed_by other (ended x)) left ∙ ap (λ (b : Bool). record s { phase = phases.Ended; confirmed = b }) confirmed)
concludes_both s mid e m n after one other all g (Err (halts.Fault fault)) left (is, ends) given is_all confirmed = (
  is_all,
  ends
      ∙ ap (λ (x : SessionState). confirmed_by other (record x { phase = phases.Ended; fault = Some fault })) left
      ∙ ap (λ (b : Bool). record s { phase = phases.Ended; fault = Some fault; confirmed = b }) confirmed,
)
concludes_both s mid e m n after one other all g (Err halts.Memory) left concludes given is_all confirmed = absurd concludes

-- both in one event
two_received : (s mid e : SessionState) (c m n : Course) (a b : List ℕ) (ts us : List Taken) (g h one other : List Action) (end : Result (Unit {0}) Halt) → IsBytes (c.intake.unread ++ a)
    → AreReceived (course_fed c a) ts g m → one ≡ g ++ acks_given m → mid ≡ confirmed_by one (going s (acks_sent m))
    → AreReceived (course_fed (acks_sent m) b) us h n → Ends n end → Concludes mid n end ([] ++ h) other e
    → (all : List Action) × ReceivesBytes s (course_fed c (a ++ b)) [] all e × (without_acks all ≡ without_acks one ++ without_acks other)
two_received s mid e c m n a b ts us g h one other end good first is_one left second ends concludes =
    let on : AreReceived (course_fed c (a ++ b)) ts g (course_fed m b) = fed_on c m a b ts g good first in
    let later = received_redue us (course_fed (acks_sent m) b) n h m.intake.due second in
    let whole : AreReceived (course_fed c (a ++ b)) (ts ++ us) (g ++ h) (redue n later.0) = received_then ts us (course_fed c (a ++ b)) (course_fed m b) (redue n later.0) g h on later.1 in
    let all : List Action = (g ++ h) ++ last_acts (redue n later.0) end in
    let is_other : other ≡ h ++ last_acts n end = acts_are mid e n h other end concludes in
    let heard : without_acks all ≡ without_acks one ++ without_acks other =
    heard_both g h (acks_given m) (last_acts (redue n later.0) end) (last_acts n end) (silent_acks m.intake) (same_last (redue n later.0) n end)
    ∙ ap (λ (x : List Action). without_acks x ++ without_acks (h ++ last_acts n end)) (sym is_one)
    ∙ ap (λ (x : List Action). without_acks one ++ without_acks x) (sym is_other) in
    let ends_so = concludes_both s mid e m n later.0 one other all h end left concludes (g ++ h) refl (both_confirm s.confirmed one other all heard) in
    (all, whole_event s e (course_fed c (a ++ b)) (redue n later.0) (ts ++ us) (g ++ h) end whole (ends_redue n later.0 end ends) ends_so, heard)

-- ---- events one after another

-- what an event leaves: an open session, with the messages received and the acknowledgements sent, or one that is over
abbrev Leaves : SessionState → Course → List ℕ → List Action → SessionState → Type 0
Leaves s c a one mid =
    ((ts : List Taken) × (g : List Action) × (m : Course) × AreReceived (course_fed c a) ts g m × (one ≡ g ++ acks_given m) × (mid ≡ confirmed_by one (going s (acks_sent m)))) ⊎ (mid.phase ≡ phases.Ended)

leaves : (s mid : SessionState) (c : Course) (a : List ℕ) (one : List Action) → ReceivesBytes s (course_fed c a) [] one mid → Leaves s c a one mid
leaves s mid c a one (Ok u, g, m, (ts, receives, waits), (is, ends)) = inl (ts, g, m, receives, is, ends)
leaves s mid c a one (Err halts.Failed, g, m, receives, (is, ends)) = inr (ap (λ (x : SessionState). x.phase) ends)
leaves s mid c a one (Err (halts.Fault fault), g, m, receives, (is, ends)) = inr (ap (λ (x : SessionState). x.phase) ends)
leaves s mid c a one (Err halts.Memory, g, m, receives, concludes) = absurd concludes

two : (s mid e : SessionState) (c : Course) (a b : List ℕ) (one other : List Action) → s.phase ≡ phases.Open c → IsBytes (c.intake.unread ++ a) → Goes s (events.Bytes a) one mid → Goes mid (events.Bytes b) other e
    → (all : List Action) × Goes s (events.Bytes (a ++ b)) all e × (without_acks all ≡ without_acks one ++ without_acks other)
two s mid e c a b one other is good first second =
    let here : GoesOpen s c (events.Bytes a) one mid = subst (λ (p : Phase). GoesIn p s (events.Bytes a) one mid) is first in
    by here.0 (leaves s mid c a one here.1)
  where
    by : c.due ≡ [] → Leaves s c a one mid → (all : List Action) × Goes s (events.Bytes (a ++ b)) all e × (without_acks all ≡ without_acks one ++ without_acks other)
    by none (inr over) = absurd (subst (λ (p : Phase). GoesIn p mid (events.Bytes b) other e) over second)
    by none (inl (ts, g, m, receives, is_one, left)) =
        let there : GoesOpen mid (acks_sent m) (events.Bytes b) other e = subst (λ (p : Phase). GoesIn p mid (events.Bytes b) other e) (ap (λ (x : SessionState). x.phase) left) second in
        let later = received mid (course_fed (acks_sent m) b) there.1.2 [] there.1.1 other e there.1.0 there.1.3 there.1.4 in
        let both = two_received s mid e c m later.1 a b ts later.0 g there.1.1 one other there.1.0 good receives is_one left later.2 later.3 later.4 in
        let open_goes : GoesOpen s c (events.Bytes (a ++ b)) both.0 e = (none, both.1) in
        (both.0, subst (λ (p : Phase). GoesIn p s (events.Bytes (a ++ b)) both.0 e) (sym is) open_goes, both.2)

-- what an open session that goes on holds
open_after : (s mid : SessionState) (c : Course) (a : List ℕ) (one : List Action) → GoesOpen s c (events.Bytes a) one mid → ((d : Course) × (mid.phase ≡ phases.Open d)) ⊎ (mid.phase ≡ phases.Ended)
open_after s mid c a one (none, receives) = elim (leaves s mid c a one receives) [
  | inl going_on ↦ inl (acks_sent going_on.2, ap (λ (x : SessionState). x.phase) going_on.5)
  | inr over ↦ inr over
]

fed_whole : (pieces : List (List ℕ)) (s e : SessionState) (c : Course) (a : List ℕ) (acts : List Action) → s.phase ≡ phases.Open c → HoldsBytes s.phase → IsBytes (together (a ∷ pieces)) → AreFed s (a ∷ pieces) acts e
    → (all : List Action) × Goes s (events.Bytes (together (a ∷ pieces))) all e × (without_acks all ≡ without_acks acts)
fed_whole [] s e c a acts is holds good (one, rest, mid, all, goes, (none, here)) =
    let acts_one : one ≡ acts = sym (append-nil one) ∙ ap (λ (x : List Action). one ++ x) (sym none) ∙ sym all in
    let there : Goes s (events.Bytes a) one e = subst (λ (x : SessionState). Goes s (events.Bytes a) one x) (sym here) goes in
    (one, subst (λ (bytes : List ℕ). Goes s (events.Bytes bytes) one e) (sym (append-nil a)) there, ap without_acks acts_one)
fed_whole (b ∷ pieces) s e c a acts is holds good (one, rest, mid, all, goes, later) =
    let here = open_after s mid c a one (subst (λ (p : Phase). GoesIn p s (events.Bytes a) one mid) is goes) in
    by here (λ d going_on held good_more. fed_whole pieces mid e d b rest going_on held good_more later)
  where
    more : List ℕ
    more = together (b ∷ pieces)

    by : ((d : Course) × (mid.phase ≡ phases.Open d)) ⊎ (mid.phase ≡ phases.Ended)
        → ((d : Course) → mid.phase ≡ phases.Open d → HoldsBytes mid.phase → IsBytes more → (x : List Action) × Goes mid (events.Bytes more) x e × (without_acks x ≡ without_acks rest))
        → (x : List Action) × Goes s (events.Bytes (a ++ more)) x e × (without_acks x ≡ without_acks acts)
    by (inr over) wholes = absurd (subst (λ (p : Phase). GoesIn p mid (events.Bytes b) later.0 later.2) over later.4)
    by (inl (d, going_on)) wholes =
        let good_a : IsBytes a = front_good a more good in
        let unread : IsBytes c.intake.unread = subst HoldsBytes is holds in
        let rest_whole = wholes d going_on (step_holds s mid (events.Bytes a) one holds good_a goes) (after_good a more good) in
        let both = two s mid e c a more one rest_whole.0 is (append_good c.intake.unread a unread good_a) goes rest_whole.1 in
        let heard : without_acks both.0 ≡ without_acks acts =
        both.2 ∙ ap (λ (x : List Action). without_acks one ++ x) rest_whole.2 ∙ sym (filter-append answers_message one rest) ∙ ap without_acks (sym all) in
        (both.0, both.1, heard)

-- ---- bytes after the end of a session

-- what ends a session ends it with more bytes after it
over_on : (s e : SessionState) (c : Course) (bytes more : List ℕ) (acts : List Action) → IsBytes (c.intake.unread ++ bytes) → ReceivesBytes s (course_fed c bytes) [] acts e → e.phase ≡ phases.Ended → ReceivesBytes s (course_fed c (bytes ++ more)) [] acts e
over_on s e c bytes more acts good (Ok u, given, m, receives, (is, ends)) over =
    let never : phases.Open (acks_sent m) ≡ phases.Ended = sym (ap (λ (x : SessionState). x.phase) ends) ∙ over in
    absurd cc
over_on s e c bytes more acts good (Err halts.Failed, given, m, (ts, mid, receives, (kind, x, after, gives)), concludes) over =
    let left : IsBytes mid.intake.unread = received_good (course_fed c bytes) mid ts given good receives in
    let on : AreReceived (course_fed c (bytes ++ more)) ts given (course_fed mid more) = fed_on c mid bytes more ts given good receives in
    (Err halts.Failed, given, m, (ts, course_fed mid more, on, (kind, fed x more, after, gives_more (reading_of mid) (record { intake = x; tolerance = after }) (taken.Failed kind) more left gives)), concludes)
over_on s e c bytes more acts good (Err (halts.Fault fault), given, m, (ts, mid, receives, (wanted, x, after, stops)), concludes) over =
    let left : IsBytes mid.intake.unread = received_good (course_fed c bytes) mid ts given good receives in
    let on : AreReceived (course_fed c (bytes ++ more)) ts given (course_fed mid more) = fed_on c mid bytes more ts given good receives in
    let there = stops_more (reading_of mid) (record { intake = x; tolerance = after }) fault more left wanted stops in
    (Err (halts.Fault fault), given, m, (ts, course_fed mid more, on, (wanted, there.0.intake, there.0.tolerance, there.1)), concludes)
over_on s e c bytes more acts good (Err halts.Memory, given, m, receives, concludes) over = absurd concludes

out_on : (s e : SessionState) (c : Course) (bytes more : List ℕ) (acts : List Action) → s.phase ≡ phases.Open c → IsBytes (c.intake.unread ++ bytes) → IsFedOut more e → Goes s (events.Bytes bytes) acts e → Goes s (events.Bytes (bytes ++ more)) acts e
out_on s e c bytes more acts is good (inl none) goes =
    subst (λ (b : List ℕ). Goes s (events.Bytes b) acts e) (sym (append-nil bytes) ∙ ap (λ (b : List ℕ). bytes ++ b) (sym none)) goes
out_on s e c bytes more acts is good (inr over) goes =
    let here : GoesOpen s c (events.Bytes bytes) acts e = subst (λ (p : Phase). GoesIn p s (events.Bytes bytes) acts e) is goes in
    let there : GoesOpen s c (events.Bytes (bytes ++ more)) acts e = (here.0, over_on s e c bytes more acts good here.1 over) in
    subst (λ (p : Phase). GoesIn p s (events.Bytes (bytes ++ more)) acts e) (sym is) there

-- however the bytes are cut
pub same_however_fed : (s e f : SessionState) (c : Course) (a b more rest : List ℕ) (pieces others : List (List ℕ)) (acts given : List Action) → s.phase ≡ phases.Open c → HoldsBytes s.phase
    → IsBytes (together (a ∷ pieces) ++ more) → together (a ∷ pieces) ++ more ≡ together (b ∷ others) ++ rest
    → AreFed s (a ∷ pieces) acts e → AreFed s (b ∷ others) given f → IsFedOut more e → IsFedOut rest f → (without_acks acts ≡ without_acks given) × (e ≡ f)
same_however_fed s e f c a b more rest pieces others acts given is holds good cut one other out out' =
    let unread : IsBytes c.intake.unread = subst HoldsBytes is holds in
    let one_good : IsBytes (together (a ∷ pieces)) = front_good (together (a ∷ pieces)) more good in
    let other_good : IsBytes (together (b ∷ others)) = front_good (together (b ∷ others)) rest (subst IsBytes cut good) in
    let first = fed_whole pieces s e c a acts is holds one_good one in
    let second = fed_whole others s f c b given is holds other_good other in
    let first_on = out_on s e c (together (a ∷ pieces)) more first.0 is (append_good c.intake.unread (together (a ∷ pieces)) unread one_good) out first.1 in
    let second_on = out_on s f c (together (b ∷ others)) rest second.0 is (append_good c.intake.unread (together (b ∷ others)) unread other_good) out' second.1 in
    let same = goes_once s e f (events.Bytes (together (b ∷ others) ++ rest)) first.0 second.0 (subst (λ (bytes : List ℕ). Goes s (events.Bytes bytes) first.0 e) cut first_on) second_on in
    (sym first.2 ∙ ap without_acks same.0 ∙ second.2, same.1)
