-- How far an error lets a session's actions go.
use Rattle.std.proofs.Common.{◌≡◌, ◌⊎◌, ℕ, Bool, true, false, List, [], ◌∷◌, ◌++◌, Option, Some, None, refl, sym, ap, ◌∙◌, subst, inl, inr, append_assoc}
use Rattle.std.proofs.lemmas.List.{append-nil}
use Rattle.std.proofs.lemmas.List.Concat.{flat_map-append}
use Rattle.std.proofs.lemmas.Bool.{false≢true, and_parts}
use Rattle.std.specs.Prelude.{◌≢◌}
use Rattle.std.specs.List.{list_all}
use Rattle.table_shards.specs.Receipts.{SeatState}
use Rattle.table_shards.specs.Rounds.{ShardsState}
use Rattle.table_types.specs.declared.copies.CopyKind.TheVariants as copies
use Rattle.session_core.specs.declared.action.Action.{Action}
use Rattle.session_core.specs.declared.action.Action.TheVariants as actions
use Rattle.session_core.specs.declared.event.Event.{Event}
use Rattle.session_core.specs.declared.state.State.TheVariants as states
use Rattle.session_core.specs.Keeping.{KeptSession, Steps, is_staying}
use Rattle.session_core.specs.Happenings.{Walks}
use Rattle.session_core.specs.Sessions.{SessionState, ended, state_of}
use Rattle.session_core.specs.Hearing.{asked_in}
use Rattle.peers_engine.specs.declared.errors.EngineError.{EngineError}
use Rattle.peers_engine.specs.Doing.{Done}
use Rattle.peers_engine.specs.Acting.{Acts, DoesNotGoOn, DoneBy, EndsAlike, FailsBy, IsCut, IsLost, IsOver, Stops, IsGiven, Worker, stands}
use Rattle.peers_engine.specs.Turns.{Breaks, BreaksAt, Halts, HaltsAt, Idles, Reacts, Receives, StopsTurn, TakesTurn, Turns, Works, first_event, is_push}
use Rattle.peers_engine.proofs.ActLaws.{acts_on, one_act, given_some}
use Rattle.peers_engine.proofs.RunLaws.{acts_walk, same_moment, walks_on}

-- ---- what was asked for

pub asked_on : (first rest : List (Event × List Action)) → asked_in (first ++ rest) ≡ asked_in first ++ asked_in rest
asked_on first rest = flat_map-append (λ (step : Event × List Action). step.1) first rest

-- ---- one action

-- one more action is performed
pub act_more : (s mid : Worker) (e : KeptSession) (seat : SeatState) (acts : List Action) (act : Action) (answer : Option Event) (answers steps : List (Event × List Action)) (out bytes : List ℕ)
    → Acts s acts answers out mid → DoneBy mid act bytes answer seat → IsGiven mid.session mid.now answer steps e
    → Acts s (acts ++ (act ∷ [])) (answers ++ steps) (out ++ bytes) (stands mid e seat)
act_more s mid e seat acts act answer answers steps out bytes acted done gives =
    acts_on s mid (stands mid e seat) acts (act ∷ []) answers steps out bytes acted (one_act mid e seat act answer steps bytes done gives)

-- an action failed
pub act_stops : (shards : ShardsState) (s mid : Worker) (seat : SeatState) (all before rest : List Action) (act : Action) (error : EngineError) (answers : List (Event × List Action)) (first last : List ℕ)
    → all ≡ before ++ (act ∷ rest) → Acts s before answers first mid → FailsBy shards mid act error last seat
    → Stops shards s all error answers (first ++ last) mid.session seat
act_stops shards s mid seat all before rest act error answers first last is acted fails =
    (before, act ∷ rest, first, last, mid, is, acted, inl (inl fails), refl, (refl, refl, refl, refl))

pub more_answers : (answers : List (Event × List Action)) (step : Event × List Action) → (answers ++ (step ∷ [])) ≢ []
more_answers [] step is = cc is
more_answers (one ∷ answers) step is = cc is

-- an action succeeded, and its answer was refused, or memory ran out for what it asks for
pub give_stops : (shards : ShardsState) (s mid : Worker) (e : KeptSession) (seat : SeatState) (all before rest : List Action) (act : Action) (answer : Option Event) (event : Event) (error : EngineError) (answers : List (Event × List Action)) (first bytes : List ℕ)
    → all ≡ before ++ (act ∷ rest) → Acts s before answers first mid → DoneBy mid act bytes answer seat → answer ≡ Some event
    → state_of mid.session.session.phase ≢ states.Ended → DoesNotGoOn mid.session mid.now event error e
    → (answers' : List (Event × List Action)) × Stops shards s all error answers' (first ++ bytes) e seat
give_stops shards s mid e seat all before rest act answer event error answers first bytes is acted done some going (inl (refused, over)) =
    let answered = subst (λ (x : Option Event). DoneBy mid act bytes x seat) some done in
    (answers, (before, act ∷ rest, first, bytes, mid, is, acted, inl (inr (event, answered, going, refused)), refl, (ap ended over.0, over.1, over.2, over.3)))
give_stops shards s mid e seat all before rest act answer event error answers first bytes is acted done some going (inr (acts, taken, memory)) =
    let rejoined : all ≡ (before ++ (act ∷ [])) ++ rest = is ∙ sym (append_assoc before (act ∷ []) rest) in
    let more = act_more s mid e seat before act answer answers ((event, acts) ∷ []) first bytes acted done (given_some mid.session e mid.now answer event acts some taken) in
    (answers ++ ((event, acts) ∷ []), (before ++ (act ∷ []), rest, first ++ bytes, [], stands mid e seat, rejoined, more, inr ((more_answers answers (event, acts), memory, refl), refl), sym (append-nil (first ++ bytes)), (refl, refl, refl, refl)))

-- ---- what the answers ask for, one list after another

pub cut_more : (shards : ShardsState) (s : Worker) (seat : SeatState) (rest more : List Action) (answers : List (Event × List Action)) (error : EngineError) (out : List ℕ)
    → (IsCut shards s rest error out seat ⊎ (IsLost answers error out × (seat ≡ s.seat))) → (IsCut shards s (rest ++ more) error out seat ⊎ (IsLost answers error out × (seat ≡ s.seat)))
cut_more shards s seat [] more answers error out (inl cut) = absurd cut
cut_more shards s seat (act ∷ rest) more answers error out (inl cut) = inl cut
cut_more shards s seat rest more answers error out (inr lost) = inr lost

pub after_nothing : (first rest : List (Event × List Action)) → rest ≢ [] → (first ++ rest) ≢ []
after_nothing [] rest some is = some is
after_nothing (step ∷ first) rest some is = cc is

pub lost_later : (shards : ShardsState) (s : Worker) (seat : SeatState) (rest : List Action) (first answers : List (Event × List Action)) (error : EngineError) (out : List ℕ)
    → (IsCut shards s rest error out seat ⊎ (IsLost answers error out × (seat ≡ s.seat))) → (IsCut shards s rest error out seat ⊎ (IsLost (first ++ answers) error out × (seat ≡ s.seat)))
lost_later shards s seat rest first answers error out (inl cut) = inl cut
lost_later shards s seat rest first answers error out (inr ((some, memory, nothing), same)) = inr ((after_nothing first answers some, memory, nothing), same)

-- The actions and those of the first answers, `done`, are performed; those of the others, `given`, aren't yet.
abbrev pub Went : Worker → List Action → List Action → List Action → Worker → List ℕ → Type 0
Went s acts done given e out = (answers : List (Event × List Action)) × Acts s (acts ++ done) answers out e × (asked_in answers ≡ done ++ given)

pub went_first : (s e : Worker) (acts given : List Action) (answers : List (Event × List Action)) (out : List ℕ) → Acts s acts answers out e → given ≡ asked_in answers → Went s acts [] given e out
went_first s e acts given answers out acted is = (answers, subst (λ (x : List Action). Acts s x answers out e) (sym (append-nil acts)) acted, sym is)

pub went_on : (s mid e : Worker) (acts done given more : List Action) (answers : List (Event × List Action)) (out rest : List ℕ)
    → Went s acts done given mid out → Acts mid given answers rest e → more ≡ asked_in answers → Went s acts (done ++ given) more e (out ++ rest)
went_on s mid e acts done given more answers out rest (before, acted, all) then is = (
  before ++ answers,
  subst (λ (x : List Action). Acts s x (before ++ answers) (out ++ rest) e) (append_assoc acts done given) (acts_on s mid e (acts ++ done) given before answers out rest acted then),
  asked_on before answers ∙ (ap (λ (x : List Action). x ++ asked_in answers) all ∙ ap (λ (x : List Action). (done ++ given) ++ x) (sym is)),
)

-- nothing more is asked for
pub react_done : (s e : Worker) (mid : KeptSession) (event : Event) (acts done given : List Action) (out : List ℕ)
    → Steps s.session s.now event acts mid → Went (stands s mid s.seat) acts done given e out → given ≡ [] → Reacts s event out e
react_done s e mid event acts done given out taken (answers, acted, all) none =
    let is : asked_in answers ≡ done = all ∙ (ap (λ (x : List Action). done ++ x) none ∙ append-nil done) in
    (acts, answers, mid, taken, subst (λ (x : List Action). Acts (stands s mid s.seat) (acts ++ x) answers out e) (sym is) acted)

-- the same, and there was something to do
pub react_works : (s e : Worker) (mid : KeptSession) (event : Event) (acts done given : List Action) (out : List ℕ)
    → Steps s.session s.now event acts mid → Went (stands s mid s.seat) acts done given e out → given ≡ [] → (list_all is_push acts ≡ false) ⊎ (done ≢ []) → Works s event out e
react_works s e mid event acts done given out taken (answers, acted, all) none some =
    let is : asked_in answers ≡ done = all ∙ (ap (λ (x : List Action). done ++ x) none ∙ append-nil done) in
    (acts, answers, mid, taken, left answers is some, subst (λ (x : List Action). Acts (stands s mid s.seat) (acts ++ x) answers out e) (sym is) acted)
  where
    left : (answers : List (Event × List Action)) → asked_in answers ≡ done → (list_all is_push acts ≡ false) ⊎ (done ≢ []) → (list_all is_push acts ≡ false) ⊎ (asked_in answers ≢ [])
    left answers is (inl more) = inl more
    left answers is (inr more) = inr (λ empty. more (sym is ∙ empty))

-- an error among the actions `given`
pub react_stops : (shards : ShardsState) (s next : Worker) (mid e : KeptSession) (seat : SeatState) (event : Event) (acts done given : List Action) (error : EngineError) (more : List (Event × List Action)) (out rest : List ℕ)
    → Steps s.session s.now event acts mid → Went (stands s mid s.seat) acts done given next out → Stops shards next given error more rest e seat → Halts shards s event error (out ++ rest) e seat
react_stops shards s next mid e seat event acts done given error more out rest taken (answers, acted, asks) (before, left, first, last, then, is, also, cut, written, same) =
    let all : acts ++ asked_in (answers ++ more) ≡ ((acts ++ done) ++ before) ++ (left ++ asked_in more) =
    ap (λ (x : List Action). acts ++ x) (asked_on answers more)
    ∙ (ap (λ (x : List Action). acts ++ (x ++ asked_in more)) (asks ∙ ap (λ (x : List Action). done ++ x) is)
    ∙ (ap (λ (x : List Action). acts ++ x) (append_assoc done (before ++ left) (asked_in more) ∙ ap (λ (x : List Action). done ++ x) (append_assoc before left (asked_in more)))
    ∙ (sym (append_assoc acts done (before ++ (left ++ asked_in more)))
    ∙ sym (append_assoc (acts ++ done) before (left ++ asked_in more))))) in
    let done_on = acts_on (stands s mid s.seat) next then (acts ++ done) before answers more out first acted also in
    let rejoined : out ++ rest ≡ (out ++ first) ++ last = ap (λ (x : List ℕ). out ++ x) written ∙ sym (append_assoc out first last) in
    inr (acts, answers ++ more, mid, taken, ((acts ++ done) ++ before, left ++ asked_in more, out ++ first, last, then, all, done_on, lost_later shards then seat (left ++ asked_in more) answers more error last (cut_more shards then seat left (asked_in more) more error last cut), rejoined, same))

-- an error among what the event itself asked for
pub react_stops_first : (shards : ShardsState) (s : Worker) (mid e : KeptSession) (seat : SeatState) (event : Event) (acts : List Action) (error : EngineError) (answers : List (Event × List Action)) (out : List ℕ)
    → Steps s.session s.now event acts mid → Stops shards (stands s mid s.seat) acts error answers out e seat → Halts shards s event error out e seat
react_stops_first shards s mid e seat event acts error answers out taken (before, rest, first, last, next, is, acted, cut, written, same) =
    let all : acts ++ asked_in answers ≡ before ++ (rest ++ asked_in answers) = ap (λ (x : List Action). x ++ asked_in answers) is ∙ append_assoc before rest (asked_in answers) in
    inr (acts, answers, mid, taken, (before, rest ++ asked_in answers, first, last, next, all, acted, cut_more shards next seat rest (asked_in answers) answers error last cut, written, same))

-- ---- runs

pub walk_of : (s e : Worker) (event : Event) (out : List ℕ) → Reacts s event out e → (acts : List Action) × (steps : List (Event × List Action)) × Walks s.now s.session ((event, acts) ∷ steps) e.session
walk_of s e event out (acts, answers, mid, taken, done) = (acts, answers, (mid, taken, acts_walk (stands s mid s.seat) e (acts ++ asked_in answers) answers out done))

idles_walk : (s e : Worker) (event : Event) → Idles s event e → (e.now ≡ s.now) × ((acts : List Action) × (steps : List (Event × List Action)) × Walks s.now s.session ((event, acts) ∷ steps) e.session)
idles_walk s e event (acts, answers, mid, taken, pushes, done, nothing) =
    (same_moment (stands s mid s.seat) e acts answers [] done, (acts, answers, (mid, taken, acts_walk (stands s mid s.seat) e acts answers [] done)))

receives_walk : (s e : Worker) (received : Option Event) (out : List ℕ) → Receives s received out e → (steps : List (Event × List Action)) × Walks s.now s.session steps e.session
receives_walk s e None out (nothing, same) = ([], ap (λ (x : Worker). x.session) same)
receives_walk s e (Some event) out reacts = let one = walk_of s e event out reacts in ((event, one.0) ∷ one.1, one.2)

-- the session moved by a run
pub turns_of : {untouched : Type 0} (s e : Worker) (received : Option Event) (out : List ℕ) → TakesTurn untouched s received out e → Turns s.now s.session e.session
turns_of s e received out (inl (still, none, reacts)) = walk_of s e (first_event (state_of s.session.session.phase)) out reacts
turns_of s e received out (inr (mid, idles, receives)) =
    let one = idles_walk s mid (first_event (state_of s.session.session.phase)) idles in
    let more = receives_walk mid e received out receives in
    let then = subst (λ (m : ℕ). Walks m mid.session more.0 e.session) one.0 more.1 in
    (one.1.0, one.1.1 ++ more.0, walks_on s.now s.session mid.session e.session ((first_event (state_of s.session.session.phase), one.1.0) ∷ one.1.1) more.0 one.1.2 then)

-- how far a run went
abbrev Ran : ℕ → KeptSession → Event → KeptSession → Type 0
Ran now s event e =
    (acts : List Action) × (steps : List (Event × List Action)) × (mid : KeptSession) × Walks now s ((event, acts) ∷ steps) mid × EndsAlike mid e

halts_ran : (shards : ShardsState) (s : Worker) (e : KeptSession) (seat : SeatState) (event : Event) (error : EngineError) (out : List ℕ) → Halts shards s event error out e seat → EndsAlike s.session e ⊎ Ran s.now s.session event e
halts_ran shards s e seat event error out (inl (refused, none, same, stays)) = inl same
halts_ran shards s e seat event error out (inr (acts, answers, mid, taken, (before, rest, first, last, next, is, acted, cut, written, same))) =
    inr (acts, answers, next.session, (mid, taken, acts_walk (stands s mid s.seat) next before answers first acted), same)

halted_ran : (shards : ShardsState) (s : Worker) (e : KeptSession) (seat : SeatState) (received : Option Event) (error : EngineError) (out : List ℕ) → HaltsAt shards s received error out e seat
    → (steps : List (Event × List Action)) × (mid : KeptSession) × Walks s.now s.session steps mid × EndsAlike mid e
halted_ran shards s e seat None error out (unread, nothing, same, stays) = ([], s.session, refl, same)
halted_ran shards s e seat (Some event) error out halts = elim (halts_ran shards s e seat event error out halts) [
  | inl same ↦ ([], s.session, refl, same)
  | inr ran ↦ ((event, ran.0) ∷ ran.1, ran.2, ran.3, ran.4)
]

-- the session is then ended
over_after : (s e new : KeptSession) → EndsAlike s e → IsOver e new → IsOver s new
over_after s e new same is = (is.0 ∙ same.0, is.1 ∙ same.1, is.2 ∙ same.2, is.3 ∙ same.3)

-- the session moved by a run or none, and was then ended
pub breaks_of : (shards : ShardsState) {untouched : Type 0} (s : Worker) (e new : KeptSession) (seat : SeatState) (received : Option Event) (error : EngineError) (out : List ℕ) → StopsTurn shards untouched s received error out e seat → IsOver e new → Breaks s.now s.session new
breaks_of shards s e new seat received error out (inl (still, none, halts)) is = elim (halts_ran shards s e seat (first_event (state_of s.session.session.phase)) error out halts) [
  | inl same ↦ inl (over_after s.session e new same is)
  | inr ran ↦ inr (ran.2, (ran.0, ran.1, ran.3), over_after ran.2 e new ran.4 is)
]
breaks_of shards s e new seat received error out (inr (mid, idles, halts)) is =
    let one = idles_walk s mid (first_event (state_of s.session.session.phase)) idles in
    let more = halted_ran shards mid e seat received error out halts in
    let then = subst (λ (m : ℕ). Walks m mid.session more.0 more.1) one.0 more.2 in
    inr (more.1, (one.1.0, one.1.1 ++ more.0, walks_on s.now s.session mid.session more.1 ((first_event (state_of s.session.session.phase), one.1.0) ∷ one.1.1) more.0 one.1.2 then), over_after more.1 e new more.3 is)

-- so it is of one event
pub breaks_at : (shards : ShardsState) (s : Worker) (e new : KeptSession) (seat : SeatState) (event : Event) (error : EngineError) (out : List ℕ) → Halts shards s event error out e seat → IsOver e new → BreaksAt s.now event s.session new
breaks_at shards s e new seat event error out halts is = elim (halts_ran shards s e seat event error out halts) [
  | inl same ↦ inl (over_after s.session e new same is)
  | inr ran ↦ inr (ran.2, (ran.0, ran.1, ran.3), over_after ran.2 e new ran.4 is)
]

-- ---- the end

alike_after : (s e new : KeptSession) → EndsAlike s e → IsOver e new → EndsAlike s new
alike_after s e new same is = (ap ended is.0 ∙ same.0, is.1 ∙ same.1, is.2 ∙ same.2, is.3 ∙ same.3)

stop_ended : (shards : ShardsState) (s : Worker) (e new : KeptSession) (seat : SeatState) (acts : List Action) (error : EngineError) (answers : List (Event × List Action)) (out : List ℕ)
    → Stops shards s acts error answers out e seat → IsOver e new → Stops shards s acts error answers out new seat
stop_ended shards s e new seat acts error answers out (before, rest, first, last, mid, is, acted, cut, written, same) over =
    (before, rest, first, last, mid, is, acted, cut, written, alike_after mid.session e new same over)

pub halt_ended : (shards : ShardsState) (s : Worker) (e new : KeptSession) (seat : SeatState) (event : Event) (error : EngineError) (out : List ℕ) → Halts shards s event error out e seat → IsOver e new → Halts shards s event error out new seat
halt_ended shards s e new seat event error out (inl (refused, nothing, same, stays)) over = inl (refused, nothing, alike_after s.session e new same over, stays)
halt_ended shards s e new seat event error out (inr (acts, answers, mid, taken, stops)) over =
    inr (acts, answers, mid, taken, stop_ended shards (stands s mid s.seat) e new seat (acts ++ asked_in answers) error answers out stops over)

halts_ended : (shards : ShardsState) (s : Worker) (e new : KeptSession) (seat : SeatState) (received : Option Event) (error : EngineError) (out : List ℕ) → HaltsAt shards s received error out e seat → IsOver e new → HaltsAt shards s received error out new seat
halts_ended shards s e new seat None error out (unread, nothing, same, stays) over = (unread, nothing, alike_after s.session e new same over, stays)
halts_ended shards s e new seat (Some event) error out halts over = halt_ended shards s e new seat event error out halts over

-- what was written stays so when the session is ended
pub halted : (shards : ShardsState) {untouched : Type 0} (s : Worker) (e new : KeptSession) (seat : SeatState) (received : Option Event) (error : EngineError) (out : List ℕ) → StopsTurn shards untouched s received error out e seat → IsOver e new → StopsTurn shards untouched s received error out new seat
halted shards s e new seat received error out (inl (still, none, halts)) over = inl (still, none, halt_ended shards s e new seat (first_event (state_of s.session.session.phase)) error out halts over)
halted shards s e new seat received error out (inr (mid, idles, halts)) over = inr (mid, idles, halts_ended shards mid e new seat received error out halts over)

-- ---- nothing to do

-- pushes write nothing
push_silent : (stays : Bool) (n now : ℕ) (x : SessionState) (s t : SeatState) (act : Action) (out : List ℕ) (answer : Option Event) → is_push act ≡ true → Done stays n now x s act out answer t → out ≡ []
push_silent stays n now x s t (actions.Copy table copies.Push) out answer is done = done.0
push_silent stays n now x s t (actions.Copy table copies.Resync) out answer is done = done.0
push_silent stays n now x s t (actions.Copy table copies.Standing) out answer is done = done.0
push_silent stays n now x s t (actions.Send bytes) out answer is done = absurd (false≢true is)
push_silent stays n now x s t (actions.Learn u) out answer is done = absurd (false≢true is)
push_silent stays n now x s t (actions.Ack table number) out answer is done = absurd (false≢true is)
push_silent stays n now x s t (actions.Reopen table) out answer is done = absurd (false≢true is)
push_silent stays n now x s t (actions.Teach batch) out answer is done = absurd (false≢true is)
push_silent stays n now x s t (actions.Part kind) out answer is done = absurd (false≢true is)
push_silent stays n now x s t actions.Close out answer is done = absurd (false≢true is)

pushes_silent : (s e : Worker) (acts : List Action) (answers : List (Event × List Action)) (out : List ℕ) → list_all is_push acts ≡ true → Acts s acts answers out e → out ≡ []
pushes_silent s e [] answers out are (none, nothing, same) = nothing
pushes_silent s e (act ∷ acts) answers out are (bytes, more, answer, first, rest, seat, mid, done, gives, after, is, written) =
    let both = and_parts (is_push act) (list_all is_push acts) are in
    written
    ∙ (ap (λ (x : List ℕ). x ++ more) (push_silent (is_staying s.session.manner) s.number s.now s.session.session s.seat seat act bytes answer both.0 done)
    ∙ pushes_silent (stands s mid seat) e acts rest more both.1 after)

-- only pushes were asked for, and they led to nothing
pub idle_done : (s e : Worker) (mid : KeptSession) (event : Event) (acts : List Action) (answers : List (Event × List Action)) (out : List ℕ)
    → Steps s.session s.now event acts mid → Acts (stands s mid s.seat) acts answers out e → list_all is_push acts ≡ true → asked_in answers ≡ []
    → Idles s event e × (out ≡ [])
idle_done s e mid event acts answers out taken acted pushes none =
    let silent = pushes_silent (stands s mid s.seat) e acts answers out pushes acted in
    ((acts, answers, mid, taken, pushes, subst (λ (x : List ℕ). Acts (stands s mid s.seat) acts answers x e) silent acted, none), silent)

-- no action does nothing
pub none_done : (s e : Worker) (acts : List Action) (answers : List (Event × List Action)) (out : List ℕ) → acts ≡ [] → Acts s acts answers out e → (asked_in answers ≡ []) × (out ≡ []) × (e ≡ s)
none_done s e acts answers out none done =
    let nothing = subst (λ (x : List Action). Acts s x answers out e) none done in
    (ap asked_in nothing.0, nothing.1, nothing.2)
