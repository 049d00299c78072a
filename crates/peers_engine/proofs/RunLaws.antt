-- The answers that a session receives to its actions are events one after another, all at the moment of the turn.
use Rattle.std.proofs.Common.{◌≡◌, ◌⊎◌, inl, inr, ℕ, List, [], ◌∷◌, ◌++◌, Option, Some, None, refl, sym, ap, subst}
use Rattle.session_core.specs.declared.action.Action.{Action}
use Rattle.session_core.specs.declared.event.Event.{Event}
use Rattle.session_core.specs.declared.state.State.{State}
use Rattle.session_core.specs.declared.state.State.TheVariants as states
use Rattle.session_core.specs.Keeping.{KeptSession, Steps}
use Rattle.session_core.specs.Happenings.{Walks}
use Rattle.session_core.specs.Sessions.{state_of}
use Rattle.session_core.specs.Hearing.{asked_in}
use Rattle.table_shards.specs.Receipts.{SeatState}
use Rattle.table_shards.specs.Rounds.{ShardsState}
use Rattle.peers_engine.specs.declared.errors.EngineError.{EngineError}
use Rattle.peers_engine.specs.Acting.{Acts, EndsAlike, IsGiven, IsGivenIn, IsRefused, Worker, stands}
use Rattle.peers_engine.specs.Turns.{Halts, Idles, Reacts}

pub walks_on : (now : ℕ) (s mid e : KeptSession) (before after : List (Event × List Action)) → Walks now s before mid → Walks now mid after e → Walks now s (before ++ after) e
walks_on now s mid e [] after first second = subst (λ (x : KeptSession). Walks now x after e) first second
walks_on now s mid e (step ∷ steps) after (next, taken, walks) second = (next, taken, walks_on now next mid e steps after walks second)

one_step : (now : ℕ) (s e : KeptSession) (event : Event) (steps : List (Event × List Action)) → ((acts : List Action) × Steps s now event acts e × (steps ≡ (event, acts) ∷ [])) → Walks now s steps e
one_step now s e event steps (acts, taken, is) = subst (λ (x : List (Event × List Action)). Walks now s x e) (sym is) (e, taken, refl)

no_step : (now : ℕ) (s e : KeptSession) (steps : List (Event × List Action)) → ((steps ≡ []) × (e ≡ s)) → Walks now s steps e
no_step now s e steps (none, same) = subst (λ (x : List (Event × List Action)). Walks now s x e) (sym none) same

given_in : (state : State) (now : ℕ) (s e : KeptSession) (event : Event) (steps : List (Event × List Action)) → IsGivenIn state s now event steps e → Walks now s steps e
given_in states.Ended now s e event steps answers = no_step now s e steps answers
given_in states.New now s e event steps answers = one_step now s e event steps answers
given_in states.Hello now s e event steps answers = one_step now s e event steps answers
given_in states.Ready now s e event steps answers = one_step now s e event steps answers
given_in states.Teaching now s e event steps answers = one_step now s e event steps answers

pub given_walks : (now : ℕ) (s e : KeptSession) (answer : Option Event) (steps : List (Event × List Action)) → IsGiven s now answer steps e → Walks now s steps e
given_walks now s e None steps answers = no_step now s e steps answers
given_walks now s e (Some event) steps answers = given_in (state_of s.session.phase) now s e event steps answers

-- the moment of a worker stays
pub same_moment : (s e : Worker) (acts : List Action) (answers : List (Event × List Action)) (out : List ℕ) → Acts s acts answers out e → e.now ≡ s.now
same_moment s e [] answers out (none, nothing, same) = ap (λ (x : Worker). x.now) same
same_moment s e (act ∷ acts) answers out (bytes, more, answer, first, rest, seat, mid, done, gives, after, is, written) = same_moment (stands s mid seat) e acts rest more after

pub acts_walk : (s e : Worker) (acts : List Action) (answers : List (Event × List Action)) (out : List ℕ) → Acts s acts answers out e → Walks s.now s.session answers e.session
acts_walk s e [] answers out (none, nothing, same) = no_step s.now s.session e.session answers (none, ap (λ (x : Worker). x.session) same)
acts_walk s e (act ∷ acts) answers out (bytes, more, answer, first, rest, seat, mid, done, gives, after, is, written) =
    subst (λ (x : List (Event × List Action)). Walks s.now s.session x e.session) (sym is)
    (walks_on s.now s.session mid e.session first rest (given_walks s.now s.session mid answer first gives) (acts_walk (stands s mid seat) e acts rest more after))

-- ---- what is written is what a run asked for

pub reacts_in_a_run : (w e : Worker) (event : Event) (out : List ℕ) → Reacts w event out e
    → (acts : List Action) × (answers : List (Event × List Action)) × (mid : KeptSession)
    × Walks w.now w.session ((event, acts) ∷ answers) e.session × Acts (stands w mid w.seat) (acts ++ asked_in answers) answers out e
reacts_in_a_run w e event out (acts, answers, mid, taken, done) =
    (acts, answers, mid, (mid, taken, acts_walk (stands w mid w.seat) e (acts ++ asked_in answers) answers out done), done)

pub idles_in_a_run : (w e : Worker) (event : Event) → Idles w event e
    → (acts : List Action) × (answers : List (Event × List Action)) × (mid : KeptSession)
    × Walks w.now w.session ((event, acts) ∷ answers) e.session × Acts (stands w mid w.seat) acts answers [] e
idles_in_a_run w e event (acts, answers, mid, taken, pushes, done, nothing) =
    (acts, answers, mid, (mid, taken, acts_walk (stands w mid w.seat) e acts answers [] done), done)

pub halts_in_a_run : (shards : ShardsState) (w : Worker) (event : Event) (error : EngineError) (out : List ℕ) (e : KeptSession) (seat : SeatState)
    → Halts shards w event error out e seat
    → IsRefused w.session.session event error
    ⊎ ((acts before rest : List Action) × (answers : List (Event × List Action)) × (first last : List ℕ) × (mid : KeptSession) × (at : Worker)
    × Walks w.now w.session ((event, acts) ∷ answers) at.session × Acts (stands w mid w.seat) before answers first at
    × (acts ++ asked_in answers ≡ before ++ rest) × (out ≡ first ++ last) × EndsAlike at.session e)
halts_in_a_run shards w event error out e seat (inl (refuses, nothing, alike, same)) = inl refuses
halts_in_a_run shards w event error out e seat (inr (acts, answers, mid, taken, (before, rest, first, last, at, is, done, why, written, alike))) =
    inr (acts, before, rest, answers, first, last, mid, at, (mid, taken, acts_walk (stands w mid w.seat) at before answers first done), done, is, written, alike)
