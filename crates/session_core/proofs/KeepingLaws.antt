-- What happens to a session is a run of the machine if it is plain, and otherwise one of a session that stays.
use Rattle.std.proofs.Common.{◌≡◌, ◌⊎◌, ℕ, true, List, [], ◌∷◌, ap, sym, ◌∙◌, subst, inl, inr}
use Rattle.table_types.specs.Tables.{Definition}
use Rattle.session_core.specs.declared.action.Action.{Action}
use Rattle.session_core.specs.declared.event.Event.{Event}
use Rattle.session_core.specs.Manners.{Manner}
use Rattle.session_core.specs.Manners as manners
use Rattle.session_core.specs.Paces.{Pace, pace_at}
use Rattle.session_core.specs.Standing.{Stands}
use Rattle.session_core.specs.Keeping.{KeptSession, Steps, StepsAs, standing}
use Rattle.session_core.specs.Runs.{IsBegun}
use Rattle.session_core.specs.Sessions.{Goes, is_asked}
use Rattle.session_core.specs.Happenings.{Begins, Happening, Lasts, handed}
use Rattle.session_core.proofs.MachineRuns.{Runs, BeginsToStay, Lasts as StaysThrough}
use Rattle.session_core.proofs.AskedLaws.{asked_where_goes}
use Rattle.session_core.proofs.StandingOnce.{asked_where_stands}

-- a step is that of an event that may come
pub step_asked : (manner : Manner) (s e : KeptSession) (now : ℕ) (event : Event) (acts : List Action) → StepsAs manner s now event acts e → is_asked s.session.phase event ≡ true
step_asked manners.Plain s e now event acts (goes, same) = asked_where_goes s.session e.session event acts goes
step_asked (manners.Staying p) s e now event acts (q, stood, same) = asked_where_stands (standing s.session p) (standing e.session q) now event acts stood

-- ---- one step

pub plain_step : (s e : KeptSession) (now : ℕ) (event : Event) (acts : List Action) → s.manner ≡ manners.Plain → Steps s now event acts e → Goes s.session event acts e.session × (e.manner ≡ manners.Plain)
plain_step s e now event acts is steps = subst (λ (m : Manner). StepsAs m s now event acts e) is steps.0

pub staying_step : (s e : KeptSession) (p : Pace) (now : ℕ) (event : Event) (acts : List Action) → s.manner ≡ manners.Staying p → Steps s now event acts e
    → (q : Pace) × Stands (standing s.session p) now event acts (standing e.session q) × (e.manner ≡ manners.Staying q)
staying_step s e p now event acts is steps = subst (λ (m : Manner). StepsAs m s now event acts e) is steps.0

-- ---- runs

pub plain_lasts : (steps : List Happening) (s e : KeptSession) → s.manner ≡ manners.Plain → Lasts s steps e → Runs s.session (handed steps) e.session × (e.manner ≡ manners.Plain)
plain_lasts [] s e is same = (ap (λ (x : KeptSession). x.session) same, ap (λ (x : KeptSession). x.manner) same ∙ is)
plain_lasts (one ∷ steps) s e is (mid, taken, others) =
    let first = plain_step s mid one.now one.event one.acts is taken in
    let rest = plain_lasts steps mid e first.1 others in
    ((mid.session, first.0, rest.0), rest.1)

pub staying_lasts : (steps : List Happening) (s e : KeptSession) (p : Pace) → s.manner ≡ manners.Staying p → Lasts s steps e
    → (q : Pace) × StaysThrough (standing s.session p) steps (standing e.session q) × (e.manner ≡ manners.Staying q)
staying_lasts [] s e p is same = (p, ap (λ (x : KeptSession). standing x.session p) same, ap (λ (x : KeptSession). x.manner) same ∙ is)
staying_lasts (one ∷ steps) s e p is (mid, taken, others) =
    let first = staying_step s mid p one.now one.event one.acts is taken in
    let rest = staying_lasts steps mid e first.0 first.2 others in
    (rest.0, (standing mid.session first.0, first.1, rest.1), rest.2)

-- ---- from the beginning

abbrev pub RanPlain : List Definition → KeptSession → List Happening → KeptSession → Type 0
RanPlain roster begun steps s = IsBegun roster begun.session × Runs begun.session (handed steps) s.session × (s.manner ≡ manners.Plain)

abbrev pub RanStaying : List Definition → KeptSession → List Happening → KeptSession → Type 0
RanStaying roster begun steps s =
    (p : Pace)
    × (q : Pace)
    × BeginsToStay roster (standing begun.session p)
    × StaysThrough (standing begun.session p) steps (standing s.session q)
    × (s.manner ≡ manners.Staying q)

abbrev pub Ran : List Definition → KeptSession → List Happening → KeptSession → Type 0
Ran roster begun steps s = RanPlain roster begun steps s ⊎ RanStaying roster begun steps s

pub ran : (roster : List Definition) (begun s : KeptSession) (steps : List Happening) → Begins roster begun → Lasts begun steps s → Ran roster begun steps s
ran roster begun s steps (first, begins, inl is) lasts =
    let run = plain_lasts steps begun s (ap (λ (x : KeptSession). x.manner) is) lasts in
    inl (subst (λ (x : KeptSession). IsBegun roster x.session) (sym is) begins, run.0, run.1)
ran roster begun s steps (first, begins, inr (now, is)) lasts =
    let p : Pace = pace_at now first.known.roster in
    let run = staying_lasts steps begun s p (ap (λ (x : KeptSession). x.manner) is) lasts in
    inr (p, run.0, (first, now, begins, ap (λ (x : KeptSession). standing x.session p) is), run.1, run.2)

-- ---- the two manners differ

abbrev pub pace_in : Pace → Manner → Pace
pace_in p manners.Plain = p
pace_in p (manners.Staying q) = q

pub same_pace : (p q : Pace) (m : Manner) → m ≡ manners.Staying p → m ≡ manners.Staying q → p ≡ q
same_pace p q m one other = ap (pace_in p) (sym one ∙ other)

pub never_both : {X : Type 0} (p : Pace) (m : Manner) → m ≡ manners.Plain → m ≡ manners.Staying p → X
never_both p m plain stays =
    let clash : manners.Plain ≡ manners.Staying p = sym plain ∙ stays in
    absurd cc
