-- No name is lost with a table that the remote peer lacks.
use Rattle.std.proofs.Common.{◌≡◌, ℕ, Bool, true, false, not, cond, ◌&&◌, ◌||◌, List, ◌∷◌, Option, Some, None, refl, sym, ap, ◌∙◌, subst, inl, inr}
use Rattle.std.specs.List.{list_any}
use Rattle.std.proofs.lemmas.Bool.{cases_eq, ne_eqb, false≢true}
use Rattle.std.proofs.lemmas.List.Folds.{list_any-append}
use Rattle.known_state.specs.Known.{without_names}
use Rattle.session_core.specs.declared.action.Action.{Action}
use Rattle.session_core.specs.declared.event.Event.TheVariants as events
use Rattle.session_core.specs.declared.pace.Task.{Task}
use Rattle.session_core.specs.declared.pace.Task.TheVariants as tasks
use Rattle.session_core.specs.Phases.{Phase}
use Rattle.session_core.specs.Phases as phases
use Rattle.session_core.specs.Actions.{reopens}
use Rattle.session_core.specs.Shares.{any_out, all_quiet}
use Rattle.session_core.specs.Courses.{Course, table_to_ask, teaching_anew}
use Rattle.session_core.specs.Sessions.{SessionState, GoesIn, Turns}
use Rattle.session_core.specs.Paces.{has_passed, push_time, is_rested, stores_names, may_lose_names, awaits_names}
use Rattle.session_core.specs.Standing.{StandingState, Does, finished_if, finishing, begun_resync, task_at, TakesTurn, Stands, TicksIn}
use Rattle.session_core.specs.Runs.{is_copy_of, copies}
use Rattle.session_core.proofs.MachineRuns.{Ticks}
use Rattle.session_core.proofs.EndLemmas.{plain_reopens}

-- ---- a turn copies from the table to ask, which awaits no names

pub copied_is_asked : (o : Option ℕ) (s e : SessionState) (c : Course) (acts : List Action) (table : ℕ) → Turns o s c acts e → copies table acts ≡ true → o ≡ Some table
copied_is_asked None s e c acts table turns is = absurd (false≢true (sym (ap (copies table) turns.0) ∙ is))
copied_is_asked (Some other) s e c acts table turns is = elim (cases_eq other table) [
  | inl same ↦ ap (λ (n : ℕ). Some n) same
  | inr apart ↦
      let none : copies table acts ≡ false = ap (copies table) turns.0 ∙ rw (ne_eqb other table apart) refl in
      absurd (false≢true (sym none ∙ is))
]

copies_end : (table : ℕ) (b : Bool) (c : Course) → copies table (finished_if b c).0 ≡ false
copies_end table true c = refl
copies_end table false c = refl

pub copies_begun : (table : ℕ) (c : Course) → copies table (begun_resync c).0 ≡ false
copies_begun table c =
    let d : Course = teaching_anew c in
    list_any-append (is_copy_of table) (reopens c.shares) (finishing d).0
    ∙ rw ((plain_reopens table c.shares).1, copies_end table (d.teaching && all_quiet d.shares) d) refl

-- a turn that copies awaits no names
awaits_none : (begins out opened awaits : Bool) → cond begins (cond out tasks.Rest tasks.Begin) (cond (opened && not awaits) tasks.Copy tasks.Rest) ≡ tasks.Copy → awaits ≡ false
awaits_none true true opened awaits is = cc
awaits_none true false opened awaits is = cc
awaits_none false out true true is = cc
awaits_none false out true false is = refl
awaits_none false out false awaits is = cc

none_awaited : (s : StandingState) (c : Course) (table : ℕ) → table_to_ask c ≡ Some table → awaits_names (table_to_ask c) s.pace.progress c.shares ≡ false → (stores_names table s.pace.progress && list_any (may_lose_names s.pace.progress) c.shares) ≡ false
none_awaited s c table asks none = subst (λ (o : Option ℕ). awaits_names o s.pace.progress c.shares ≡ false) asks none

alone_does : (task : Task) (s e : StandingState) (c : Course) (now : ℕ) (acts : List Action) (table : ℕ) → s.session.phase ≡ phases.Open c → task_at now s.pace c ≡ task → Does task s c now acts e → copies table acts ≡ true → (stores_names table s.pace.progress && list_any (may_lose_names s.pace.progress) c.shares) ≡ false
alone_does tasks.Copy s e c now acts table stands is does copied =
    let goes = subst (λ (p : Phase). GoesIn p s.session events.Turn acts e.session) stands does.0 in
    let asks : table_to_ask c ≡ Some table = copied_is_asked (table_to_ask c) s.session e.session c acts table goes.1 copied in
    none_awaited s c table asks
    (awaits_none (c.waits && is_rested s.pace.reopened now) (any_out c.shares) (c.teaching || has_passed push_time s.pace.opened now) (awaits_names (table_to_ask c) s.pace.progress c.shares) is)
alone_does tasks.Rest s e c now acts table stands is (due, none, same) copied = absurd (false≢true (sym (ap (copies table) none) ∙ copied))
alone_does tasks.Begin s e c now acts table stands is (due, begun, session, pace) copied =
    absurd (false≢true (sym (ap (copies table) begun ∙ copies_begun table c) ∙ copied))

pub names_go_alone : (s e : StandingState) (c : Course) (now : ℕ) (acts : List Action) (table : ℕ) → s.session.phase ≡ phases.Open c → Stands s now events.Turn acts e → copies table acts ≡ true → (stores_names table s.pace.progress && list_any (may_lose_names s.pace.progress) c.shares) ≡ false
names_go_alone s e c now acts table stands turns copied =
    alone_does (task_at now s.pace c) s e c now acts table stands refl (subst (λ (p : Phase). TakesTurn p s now acts e) stands turns) copied

-- ---- a tick that leaves tables forgets the names

forgets_in : (silent : Bool) (phase : Phase) (s e : StandingState) (now table : ℕ) (tables : List ℕ) (acts : List Action) → TicksIn silent phase s now (table ∷ tables) acts e → e.session.known ≡ without_names s.session.known
forgets_in true phase s e now table tables acts ticks = cc
forgets_in false (phases.Open c) s e now table tables acts (left, is, session, pace) = ap (λ (x : SessionState). x.known) session
forgets_in false (phases.New hello c) s e now table tables acts ticks = cc
forgets_in false (phases.Hello greeter bytes c) s e now table tables acts ticks = cc
forgets_in false phases.Ended s e now table tables acts ticks = cc

pub names_are_forgotten : (s e : StandingState) (now table : ℕ) (tables : List ℕ) (acts : List Action) → Ticks s now (table ∷ tables) acts e → e.session.known ≡ without_names s.session.known
names_are_forgotten s e now table tables acts (asked, ticks) = forgets_in _ s.session.phase s e now table tables acts ticks
