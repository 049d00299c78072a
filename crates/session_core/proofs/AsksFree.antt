-- Only tables that are free are asked for a batch: no batch of them is out and, in a resync, they aren't quiet.
use Rattle.std.proofs.Common.{◌≡◌, ℕ, Bool, true, false, not, ◌&&◌, ◌||◌, ◌==◌, List, [], ◌∷◌, Option, Some, None, refl, sym, ap, ◌∙◌, subst, inl, inr, cond}
use Rattle.std.specs.Prelude.{is_some}
use Rattle.std.proofs.lemmas.Bool.{cases_eq, ne_eqb, false≢true}
use Rattle.table_types.specs.Tables.{Definition}
use Rattle.session_core.specs.declared.action.Action.{Action}
use Rattle.session_core.specs.declared.event.Event.{Event}
use Rattle.session_core.specs.declared.event.Event.TheVariants as events
use Rattle.session_core.specs.declared.pace.Task.{Task}
use Rattle.session_core.specs.declared.pace.Task.TheVariants as tasks
use Rattle.session_core.specs.declared.share.Share.{Share}
use Rattle.session_core.specs.Phases.{Phase}
use Rattle.session_core.specs.Phases as phases
use Rattle.session_core.specs.Shares.{is_out, next_table}
use Rattle.session_core.specs.Courses.{Course, table_to_ask}
use Rattle.session_core.specs.Sessions.{SessionState, Goes, GoesIn}
use Rattle.session_core.specs.Standing.{StandingState, Does, task_at, TakesTurn, Stands}
use Rattle.session_core.specs.Runs.{IsBegun, copies}
use Rattle.session_core.specs.Happenings.{Happening, handed, is_quiet}
use Rattle.session_core.proofs.MachineRuns.{Happens, Lasts, BeginsToStay, Runs}
use Rattle.session_core.proofs.ShareLemmas.{ids_of, shares_in, IsFree, next_free}
use Rattle.session_core.proofs.NamesKept.{copied_is_asked, copies_begun}
use Rattle.session_core.proofs.RunLemmas.{IsKeptIn, IsSound}
use Rattle.session_core.proofs.StandingEnds.{rest_after, lasts_kept, begun_kept}
use Rattle.session_core.proofs.OnlyTurnsCopy.{goes_copy, only_turns_copy}
use Rattle.session_core.proofs.RunLaws.{run_kept, begun_kept as plain_begun_kept}

-- ---- flags that depend on the ids alone

and-no : (b : Bool) → (b && false) ≡ false
and-no true = refl
and-no false = refl

neither : (a b : Bool) → a ≡ false → b ≡ false → (a || b) ≡ false
neither true b one other = one
neither false b one other = other

flag_off : (flag : ℕ → Bool) (id t : ℕ) → flag t ≡ false → (id == t && flag id) ≡ false
flag_off flag id t off = elim (cases_eq id t) [
  | inl same ↦ rw (ap flag same ∙ off) (and-no (id == t))
  | inr other ↦ rw (ne_eqb id t other) refl
]

none_out : (t : ℕ) (ids : List ℕ) (out quiet : ℕ → Bool) → out t ≡ false → is_out t (shares_in ids out quiet) ≡ false
none_out t [] out quiet off = refl
none_out t (id ∷ ids) out quiet off = neither _ _ (flag_off out id t off) (none_out t ids out quiet off)

none_quiet : (t : ℕ) (ids : List ℕ) (out quiet : ℕ → Bool) → quiet t ≡ false → is_quiet t (shares_in ids out quiet) ≡ false
none_quiet t [] out quiet off = refl
none_quiet t (id ∷ ids) out quiet off = neither _ _ (flag_off quiet id t off) (none_quiet t ids out quiet off)

-- no batch of the table is out, and in a resync it isn't quiet
abbrev pub IsFreeIn : ℕ → Bool → List Share → Type 0
IsFreeIn t teaching ss = (is_out t ss ≡ false) × (teaching ≡ true → is_quiet t ss ≡ false)

free_in : (t : ℕ) (teaching : Bool) (ids : List ℕ) (out quiet : ℕ → Bool) → IsFree teaching out quiet t → IsFreeIn t teaching (shares_in ids out quiet)
free_in t teaching ids out quiet (not_out, unquiet) = (none_out t ids out quiet not_out, λ so. none_quiet t ids out quiet (unquiet so))

-- ---- a turn copies from the table to ask

asked_next : (held : Bool) (o : Option ℕ) (t : ℕ) → cond held None o ≡ Some t → o ≡ Some t
asked_next true o t is = absurd (false≢true (ap (λ (x : Option ℕ). is_some x) is))
asked_next false o t is = is

next_is_free : (stays : Bool) (t : ℕ) (steps : List (Event × List Action)) (ids : List ℕ) (c : Course) → IsSound stays ids steps c → next_table c.teaching c.asked c.shares ≡ Some t → IsFreeIn t c.teaching c.shares
next_is_free stays t steps ids c (out, quiet, flags, sound) next =
    let next_in : next_table c.teaching c.asked (shares_in ids out quiet) ≡ Some t = subst (λ (ss : List Share). next_table c.teaching c.asked ss ≡ Some t) flags.0 next in
    subst (IsFreeIn t c.teaching) (sym flags.0) (free_in t c.teaching ids out quiet (next_free c.teaching c.asked out quiet ids t next_in))

free_does : (task : Task) (ids : List ℕ) (steps : List (Event × List Action)) (s e : StandingState) (c : Course) (now : ℕ) (acts : List Action) (table : ℕ) → s.session.phase ≡ phases.Open c → IsSound true ids steps c → Does task s c now acts e → copies table acts ≡ true → IsFreeIn table c.teaching c.shares
free_does tasks.Copy ids steps s e c now acts table stands sound does copied =
    let goes = subst (λ (p : Phase). GoesIn p s.session events.Turn acts e.session) stands does.0 in
    next_is_free true table steps ids c sound (asked_next (c.waits && not c.stays) (next_table c.teaching c.asked c.shares) table (copied_is_asked (table_to_ask c) s.session e.session c acts table goes.1 copied))
free_does tasks.Rest ids steps s e c now acts table stands sound (due, none, same) copied = absurd (false≢true (sym (ap (copies table) none) ∙ copied))
free_does tasks.Begin ids steps s e c now acts table stands sound (due, begun, session, pace) copied =
    absurd (false≢true (sym (ap (copies table) begun ∙ copies_begun table c) ∙ copied))

-- ---- the law

asks_free : (roster : List Definition) (begun s e : StandingState) (steps : List Happening) (c : Course) (now : ℕ) (acts : List Action) (table : ℕ) → BeginsToStay roster begun → Lasts begun steps s → s.session.phase ≡ phases.Open c → Stands s now events.Turn acts e → copies table acts ≡ true → IsFreeIn table c.teaching c.shares
asks_free roster begun s e steps c now acts table begins lasts stands turns copied =
    let ids : List ℕ = ids_of (rest_after roster steps) in
    let kept : IsKeptIn true ids (handed steps) s.session.phase = lasts_kept steps roster [] begun s (begun_kept roster begun begins) lasts in
    let sound : IsSound true ids (handed steps) c = subst (IsKeptIn true ids (handed steps)) stands kept in
    free_does (task_at now s.pace c) ids (handed steps) s e c now acts table stands sound (subst (λ (p : Phase). TakesTurn p s now acts e) stands turns) copied

pub free_at : (roster : List Definition) (begun s e : StandingState) (steps : List Happening) (c : Course) (one : Happening) (table : ℕ) → BeginsToStay roster begun → Lasts begun steps s → s.session.phase ≡ phases.Open c → Happens s one e → copies table one.acts ≡ true → IsFreeIn table c.teaching c.shares
free_at roster begun s e steps c one table begins lasts stands happens copied =
    asks_free roster begun s e steps c one.now one.acts table begins lasts stands (subst (λ (x : Event). Stands s one.now x one.acts e) (only_turns_copy s e one.now one.event one.acts table happens copied) happens) copied

-- so it is in a plain session
plain_free : (roster : List Definition) (begun s e : SessionState) (steps : List (Event × List Action)) (c : Course) (acts : List Action) (table : ℕ) → IsBegun roster begun → Runs begun steps s → s.phase ≡ phases.Open c → Goes s events.Turn acts e → copies table acts ≡ true → IsFreeIn table c.teaching c.shares
plain_free roster begun s e steps c acts table begins runs stands goes copied =
    let kept : IsKeptIn false (ids_of roster) steps s.phase = run_kept (ids_of roster) [] steps begun s (plain_begun_kept roster begun begins) runs in
    let sound : IsSound false (ids_of roster) steps c = subst (IsKeptIn false (ids_of roster) steps) stands kept in
    let there = subst (λ (p : Phase). GoesIn p s events.Turn acts e) stands goes in
    next_is_free false table steps (ids_of roster) c sound (asked_next (c.waits && not c.stays) (next_table c.teaching c.asked c.shares) table (copied_is_asked (table_to_ask c) s e c acts table there.1 copied))

pub plain_free_at : (roster : List Definition) (begun s e : SessionState) (steps : List (Event × List Action)) (c : Course) (event : Event) (acts : List Action) (table : ℕ) → IsBegun roster begun → Runs begun steps s → s.phase ≡ phases.Open c → Goes s event acts e → copies table acts ≡ true → IsFreeIn table c.teaching c.shares
plain_free_at roster begun s e steps c event acts table begins runs stands goes copied =
    plain_free roster begun s e steps c acts table begins runs stands (subst (λ (x : Event). Goes s x acts e) (goes_copy s e event acts table goes copied) goes) copied
