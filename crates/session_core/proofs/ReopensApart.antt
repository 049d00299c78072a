-- Tables are reopened by a turn only when a resync begins, so at most once a second; and otherwise only as a session of version 2.0 opens.
use Rattle.std.proofs.Common.{◌≡◌, ◌≤◌, ◌⊎◌, ℕ, ◌+◌, true, false, List, Option, Some, refl, sym, ◌∙◌, subst, inl, inr, arith}
use Rattle.std.specs.List.{list_any, AllByRecursion}
use Rattle.std.proofs.lemmas.Bool.{false≢true}
use Rattle.table_types.specs.Tables.{Definition}
use Rattle.table_types.specs.declared.version.Version.TheVariants as versions
use Rattle.session_core.specs.declared.action.Action.{Action}
use Rattle.session_core.specs.declared.event.Event.TheVariants as events
use Rattle.session_core.specs.Paces.{resync_time}
use Rattle.session_core.specs.Standing.{StandingState, is_open, is_reopen, Stands}
use Rattle.session_core.specs.Happenings.{Happening, IsSince}
use Rattle.session_core.proofs.MachineRuns.{Happens, Lasts, BeginsToStay}
use Rattle.session_core.proofs.BegunToStay.{paced_turn, rare_stands, stays_lasts, stays_run}
use Rattle.session_core.proofs.StandingTimes.{IsBegunSince, begun_lasts, rested_since}

-- what comes with a reopening
if_reopens : (P : Type 0) (acts : List Action) → list_any is_reopen acts ≡ true → (list_any is_reopen acts ≡ false) ⊎ P → P
if_reopens P acts reopens (inl none) = absurd (false≢true (sym none ∙ reopens))
if_reopens P acts reopens (inr so) = so

began_at : (m : ℕ) (o : Option ℕ) → o ≡ Some m → IsBegunSince m o
began_at m o is = let least : m ≤ m = omega arith in subst (IsBegunSince m) (sym is) least

pub reopens_apart : (roster : List Definition) (begun s t u e : StandingState) (before between : List Happening) (m n : ℕ) (acts given : List Action) → BeginsToStay roster begun → Lasts begun before s → Stands s m events.Turn acts t → list_any is_reopen acts ≡ true → Lasts t between u → AllByRecursion (IsSince m) between → Stands u n events.Turn given e → list_any is_reopen given ≡ true → m + resync_time ≤ n
reopens_apart roster begun s t u e before between m n acts given begins lasts turns reopens goes_on since turns_then reopens_then =
    let one = paced_turn s.session.phase s t m acts refl (stays_run roster begun s before begins lasts) turns in
    let began = if_reopens _ acts reopens one.1 in
    let other = paced_turn u.session.phase u e n given refl (stays_lasts between t u one.0 goes_on) turns_then in
    rested_since m n u.pace.reopened (begun_lasts between t u m (began_at m t.pace.reopened began.1) since goes_on) (if_reopens _ given reopens_then other.1).0

pub reopens_as_it_opens : (roster : List Definition) (begun s e : StandingState) (steps : List Happening) (one : Happening) → BeginsToStay roster begun → Lasts begun steps s → Happens s one e → list_any is_reopen one.acts ≡ true
    → (one.event ≡ events.Turn) ⊎ ((one.event ≡ events.Tick) ⊎ ((is_open s.session.phase ≡ false) × (e.session.version ≡ Some versions.V20)))
reopens_as_it_opens roster begun s e steps one begins lasts happens reopens =
    if_reopens _ one.acts reopens (rare_stands one.event s e one.now one.acts (stays_run roster begun s steps begins lasts) happens).1
