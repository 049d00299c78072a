-- What every run preserves.
use Rattle.std.proofs.Common.{◌≡◌, ℕ, Bool, true, false, not, List, [], ◌∷◌, ◌++◌, Option, Some, None, refl, sym, ap, ◌∙◌, subst, append_assoc}
use Rattle.std.specs.List.{list_all, AllByRecursion}
use Rattle.std.proofs.lemmas.Bool.{false≢true}
use Rattle.std.proofs.lemmas.List.Folds.{list_all-append, list_any-append}
use Rattle.table_types.specs.declared.copies.CopyKind.{CopyKind}
use Rattle.peers_msg.specs.declared.control.Control.{Control}
use Rattle.peers_msg.specs.declared.control.Control.TheVariants as controls
use Rattle.learner.specs.declared.taken.Taken.{Taken}
use Rattle.learner.specs.declared.taken.Taken.TheVariants as taken
use Rattle.session_core.specs.declared.action.Action.{Action}
use Rattle.session_core.specs.declared.action.Action.TheVariants as actions
use Rattle.session_core.specs.declared.event.Event.{Event}
use Rattle.session_core.specs.declared.event.Event.TheVariants as events
use Rattle.session_core.specs.declared.due.Due.{Due}
use Rattle.session_core.specs.declared.due.Due.TheVariants as dues
use Rattle.session_core.specs.Phases.{Phase}
use Rattle.session_core.specs.Phases as phases
use Rattle.session_core.specs.Shares.{is_out, unquieted}
use Rattle.session_core.specs.Actions.{sends_control}
use Rattle.session_core.specs.Acks.{ack_of}
use Rattle.session_core.specs.Courses.{Course, message_received, said, requested, ack_received, acknowledged, Receives, AreReceived, is_held, kind_of, teaching_anew}
use Rattle.session_core.specs.Runs.{is_reopen_of, reopened, IsLeft, HasNothingLeft}
use Rattle.session_core.proofs.ShareLemmas.{shares_in, never, unquieted_in, IsFree}

-- ---- one more step

all_and_one : {X : Type 0} (P : X → Type 0) (xs : List X) (x : X) → AllByRecursion P xs → P x → AllByRecursion P (xs ++ (x ∷ []))
all_and_one P [] x all one = (one, tt)
all_and_one P (y ∷ ys) x all one = (all.0, all_and_one P ys x all.1 one)

-- a table with nothing left to teach stays so after a step that neither copies from it nor reopens it
pub left_more : (kind : CopyKind) (steps : List (Event × List Action)) (id : ℕ) (event : Event) (acts : List Action) → HasNothingLeft kind steps id → IsLeft id acts → HasNothingLeft kind (steps ++ ((event, acts) ∷ [])) id
left_more kind steps id event acts (before, given, since, is, still, none) left =
    (before, given, since ++ ((event, acts) ∷ []), rw is (simp append_assoc), still, all_and_one (λ step. IsLeft id step.1) since (event, acts) none left)

-- ---- what is preserved

-- whether the session stays is as at its beginning; the flags of the tables depend on their ids alone; in a resync a quiet table
-- has no batch outstanding and nothing left to teach
abbrev pub AreFlags : Bool → List ℕ → List (Event × List Action) → Course → (ℕ → Bool) → (ℕ → Bool) → Type 0
AreFlags stays ids steps c out quiet =
    (c.shares ≡ shares_in ids out quiet)
    × (c.teaching ≡ true → (id : ℕ) → quiet id ≡ true → (out id ≡ false) × HasNothingLeft (kind_of stays true) steps id)
    × (c.stays ≡ stays)

abbrev pub is_copy_due : Due → Bool
is_copy_due (dues.Copy id) = true
is_copy_due d = false

abbrev pub no_copies : List Due → Bool
no_copies due = list_all (λ d. not (is_copy_due d)) due

-- a copy that is due is the only copy due and was asked for last, from a table that may be copied
abbrev pub IsDueSound : Bool → List (Event × List Action) → Bool → (ℕ → Bool) → (ℕ → Bool) → List Due → Type 0
IsDueSound stays steps teaching out quiet [] = Unit {0}
IsDueSound stays steps teaching out quiet (dues.Copy id ∷ rest) =
    (no_copies rest ≡ true)
    × IsFree teaching out quiet id
    × (before : List (Event × List Action))
    × (steps ≡ before ++ ((events.Turn, actions.Copy id (kind_of stays teaching) ∷ []) ∷ []))
IsDueSound stays steps teaching out quiet (d ∷ rest) = no_copies rest ≡ true

abbrev pub IsSound : Bool → List ℕ → List (Event × List Action) → Course → Type 0
IsSound stays ids steps c =
    (out : ℕ → Bool)
    × (quiet : ℕ → Bool)
    × AreFlags stays ids steps c out quiet
    × IsDueSound stays steps c.teaching out quiet c.due

-- the same if no copy is due
abbrev pub IsCalm : Bool → List ℕ → List (Event × List Action) → Course → Type 0
IsCalm stays ids steps c =
    (out : ℕ → Bool)
    × (quiet : ℕ → Bool)
    × AreFlags stays ids steps c out quiet
    × (no_copies c.due ≡ true)

abbrev pub IsFresh : Bool → List ℕ → Course → Type 0
IsFresh stays ids c = (c.shares ≡ shares_in ids never never) × (c.teaching ≡ false) × (c.due ≡ []) × (c.stays ≡ stays)

abbrev pub IsKeptIn : Bool → List ℕ → List (Event × List Action) → Phase → Type 0
IsKeptIn stays ids steps (phases.New hello c) = IsFresh stays ids c
IsKeptIn stays ids steps (phases.Hello greeter bytes c) = IsFresh stays ids c
IsKeptIn stays ids steps (phases.Open c) = IsSound stays ids steps c
IsKeptIn stays ids steps phases.Ended = Unit {0}

pub due_sound : (stays : Bool) (steps : List (Event × List Action)) (teaching : Bool) (out quiet : ℕ → Bool) (due : List Due) → no_copies due ≡ true → IsDueSound stays steps teaching out quiet due
due_sound stays steps teaching out quiet [] none = tt
due_sound stays steps teaching out quiet (dues.Copy id ∷ rest) none = absurd (false≢true none)
due_sound stays steps teaching out quiet (dues.Teach ∷ rest) none = none
due_sound stays steps teaching out quiet (dues.Ack id ∷ rest) none = none

pub due_rest : (stays : Bool) (steps : List (Event × List Action)) (teaching : Bool) (out quiet : ℕ → Bool) (d : Due) (rest : List Due) → IsDueSound stays steps teaching out quiet (d ∷ rest) → no_copies rest ≡ true
due_rest stays steps teaching out quiet (dues.Copy id) rest sound = sound.0
due_rest stays steps teaching out quiet dues.Teach rest sound = sound
due_rest stays steps teaching out quiet (dues.Ack id) rest sound = sound

pub calm_sound : (stays : Bool) (ids : List ℕ) (steps : List (Event × List Action)) (c : Course) → IsCalm stays ids steps c → IsSound stays ids steps c
calm_sound stays ids steps c (out, quiet, flags, none) = (out, quiet, flags, due_sound stays steps c.teaching out quiet c.due none)

-- a step that neither copies from the quiet tables nor reopens them
pub flags_more : (stays : Bool) (ids : List ℕ) (steps : List (Event × List Action)) (c : Course) (out quiet : ℕ → Bool) (event : Event) (acts : List Action) → (c.teaching ≡ true → (id : ℕ) → quiet id ≡ true → IsLeft id acts) → AreFlags stays ids steps c out quiet → AreFlags stays ids (steps ++ ((event, acts) ∷ [])) c out quiet
flags_more stays ids steps c out quiet event acts leaves (shares, left, same) =
    (shares, (λ is id quiets. ((left is id quiets).0, left_more (kind_of stays true) steps id event acts (left is id quiets).1 (leaves is id quiets))), same)

pub calm_more : (stays : Bool) (ids : List ℕ) (steps : List (Event × List Action)) (c : Course) (event : Event) (acts : List Action) → ((id : ℕ) → IsLeft id acts) → IsCalm stays ids steps c → IsCalm stays ids (steps ++ ((event, acts) ∷ [])) c
calm_more stays ids steps c event acts leaves (out, quiet, flags, none) =
    (out, quiet, flags_more stays ids steps c out quiet event acts (λ _ id _. leaves id) flags, none)

-- ---- messages

pub anew_flags : (stays : Bool) (ids : List ℕ) (steps later : List (Event × List Action)) (c : Course) (out quiet : ℕ → Bool) → AreFlags stays ids steps c out quiet → AreFlags stays ids later (teaching_anew c) out never
anew_flags stays ids steps later c out quiet (shares, left, same) = (ap unquieted shares ∙ unquieted_in ids out quiet, (λ _ id bad. absurd (false≢true bad)), same)

-- the same after these actions, which reopened no table that is quiet in a resync
abbrev pub IsCalmAfter : Bool → List ℕ → List (Event × List Action) → List Action → Course → Type 0
IsCalmAfter stays ids steps given c =
    (out : ℕ → Bool)
    × (quiet : ℕ → Bool)
    × AreFlags stays ids steps c out quiet
    × (no_copies c.due ≡ true)
    × (c.teaching ≡ true → (id : ℕ) → quiet id ≡ true → reopened id given ≡ false)

pub reopened_append : (id : ℕ) (xs ys : List Action) → reopened id xs ≡ false → reopened id ys ≡ false → reopened id (xs ++ ys) ≡ false
reopened_append id xs ys one other = list_any-append (is_reopen_of id) xs ys ∙ rw (one, other) refl

-- actions that reopen nothing
calm_still : (stays : Bool) (ids : List ℕ) (steps : List (Event × List Action)) (given acts : List Action) (c : Course) → ((id : ℕ) → reopened id acts ≡ false) → IsCalmAfter stays ids steps given c → IsCalmAfter stays ids steps (given ++ acts) c
calm_still stays ids steps given acts c plain (out, quiet, flags, none, still) =
    (out, quiet, flags, none, λ teaching id quiets. reopened_append id given acts (still teaching id quiets) (plain id))

calm_requested : (stays : Bool) (ids : List ℕ) (steps : List (Event × List Action)) (given : List Action) (b : Bool) (c : Course) → IsCalmAfter stays ids steps given c → IsCalmAfter stays ids steps (given ++ (requested b c).0) (requested b c).1
calm_requested stays ids steps given true c (out, quiet, flags, none, still) =
    (out, quiet, flags, none, λ teaching id quiets. reopened_append id given [] (still teaching id quiets) refl)
calm_requested stays ids steps given false c (out, quiet, flags, none, still) =
    (out, never, anew_flags stays ids steps steps c out quiet flags, none, λ _ id bad. absurd (false≢true bad))

calm_said : (stays : Bool) (ids : List ℕ) (steps : List (Event × List Action)) (given : List Action) (c : Course) (control : Control) → IsCalmAfter stays ids steps given c → IsCalmAfter stays ids steps (given ++ (said c control).0) (said c control).1
calm_said stays ids steps given c controls.ResyncRequest calm = calm_requested stays ids steps given (is_held c.stays c.shares) c calm
calm_said stays ids steps given c controls.ResyncFinished calm = calm_still stays ids steps given (sends_control controls.ResyncConfirmed ∷ []) c (λ id. refl) calm
calm_said stays ids steps given c controls.ResyncPartial calm = calm_still stays ids steps given (sends_control controls.ResyncConfirmed ∷ []) c (λ id. refl) calm
calm_said stays ids steps given c controls.ResyncConfirmed calm = calm_still stays ids steps given [] c (λ id. refl) calm
calm_said stays ids steps given c controls.Heartbeat calm = calm_still stays ids steps given [] c (λ id. refl) calm

calm_acknowledged : (stays : Bool) (ids : List ℕ) (steps : List (Event × List Action)) (given : List Action) (b : Bool) (c : Course) (table number : ℕ) → IsCalmAfter stays ids steps given c → IsCalmAfter stays ids steps (given ++ (acknowledged b c table number).0) (acknowledged b c table number).1
calm_acknowledged stays ids steps given true c table number (out, quiet, flags, none, still) =
    (out, quiet, flags, list_all-append _ c.due (dues.Ack table ∷ []) ∙ rw none refl, λ teaching id quiets. reopened_append id given (actions.Ack table number ∷ []) (still teaching id quiets) refl)
calm_acknowledged stays ids steps given false c table number calm = calm_still stays ids steps given [] c (λ id. refl) calm

calm_ack : (stays : Bool) (ids : List ℕ) (steps : List (Event × List Action)) (given : List Action) (c : Course) (ack : Option (ℕ × ℕ)) → IsCalmAfter stays ids steps given c → IsCalmAfter stays ids steps (given ++ (ack_received c ack).0) (ack_received c ack).1
calm_ack stays ids steps given c (Some (table, number)) calm = calm_acknowledged stays ids steps given (is_out table c.shares) c table number calm
calm_ack stays ids steps given c None calm = calm_still stays ids steps given [] c (λ id. refl) calm

calm_received : (stays : Bool) (ids : List ℕ) (steps : List (Event × List Action)) (given : List Action) (c : Course) (t : Taken) → IsCalmAfter stays ids steps given c → IsCalmAfter stays ids steps (given ++ (message_received c t).0) (message_received c t).1
calm_received stays ids steps given c (taken.Row u) calm = calm_still stays ids steps given (actions.Learn u ∷ []) c (λ id. refl) calm
calm_received stays ids steps given c taken.Passed calm = calm_still stays ids steps given [] c (λ id. refl) calm
calm_received stays ids steps given c (taken.Said control) calm = calm_said stays ids steps given c control calm
calm_received stays ids steps given c (taken.Acked table number) calm = calm_ack stays ids steps given c (ack_of c.intake.roster (taken.Acked table number)) calm
calm_received stays ids steps given c (taken.Failed kind) calm = calm_still stays ids steps given [] c (λ id. refl) calm

calm_receives : (stays : Bool) (ids : List ℕ) (steps : List (Event × List Action)) (given : List Action) (c e : Course) (t : Taken) → Receives c t e → IsCalmAfter stays ids steps given c → IsCalmAfter stays ids steps given e
calm_receives stays ids steps given c e t (no_failure, gives, is) calm = subst (IsCalmAfter stays ids steps given) (sym is) calm

-- a session that isn't open yet has no quiet table, whatever it does first
pub fresh_after : (stays : Bool) (ids : List ℕ) (steps : List (Event × List Action)) (first : List Action) (c : Course) → IsFresh stays ids c → IsCalmAfter stays ids steps first c
fresh_after stays ids steps first c (shares, ready, none, same) =
    (never, never, (shares, (λ teaching. absurd (false≢true (sym ready ∙ teaching))), same), rw none refl, λ teaching. absurd (false≢true (sym ready ∙ teaching)))

-- receiving messages preserves it
pub calm_all : (stays : Bool) (ids : List ℕ) (steps : List (Event × List Action)) (given : List Action) (c e : Course) (ts : List Taken) (acts : List Action) → AreReceived c ts acts e → IsCalmAfter stays ids steps given c → IsCalmAfter stays ids steps (given ++ acts) e
calm_all stays ids steps given c e [] acts (none, here) calm =
    subst (λ (xs : List Action). IsCalmAfter stays ids steps (given ++ xs) e) (sym none) (subst (IsCalmAfter stays ids steps (given ++ [])) (sym here) (calm_still stays ids steps given [] c (λ id. refl) calm))
calm_all stays ids steps given c e (t ∷ ts) acts (mid, rest, receives, all, later) calm =
    let grouped : (given ++ (message_received mid t).0) ++ rest ≡ given ++ acts = append_assoc given (message_received mid t).0 rest ∙ ap (λ (xs : List Action). given ++ xs) (sym all) in
    subst (λ (xs : List Action). IsCalmAfter stays ids steps xs e) grouped
    (calm_all stays ids steps (given ++ (message_received mid t).0) (message_received mid t).1 e ts rest later (calm_received stays ids steps given mid t (calm_receives stays ids steps given c mid t receives calm)))
