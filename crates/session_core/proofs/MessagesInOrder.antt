-- What the messages of a piece ask for, and how they change a course, while acknowledgements await their answers.
use Rattle.std.proofs.Common.{◌≡◌, ℕ, Bool, true, false, not, ◌&&◌, ◌||◌, ◌==◌, cond, List, [], ◌∷◌, ◌++◌, Option, Some, None, refl, sym, ap, ◌∙◌, subst, append_assoc}
use Rattle.std.specs.Prelude.{map}
use Rattle.std.specs.List.{list_any}
use Rattle.std.proofs.lemmas.List.{append-nil, map-append}
use Rattle.std.proofs.lemmas.List.Elements.{filter-append, filter_map-append}
use Rattle.table_types.specs.Tables.{Definition}
use Rattle.peers_msg.specs.declared.control.Control.{Control}
use Rattle.peers_msg.specs.declared.control.Control.TheVariants as controls
use Rattle.learner.specs.declared.taken.Taken.{Taken}
use Rattle.learner.specs.declared.taken.Taken.TheVariants as taken
use Rattle.tolerant_intake.specs.Reading.{Reading}
use Rattle.session_core.specs.declared.action.Action.{Action}
use Rattle.session_core.specs.declared.action.Action.TheVariants as actions
use Rattle.session_core.specs.declared.due.Due.{Due}
use Rattle.session_core.specs.declared.due.Due.TheVariants as dues
use Rattle.session_core.specs.declared.share.Share.{Share}
use Rattle.session_core.specs.Actions.{reopens, sends_control}
use Rattle.session_core.specs.Acks.{ack_of}
use Rattle.session_core.specs.Shares.{is_out}
use Rattle.session_core.specs.Courses.{Course, is_held, AreReceived, acknowledged, ack_received, message_received, requested}
use Rattle.session_core.specs.Paces.{ack_in}
use Rattle.session_core.specs.Standing.{is_reopen, without_reopens}
use Rattle.session_core.specs.Cutting.{answers_message, without_acks}
use Rattle.session_core.specs.Hearing.{passed_on, without_late}
use Rattle.std.proofs.lemmas.List.Folds.{list_any-append}
use Rattle.session_core.proofs.ReadersGoOn.{gives_roster, reading_of}
use Rattle.session_core.proofs.SameHoweverFed.{or_group}
use Rattle.session_core.proofs.AnswersInOrder.{Fits, Sharing, answered_in, fits_late, fits_less, fits_passed, fits_requested, over_after, requested_if, requested_in, settled_if}

-- ---- a course, as it shares tables

-- the course `c` with another reader, with this sharing, and with these answers due
abbrev pub course_of : Course → Reading → Sharing → List Due → Course
course_of c x a due = record { stays = a.stays; intake = x.intake; tolerance = x.tolerance; up_to_date = c.up_to_date; shares = a.shares; asked = c.asked; teaching = cond a.anew true c.teaching; waits = a.waits; due = due }

abbrev pub due_of : ℕ × ℕ → Due
due_of ack = dues.Ack ack.0

abbrev pub dues_of : List (ℕ × ℕ) → List Due
dues_of acks = map due_of acks

-- ---- the actions that count

abbrev pub plain : List Action → List Action
plain acts = without_reopens (without_acks acts)

pub plain_append : (xs ys : List Action) → plain (xs ++ ys) ≡ plain xs ++ plain ys
plain_append xs ys =
    ap without_reopens (filter-append answers_message xs ys) ∙ filter-append (λ action. not (is_reopen action)) (without_acks xs) (without_acks ys)

pub passed_append : (xs ys : List Action) → passed_on (xs ++ ys) ≡ passed_on xs ++ passed_on ys
passed_append xs ys = filter_map-append ack_in xs ys

-- the tables that have settled all after these actions
abbrev pub over_by : (ℕ → ℕ → Bool) → List ℕ → List Action → List ℕ
over_by settles over [] = over
over_by settles over (actions.Ack table number ∷ acts) = over_by settles (cond (list_any (λ id. id == table) over) over (over_after settles table number over)) acts
over_by settles over (action ∷ acts) = over_by settles over acts

late_ack : (settles : ℕ → ℕ → Bool) (b : Bool) (over : List ℕ) (table number : ℕ) (xs ys : List Action)
    → ((o : List ℕ) → without_late settles o (xs ++ ys) ≡ without_late settles o xs ++ without_late settles (over_by settles o xs) ys)
    → cond b (without_late settles over (xs ++ ys)) (actions.Ack table number ∷ without_late settles (over_after settles table number over) (xs ++ ys))
    ≡ cond b (without_late settles over xs) (actions.Ack table number ∷ without_late settles (over_after settles table number over) xs)
    ++ without_late settles (over_by settles (cond b over (over_after settles table number over)) xs) ys
late_ack settles true over table number xs ys later = later over
late_ack settles false over table number xs ys later = ap (λ (acts : List Action). actions.Ack table number ∷ acts) (later (over_after settles table number over))

pub late_append : (settles : ℕ → ℕ → Bool) (over : List ℕ) (xs ys : List Action) → without_late settles over (xs ++ ys) ≡ without_late settles over xs ++ without_late settles (over_by settles over xs) ys
late_append settles over [] ys = refl
late_append settles over (actions.Ack table number ∷ xs) ys = late_ack settles (list_any (λ id. id == table) over) over table number xs ys (λ o. late_append settles o xs ys)
late_append settles over (actions.Send bytes ∷ xs) ys = ap (λ (acts : List Action). actions.Send bytes ∷ acts) (late_append settles over xs ys)
late_append settles over (actions.Learn u ∷ xs) ys = ap (λ (acts : List Action). actions.Learn u ∷ acts) (late_append settles over xs ys)
late_append settles over (actions.Reopen table ∷ xs) ys = ap (λ (acts : List Action). actions.Reopen table ∷ acts) (late_append settles over xs ys)
late_append settles over (actions.Copy table kind ∷ xs) ys = ap (λ (acts : List Action). actions.Copy table kind ∷ acts) (late_append settles over xs ys)
late_append settles over (actions.Teach batch ∷ xs) ys = ap (λ (acts : List Action). actions.Teach batch ∷ acts) (late_append settles over xs ys)
late_append settles over (actions.Part kind ∷ xs) ys = ap (λ (acts : List Action). actions.Part kind ∷ acts) (late_append settles over xs ys)
late_append settles over (actions.Close ∷ xs) ys = ap (λ (acts : List Action). actions.Close ∷ acts) (late_append settles over xs ys)

pub over_append : (settles : ℕ → ℕ → Bool) (over : List ℕ) (xs ys : List Action) → over_by settles over (xs ++ ys) ≡ over_by settles (over_by settles over xs) ys
over_append settles over [] ys = refl
over_append settles over (actions.Ack table number ∷ xs) ys = over_append settles (cond (list_any (λ id. id == table) over) over (over_after settles table number over)) xs ys
over_append settles over (actions.Send bytes ∷ xs) ys = over_append settles over xs ys
over_append settles over (actions.Learn u ∷ xs) ys = over_append settles over xs ys
over_append settles over (actions.Reopen table ∷ xs) ys = over_append settles over xs ys
over_append settles over (actions.Copy table kind ∷ xs) ys = over_append settles over xs ys
over_append settles over (actions.Teach batch ∷ xs) ys = over_append settles over xs ys
over_append settles over (actions.Part kind ∷ xs) ys = over_append settles over xs ys
over_append settles over (actions.Close ∷ xs) ys = over_append settles over xs ys

pub plain_reopens : (ss : List Share) → plain (reopens ss) ≡ []
plain_reopens [] = refl
plain_reopens (s ∷ ss) = plain_reopens ss

pub passed_reopens : (ss : List Share) → passed_on (reopens ss) ≡ []
passed_reopens [] = refl
passed_reopens (s ∷ ss) = passed_reopens ss

-- ---- what a message asks for, and leaves, if the tables answer each acknowledgement at once

abbrev pub ack_told : Sharing → Option (ℕ × ℕ) → List Action
ack_told k (Some (table, number)) = cond (is_out table k.shares) (actions.Ack table number ∷ []) []
ack_told k None = []

abbrev pub ack_left : (ℕ → ℕ → Bool) → Sharing → Option (ℕ × ℕ) → Sharing
ack_left settles k (Some ack) = answered_in settles ack k
ack_left settles k None = k

abbrev pub control_told : Control → List Action
control_told controls.ResyncFinished = sends_control controls.ResyncConfirmed ∷ []
control_told controls.ResyncPartial = sends_control controls.ResyncConfirmed ∷ []
control_told control = []

-- `asks` is what a resync request changes
abbrev pub control_left : (Sharing → Sharing) → Sharing → Control → Sharing
control_left asks k controls.ResyncRequest = asks k
control_left asks k control = k

abbrev pub message_told : List Definition → Sharing → Taken → List Action
message_told roster k (taken.Row u) = actions.Learn u ∷ []
message_told roster k taken.Passed = []
message_told roster k (taken.Said control) = control_told control
message_told roster k (taken.Acked table number) = ack_told k (ack_of roster (taken.Acked table number))
message_told roster k (taken.Failed kind) = []

abbrev pub message_left : (Sharing → Sharing) → (ℕ → ℕ → Bool) → List Definition → Sharing → Taken → Sharing
message_left asks settles roster k (taken.Row u) = k
message_left asks settles roster k taken.Passed = k
message_left asks settles roster k (taken.Said control) = control_left asks k control
message_left asks settles roster k (taken.Acked table number) = ack_left settles k (ack_of roster (taken.Acked table number))
message_left asks settles roster k (taken.Failed kind) = k

abbrev pub told_by : (Sharing → Sharing) → (ℕ → ℕ → Bool) → List Definition → Sharing → List Taken → List Action
told_by asks settles roster k [] = []
told_by asks settles roster k (t ∷ ts) = message_told roster k t ++ told_by asks settles roster (message_left asks settles roster k t) ts

abbrev pub left_by : (Sharing → Sharing) → (ℕ → ℕ → Bool) → List Definition → Sharing → List Taken → Sharing
left_by asks settles roster k [] = k
left_by asks settles roster k (t ∷ ts) = left_by asks settles roster (message_left asks settles roster k t) ts

pub told_append : (asks : Sharing → Sharing) (settles : ℕ → ℕ → Bool) (roster : List Definition) (k : Sharing) (ts us : List Taken)
    → told_by asks settles roster k (ts ++ us) ≡ told_by asks settles roster k ts ++ told_by asks settles roster (left_by asks settles roster k ts) us
told_append asks settles roster k [] us = refl
told_append asks settles roster k (t ∷ ts) us =
    let later = told_append asks settles roster (message_left asks settles roster k t) ts us in
    let grouped : (message_told roster k t ++ told_by asks settles roster (message_left asks settles roster k t) ts) ++ told_by asks settles roster (left_by asks settles roster (message_left asks settles roster k t) ts) us
    ≡ message_told roster k t ++ (told_by asks settles roster (message_left asks settles roster k t) ts ++ told_by asks settles roster (left_by asks settles roster (message_left asks settles roster k t) ts) us) = simp append_assoc in
    ap (λ (acts : List Action). message_told roster k t ++ acts) later ∙ sym grouped

pub left_append : (asks : Sharing → Sharing) (settles : ℕ → ℕ → Bool) (roster : List Definition) (k : Sharing) (ts us : List Taken) → left_by asks settles roster k (ts ++ us) ≡ left_by asks settles roster (left_by asks settles roster k ts) us
left_append asks settles roster k [] us = refl
left_append asks settles roster k (t ∷ ts) us = left_append asks settles roster (message_left asks settles roster k t) ts us

-- ---- one message

-- a course that asked for `acts` became `d`, and fits `k` then; `told` is what of the actions counts, and `before` whether a
-- table was reopened before
abbrev Moves : (ℕ → ℕ → Bool) → Course → Reading → Bool → List Due → List ℕ → List (ℕ × ℕ) → List Action → Course → Sharing → List Action → Type 0
Moves settles c x before due over acks acts d k told =
    (b : Sharing)
    × (d ≡ course_of c x b (due ++ dues_of (passed_on acts)))
    × Fits settles (over_by settles over (plain acts)) (acks ++ passed_on acts) b k
    × (without_late settles over (plain acts) ≡ told)
    × (b.reopened ≡ (before || list_any is_reopen acts))

pub or_false : (b : Bool) → (b || false) ≡ b
or_false true = refl
or_false false = refl

pub reopened_both : (b : Bool) (xs ys : List Action) → ((b || list_any is_reopen xs) || list_any is_reopen ys) ≡ (b || list_any is_reopen (xs ++ ys))
reopened_both b xs ys = or_group b (list_any is_reopen xs) (list_any is_reopen ys) ∙ ap (λ (c : Bool). b || c) (sym (list_any-append is_reopen xs ys))

-- nothing is passed on
moves_still : (settles : ℕ → ℕ → Bool) (c : Course) (x : Reading) (before : Bool) (due : List Due) (over : List ℕ) (acks : List (ℕ × ℕ)) (acts : List Action) (b k : Sharing) (told : List Action)
    → passed_on acts ≡ [] → over_by settles over (plain acts) ≡ over → without_late settles over (plain acts) ≡ told
    → b.reopened ≡ (before || list_any is_reopen acts) → Fits settles over acks b k → Moves settles c x before due over acks acts (course_of c x b due) k told
moves_still settles c x before due over acks acts b k told none same is again fits =
    let no_due : due ≡ due ++ dues_of (passed_on acts) = sym (ap (λ (p : List (ℕ × ℕ)). due ++ dues_of p) none ∙ append-nil due) in
    let no_acks : acks ≡ acks ++ passed_on acts = sym (ap (λ (p : List (ℕ × ℕ)). acks ++ p) none ∙ append-nil acks) in (
      b,
      ap (λ (ds : List Due). course_of c x b ds) no_due,
      subst (λ (o : List ℕ). Fits settles o (acks ++ passed_on acts) b k) (sym same) (subst (λ (p : List (ℕ × ℕ)). Fits settles over p b k) no_acks fits),
      is,
      again,
    )

requested_moves : (settles : ℕ → ℕ → Bool) (out : Bool) (c : Course) (x : Reading) (due : List Due) (over : List ℕ) (acks : List (ℕ × ℕ)) (a k : Sharing)
    → Fits settles over acks (requested_if out a) k
    → Moves settles c x a.reopened due over acks (requested out (course_of c x a due)).0 (requested out (course_of c x a due)).1 k []
requested_moves settles true c x due over acks a k fits = moves_still settles c x a.reopened due over acks [] (requested_if true a) k [] refl refl refl (sym (or_false a.reopened)) fits
requested_moves settles false c x due over acks a k fits =
    let acts : List Action = reopens a.shares in
    moves_still settles c x a.reopened due over acks acts (requested_if false a) k [] (passed_reopens a.shares) (ap (over_by settles over) (plain_reopens a.shares)) (ap (without_late settles over) (plain_reopens a.shares)) refl fits

said_moves : (settles : ℕ → ℕ → Bool) (control : Control) (c : Course) (x : Reading) (due : List Due) (over : List ℕ) (acks : List (ℕ × ℕ)) (a k : Sharing) → Fits settles over acks a k
    → Moves settles c x a.reopened due over acks (message_received (course_of c x a due) (taken.Said control)).0 (message_received (course_of c x a due) (taken.Said control)).1 (control_left requested_in k control) (control_told control)
said_moves settles controls.ResyncRequest c x due over acks a k fits = requested_moves settles (is_held a.stays a.shares) c x due over acks a (requested_in k) (fits_requested settles over acks a k fits)
said_moves settles controls.ResyncFinished c x due over acks a k fits = moves_still settles c x a.reopened due over acks (sends_control controls.ResyncConfirmed ∷ []) a k (sends_control controls.ResyncConfirmed ∷ []) refl refl refl (sym (or_false a.reopened)) fits
said_moves settles controls.ResyncPartial c x due over acks a k fits = moves_still settles c x a.reopened due over acks (sends_control controls.ResyncConfirmed ∷ []) a k (sends_control controls.ResyncConfirmed ∷ []) refl refl refl (sym (or_false a.reopened)) fits
said_moves settles controls.ResyncConfirmed c x due over acks a k fits = moves_still settles c x a.reopened due over acks [] a k [] refl refl refl (sym (or_false a.reopened)) fits
said_moves settles controls.Heartbeat c x due over acks a k fits = moves_still settles c x a.reopened due over acks [] a k [] refl refl refl (sym (or_false a.reopened)) fits

-- an acknowledgement of a table with a batch out
passed_moves : (settles : ℕ → ℕ → Bool) (late : Bool) (c : Course) (x : Reading) (due : List Due) (over : List ℕ) (acks : List (ℕ × ℕ)) (a k : Sharing) (table number : ℕ)
    → list_any (λ id. id == table) over ≡ late → is_out table a.shares ≡ true → Fits settles over acks a k
    → Moves settles c x a.reopened due over acks (actions.Ack table number ∷ []) (course_of c x a (due ++ (dues.Ack table ∷ []))) (answered_in settles (table, number) k) (cond (is_out table k.shares) (actions.Ack table number ∷ []) [])
passed_moves settles true c x due over acks a k table number is_late out fits =
    let none : is_out table k.shares ≡ false = fits.1 table is_late in
    let unchanged : answered_in settles (table, number) k ≡ k = ap (λ (b : Bool). settled_if (b && settles table number) table k) none in
    let now : Fits settles over (acks ++ ((table, number) ∷ [])) a (answered_in settles (table, number) k) = subst (λ (y : Sharing). Fits settles over (acks ++ ((table, number) ∷ [])) a y) (sym unchanged) (fits_late settles over table number acks a k fits none) in (
      a,
      refl,
      subst (λ (b : Bool). Fits settles (cond b over (over_after settles table number over)) (acks ++ ((table, number) ∷ [])) a (answered_in settles (table, number) k)) (sym is_late) now,
      rw (is_late, none) refl,
      sym (or_false a.reopened),
    )
passed_moves settles false c x due over acks a k table number is_late out fits =
    let so : is_out table k.shares ≡ true = fits.2 table is_late ∙ out in (
      a,
      refl,
      subst (λ (b : Bool). Fits settles (cond b over (over_after settles table number over)) (acks ++ ((table, number) ∷ [])) a (answered_in settles (table, number) k)) (sym is_late) (fits_passed settles over table number acks a k fits so),
      rw (is_late, so) refl,
      sym (or_false a.reopened),
    )

acknowledged_moves : (settles : ℕ → ℕ → Bool) (out : Bool) (c : Course) (x : Reading) (due : List Due) (over : List ℕ) (acks : List (ℕ × ℕ)) (a k : Sharing) (table number : ℕ)
    → is_out table a.shares ≡ out → Fits settles over acks a k
    → Moves settles c x a.reopened due over acks (acknowledged out (course_of c x a due) table number).0 (acknowledged out (course_of c x a due) table number).1 (answered_in settles (table, number) k) (cond (is_out table k.shares) (actions.Ack table number ∷ []) [])
acknowledged_moves settles true c x due over acks a k table number out fits = passed_moves settles (list_any (λ id. id == table) over) c x due over acks a k table number refl out fits
acknowledged_moves settles false c x due over acks a k table number out fits =
    let none : is_out table k.shares ≡ false = fits_less settles over acks a k table fits out in
    rw none (moves_still settles c x a.reopened due over acks [] a k [] refl refl refl (sym (or_false a.reopened)) fits)

ack_moves : (settles : ℕ → ℕ → Bool) (ack : Option (ℕ × ℕ)) (c : Course) (x : Reading) (due : List Due) (over : List ℕ) (acks : List (ℕ × ℕ)) (a k : Sharing) → Fits settles over acks a k
    → Moves settles c x a.reopened due over acks (ack_received (course_of c x a due) ack).0 (ack_received (course_of c x a due) ack).1 (ack_left settles k ack) (ack_told k ack)
ack_moves settles (Some (table, number)) c x due over acks a k fits = acknowledged_moves settles (is_out table a.shares) c x due over acks a k table number refl fits
ack_moves settles None c x due over acks a k fits = moves_still settles c x a.reopened due over acks [] a k [] refl refl refl (sym (or_false a.reopened)) fits

message_moves : (settles : ℕ → ℕ → Bool) (t : Taken) (c : Course) (x : Reading) (due : List Due) (over : List ℕ) (acks : List (ℕ × ℕ)) (a k : Sharing) → Fits settles over acks a k
    → Moves settles c x a.reopened due over acks (message_received (course_of c x a due) t).0 (message_received (course_of c x a due) t).1 (message_left requested_in settles x.intake.roster k t) (message_told x.intake.roster k t)
message_moves settles (taken.Row u) c x due over acks a k fits = moves_still settles c x a.reopened due over acks (actions.Learn u ∷ []) a k (actions.Learn u ∷ []) refl refl refl (sym (or_false a.reopened)) fits
message_moves settles taken.Passed c x due over acks a k fits = moves_still settles c x a.reopened due over acks [] a k [] refl refl refl (sym (or_false a.reopened)) fits
message_moves settles (taken.Said control) c x due over acks a k fits = said_moves settles control c x due over acks a k fits
message_moves settles (taken.Acked table number) c x due over acks a k fits = ack_moves settles (ack_of x.intake.roster (taken.Acked table number)) c x due over acks a k fits
message_moves settles (taken.Failed kind) c x due over acks a k fits = moves_still settles c x a.reopened due over acks [] a k [] refl refl refl (sym (or_false a.reopened)) fits

-- ---- the messages of a piece

pub messages_move : (settles : ℕ → ℕ → Bool) (roster : List Definition) (ts : List Taken) (c : Course) (x : Reading) (due : List Due) (over : List ℕ) (acks : List (ℕ × ℕ)) (a k : Sharing) (acts : List Action) (e : Course)
    → x.intake.roster ≡ roster → Fits settles over acks a k → AreReceived (course_of c x a due) ts acts e
    → (e.intake.roster ≡ roster) × Moves settles c (reading_of e) a.reopened due over acks acts e (left_by requested_in settles roster k ts) (told_by requested_in settles roster k ts)
messages_move settles roster [] c x due over acks a k acts e same fits (none, here) =
    let still = moves_still settles c x a.reopened due over acks [] a k [] refl refl refl (sym (or_false a.reopened)) fits in
    (ap (λ (d : Course). d.intake.roster) here ∙ same, subst (λ (xs : List Action). Moves settles c (reading_of e) a.reopened due over acks xs e k []) (sym none) (subst (λ (d : Course). Moves settles c (reading_of d) a.reopened due over acks [] d k []) (sym here) still))
messages_move settles roster (t ∷ ts) c x due over acks a k acts e same fits (mid, rest, (whole, gives, then), all, later) =
    let y : Reading = reading_of mid in
    let same_then : y.intake.roster ≡ roster = gives_roster x y t gives ∙ same in
    let moves = message_moves settles t c y due over acks a k fits in
    let one : List Action × Course = message_received (course_of c y a due) t in
    let is_one : message_received mid t ≡ one = ap (λ (d : Course). message_received d t) then in
    let b : Sharing = moves.0 in
    let due_then : List Due = due ++ dues_of (passed_on one.0) in
    let over_then : List ℕ = over_by settles over (plain one.0) in
    let acks_then : List (ℕ × ℕ) = acks ++ passed_on one.0 in
    let goes : AreReceived (course_of c y b due_then) ts rest e = subst (λ (d : Course). AreReceived d ts rest e) (ap (λ (r : List Action × Course). r.1) is_one ∙ moves.1) later in
    let k_then : Sharing = message_left requested_in settles roster k t in
    let fits_then : Fits settles over_then acks_then b k_then = subst (λ (r : List Definition). Fits settles over_then acks_then b (message_left requested_in settles r k t)) same_then moves.2 in
    let others = messages_move settles roster ts c y due_then over_then acks_then b k_then rest e same_then fits_then goes in
    let last = others.1 in
    let is_acts : acts ≡ one.0 ++ rest = all ∙ ap (λ (r : List Action × Course). r.0 ++ rest) is_one in
    let passed : passed_on acts ≡ passed_on one.0 ++ passed_on rest = ap passed_on is_acts ∙ passed_append one.0 rest in
    let plainly : plain acts ≡ plain one.0 ++ plain rest = ap plain is_acts ∙ plain_append one.0 rest in
    let acks_all : acks_then ++ passed_on rest ≡ acks ++ passed_on acts = append_assoc acks (passed_on one.0) (passed_on rest) ∙ ap (λ (p : List (ℕ × ℕ)). acks ++ p) (sym passed) in
    let due_all : due_then ++ dues_of (passed_on rest) ≡ due ++ dues_of (passed_on acts) =
    append_assoc due (dues_of (passed_on one.0)) (dues_of (passed_on rest))
    ∙ ap (λ (ds : List Due). due ++ ds) (sym (map-append due_of (passed_on one.0) (passed_on rest)) ∙ ap dues_of (sym passed)) in
    let over_all : over_by settles over_then (plain rest) ≡ over_by settles over (plain acts) = sym (over_append settles over (plain one.0) (plain rest)) ∙ ap (over_by settles over) (sym plainly) in
    let told_one : without_late settles over (plain one.0) ≡ message_told roster k t = moves.3 ∙ ap (λ (r : List Definition). message_told r k t) same_then in
    let told_all : without_late settles over (plain acts) ≡ told_by requested_in settles roster k (t ∷ ts) =
    ap (without_late settles over) plainly
    ∙ late_append settles over (plain one.0) (plain rest)
    ∙ ap (λ (xs : List Action). xs ++ without_late settles over_then (plain rest)) told_one
    ∙ ap (λ (xs : List Action). message_told roster k t ++ xs) last.3 in
    let again : last.0.reopened ≡ (a.reopened || list_any is_reopen acts) =
    last.4
    ∙ ap (λ (r : Bool). r || list_any is_reopen rest) moves.4
    ∙ reopened_both a.reopened one.0 rest
    ∙ ap (λ (xs : List Action). a.reopened || list_any is_reopen xs) (sym is_acts) in (
      others.0,
      (
        last.0,
        last.1 ∙ ap (λ (ds : List Due). course_of c (reading_of e) last.0 ds) due_all,
        subst (λ (o : List ℕ). Fits settles o (acks ++ passed_on acts) last.0 (left_by requested_in settles roster k (t ∷ ts))) over_all
            (subst (λ (p : List (ℕ × ℕ)). Fits settles (over_by settles over_then (plain rest)) p last.0 (left_by requested_in settles roster k (t ∷ ts))) acks_all last.2),
        told_all,
        again,
      ),
    )
