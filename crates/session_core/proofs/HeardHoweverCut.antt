-- What a session tells of the bytes that it hears, however they are cut, and whenever its tables answer.
use Rattle.std.proofs.Common.{◌≡◌, ◌⊎◌, inl, inr, ℕ, Bool, true, false, ◌&&◌, ◌||◌, ◌==◌, cond, List, [], ◌∷◌, ◌++◌, Option, Some, None, Result, Ok, Err, refl, sym, ap, ◌∙◌, subst, append_assoc}
use Rattle.std.proofs.lemmas.Bool.{false≢true}
use Rattle.std.specs.List.{list_any}
use Rattle.std.proofs.lemmas.List.{append-nil}
use Rattle.std.proofs.lemmas.List.Folds.{list_any-append}
use Rattle.table_types.specs.Tables.{Definition}
use Rattle.table_types.specs.declared.copies.Settled.{Settled}
use Rattle.table_types.specs.declared.copies.Settled.TheVariants as settled
use Rattle.peers_msg.specs.Integers.{IsBytes}
use Rattle.peers_msg.proofs.CuttingIndependence.{front_good}
use Rattle.learner.specs.declared.fault.Fault.{Fault}
use Rattle.learner.specs.declared.taken.Taken.{Taken}
use Rattle.learner.specs.Intake.{due_acks}
use Rattle.tolerant_intake.specs.Reading.{Reading}
use Rattle.peers_msg.specs.declared.message.Message.{Message}
use Rattle.session_core.specs.declared.action.Action.{Action}
use Rattle.session_core.specs.declared.action.Action.TheVariants as actions
use Rattle.session_core.specs.declared.due.Due.{Due}
use Rattle.session_core.specs.declared.due.Due.TheVariants as dues
use Rattle.session_core.specs.declared.event.Event.{Event}
use Rattle.session_core.specs.declared.event.Event.TheVariants as events
use Rattle.session_core.specs.declared.halt.Halt.{Halt}
use Rattle.session_core.specs.declared.halt.Halt.TheVariants as halts
use Rattle.session_core.specs.declared.share.Share.{Share}
use Rattle.session_core.specs.Phases.{Phase}
use Rattle.session_core.specs.Phases as phases
use Rattle.session_core.specs.Actions.{confirms, is_confirmation, reopens, sends_acks}
use Rattle.session_core.specs.Shares.{is_out}
use Rattle.session_core.specs.Courses.{Course, AreReceived, AwaitsMore, acks_given, acks_sent}
use Rattle.session_core.specs.Sessions.{Concludes, Goes, GoesIn, GoesOpen, ReceivesBytes, SessionState, Settles, StartsPendingResync, ended, going, kind_of_fault}
use Rattle.session_core.specs.Standing.{is_open, is_reopen, shared, without_reopens}
use Rattle.session_core.specs.Cutting.{IsFedOut}
use Rattle.session_core.specs.Runs.{HoldsBytes}
use Rattle.session_core.specs.Hearing.{Awaits, asked_in, heard_in, passed_on, without_late}
use Rattle.session_core.specs.Happenings.{is_all}
use Rattle.session_core.proofs.MachineRuns.{Hears}
use Rattle.session_core.proofs.AnswersInOrder.{requested_in, Fits, Sharing, all_answered, answered_in, begins, begun_if, fits_answered, fits_first, freed, settled_if}
use Rattle.session_core.proofs.EndLemmas.{silent_acks}
use Rattle.session_core.proofs.BytesStay.{append_good}
use Rattle.session_core.proofs.MessagesInOrder.{or_false, reopened_both, course_of, dues_of, late_append, left_append, left_by, messages_move, over_by, passed_append, plain, plain_append, plain_reopens, told_append, told_by}
use Rattle.session_core.proofs.ReadersGoOn.{Gives, fed, reading_of, waits_due, with_due}
use Rattle.session_core.proofs.SameHoweverFed.{after_good, or_group}
use Rattle.session_core.proofs.StepIsUnique.{Ends, received}
use Rattle.session_core.proofs.TakenHoweverCut.{AreTaken, IsOver, over_ends, taken_both, taken_good, taken_none, taken_once, taken_over, taken_received}

-- ---- what a run comes to

-- what the end of the messages tells
abbrev pub end_told : Result (Unit {0}) Halt → List Action
end_told (Ok u) = []
end_told (Err halts.Failed) = actions.Close ∷ []
end_told (Err (halts.Fault fault)) = actions.Part (kind_of_fault fault) ∷ []
end_told (Err halts.Memory) = []

-- the session `s` once it is over
abbrev pub over_with : SessionState → Option Fault → List Action → SessionState
over_with s fault acts = record s { phase = phases.Ended; fault = fault; confirmed = s.confirmed || confirms acts }

-- The session `s` is `e` after the messages, whose end is this: open, with the intake `y` and what is shared, in which `left`
-- await their answers and `k` is shared then; or over.
abbrev pub Leaves : (ℕ → ℕ → Bool) → Course → Bool → SessionState → Result (Unit {0}) Halt → Reading → Sharing → List Action → SessionState → List (ℕ × ℕ) → Type 0
Leaves settles c before s (Ok u) y k acts e left =
    (b : Sharing)
    × (e ≡ record s { phase = phases.Open (course_of c (with_due y []) b (dues_of left)); confirmed = s.confirmed || confirms acts })
    × (all_answered settles left b ≡ k)
    × (b.reopened ≡ (before || list_any is_reopen acts))
Leaves settles c before s (Err halts.Failed) y k acts e left = e ≡ over_with s s.fault acts
Leaves settles c before s (Err (halts.Fault fault)) y k acts e left = e ≡ over_with s (Some fault) acts
Leaves settles c before s (Err halts.Memory) y k acts e left = ⊥

-- bytes after the intake `x` were heard, and asked for `acts`
abbrev pub Comes : (Sharing → Sharing) → (ℕ → ℕ → Bool) → Course → Bool → Reading → Sharing → List ℕ → SessionState → List ℕ → List Action → SessionState → List (ℕ × ℕ) → Type 0
Comes asks settles c before x k over s bytes acts e left =
    (ts : List Taken)
    × (y : Reading)
    × (end : Result (Unit {0}) Halt)
    × AreTaken (fed x bytes) ts y
    × IsOver y end
    × (without_late settles over (plain acts) ≡ told_by asks settles c.intake.roster k ts ++ end_told end)
    × Leaves settles c before s end y (left_by asks settles c.intake.roster k ts) acts e left

-- ---- confirmations

confirms_append : (xs ys : List Action) → confirms (xs ++ ys) ≡ (confirms xs || confirms ys)
confirms_append xs ys = list_any-append is_confirmation xs ys

confirmed_both : (b : Bool) (xs ys : List Action) → ((b || confirms xs) || confirms ys) ≡ (b || confirms (xs ++ ys))
confirmed_both b xs ys = or_group b (confirms xs) (confirms ys) ∙ ap (λ (c : Bool). b || c) (sym (confirms_append xs ys))

reopens_confirm : (ss : List Share) → confirms (reopens ss) ≡ false
reopens_confirm [] = refl
reopens_confirm (s ∷ ss) = reopens_confirm ss

-- ---- an answer

-- what an answer asks for says nothing, and changes what is shared
abbrev pub Answers : Course → Reading → List Due → Bool → SessionState → Sharing → List Action → SessionState → Type 0
Answers c x due before s b acts e = (plain acts ≡ []) × (confirms acts ≡ false) × (e ≡ going s (course_of c x b due)) × (b.reopened ≡ (before || list_any is_reopen acts))

none_reopened : (before : Bool) (acts : List Action) → acts ≡ [] → before ≡ (before || list_any is_reopen acts)
none_reopened before acts none = sym (ap (λ (xs : List Action). before || list_any is_reopen xs) none ∙ or_false before)

starts : (b : Bool) (s e : SessionState) (c : Course) (x : Reading) (a : Sharing) (due : List Due) (acts : List Action) → StartsPendingResync b s (course_of c x a due) acts e → Answers c x due a.reopened s (begun_if b a) acts e
starts true s e c x a due acts (is, ends) = (ap plain is ∙ plain_reopens a.shares, ap confirms is ∙ reopens_confirm a.shares, ends, ap (λ (xs : List Action). a.reopened || list_any is_reopen xs) (sym is))
starts false s e c x a due acts (is, ends) = (ap plain is, ap confirms is, ends, none_reopened a.reopened acts is)

settles_moves : (answer : Settled) (s e : SessionState) (c : Course) (x : Reading) (a : Sharing) (due : List Due) (table : ℕ) (acts : List Action) → Settles answer s (course_of c x a due) table acts e → Answers c x due a.reopened s (settled_if (is_all answer) table a) acts e
settles_moves settled.All s e c x a due table acts goes = starts (begins table a) s e c x (freed table a) due acts goes
settles_moves settled.Some s e c x a due table acts (is, ends) = (ap plain is, ap confirms is, ends, none_reopened a.reopened acts is)
settles_moves settled.Older s e c x a due table acts (is, ends) = (ap plain is, ap confirms is, ends, none_reopened a.reopened acts is)

-- the rest of what is due
rest_of : (first other : Due) (rest more : List Due) → first ∷ rest ≡ other ∷ more → more ≡ rest
rest_of first other rest more same = cc

-- ---- bytes

-- what the end of the bytes adds to the actions of the messages
pub quiet_acks : (c : Course) → plain (acks_given c) ≡ []
quiet_acks c = ap without_reopens (silent_acks c.intake)

pub passed_acks : (c : Course) → passed_on (acks_given c) ≡ []
passed_acks c = by (due_acks c.intake)
  where
    by : (ms : List Message) → passed_on (sends_acks ms) ≡ []
    by [] = refl
    by (m ∷ ms) = refl

-- the session after the bytes, as the one before them with what they told
abbrev pub stepped : SessionState → Phase → List Action → SessionState
stepped s phase acts = record s { phase = phase; confirmed = s.confirmed || confirms acts }

leaves_both : (settles : ℕ → ℕ → Bool) (c : Course) (before now : Bool) (s e : SessionState) (phase : Phase) (end : Result (Unit {0}) Halt) (y z : Reading) (k l : Sharing) (acts others : List Action) (left : List (ℕ × ℕ))
    → with_due z [] ≡ with_due y [] → l ≡ k → now ≡ (before || list_any is_reopen acts) → Leaves settles c now (stepped s phase acts) end y k others e left → Leaves settles c before s end z l (acts ++ others) e left
leaves_both settles c before now s e phase (Ok u) y z k l acts others left same is again (b, ends, answers, later) = (
  b,
  ends
      ∙ ap (λ (x : Reading). stepped (stepped s phase acts) (phases.Open (course_of c x b (dues_of left))) others) (sym same)
      ∙ ap (λ (said : Bool). record s { phase = phases.Open (course_of c (with_due z []) b (dues_of left)); confirmed = said }) (confirmed_both s.confirmed acts others),
  answers ∙ sym is,
  later ∙ ap (λ (r : Bool). r || list_any is_reopen others) again ∙ reopened_both before acts others,
)
leaves_both settles c before now s e phase (Err halts.Failed) y z k l acts others left same is again ends =
    ends ∙ ap (λ (said : Bool). record s { phase = phases.Ended; confirmed = said }) (confirmed_both s.confirmed acts others)
leaves_both settles c before now s e phase (Err (halts.Fault fault)) y z k l acts others left same is again ends =
    ends ∙ ap (λ (said : Bool). record s { phase = phases.Ended; fault = Some fault; confirmed = said }) (confirmed_both s.confirmed acts others)
leaves_both settles c before now s e phase (Err halts.Memory) y z k l acts others left same is again ends = absurd ends

-- the messages of a piece that leaves the session open, and what follows
pub on_comes : (asks : Sharing → Sharing) (settles : ℕ → ℕ → Bool) (c : Course) (before now : Bool) (x m : Reading) (k : Sharing) (over : List ℕ) (s mid e : SessionState) (bytes more : List ℕ) (ts : List Taken) (given acts others : List Action) (left : List (ℕ × ℕ)) (phase : Phase)
    → IsBytes (x.intake.unread ++ bytes) → AreTaken (fed x bytes) ts m → plain acts ≡ plain given
    → without_late settles over (plain given) ≡ told_by asks settles c.intake.roster k ts
    → now ≡ (before || list_any is_reopen acts) → mid ≡ stepped s phase acts
    → Comes asks settles c now (with_due m []) (left_by asks settles c.intake.roster k ts) (over_by settles over (plain given)) mid more others e left
    → Comes asks settles c before x k over s (bytes ++ more) (acts ++ others) e left
on_comes asks settles c before now x m k over s mid e bytes more ts given acts others left phase good takes same tells again stands (us, y, end, later, ends, says, leaves) =
    let roster : List Definition = c.intake.roster in
    let all = taken_both x m y bytes more ts us end good takes later ends in
    let plainly : plain (acts ++ others) ≡ plain given ++ plain others = plain_append acts others ∙ ap (λ (xs : List Action). xs ++ plain others) same in
    let grouped : (told_by asks settles roster k ts ++ told_by asks settles roster (left_by asks settles roster k ts) us) ++ end_told end ≡ told_by asks settles roster k ts ++ (told_by asks settles roster (left_by asks settles roster k ts) us ++ end_told end) =
    append_assoc (told_by asks settles roster k ts) (told_by asks settles roster (left_by asks settles roster k ts) us) (end_told end) in
    let says_all : without_late settles over (plain (acts ++ others)) ≡ told_by asks settles roster k (ts ++ us) ++ end_told end =
    ap (without_late settles over) plainly
    ∙ late_append settles over (plain given) (plain others)
    ∙ ap (λ (xs : List Action). xs ++ without_late settles (over_by settles over (plain given)) (plain others)) tells
    ∙ ap (λ (xs : List Action). told_by asks settles roster k ts ++ xs) says
    ∙ sym grouped
    ∙ ap (λ (xs : List Action). xs ++ end_told end) (sym (told_append asks settles roster k ts us)) in
    let from : Leaves settles c now (stepped s phase acts) end y (left_by asks settles roster (left_by asks settles roster k ts) us) others e left = subst (λ (t : SessionState). Leaves settles c now t end y (left_by asks settles roster (left_by asks settles roster k ts) us) others e left) stands leaves in
    (ts ++ us, all.0, end, all.1, all.2, says_all, leaves_both settles c before now s e phase end y all.0 (left_by asks settles roster (left_by asks settles roster k ts) us) (left_by asks settles roster k (ts ++ us)) acts others left all.3 (left_append asks settles roster k ts us) again from)

-- after the end no event follows
pub none_follow : (settles : ℕ → ℕ → Bool) (s e : SessionState) (due left : List (ℕ × ℕ)) (steps : List (Event × List Action)) → s.phase ≡ phases.Ended → Hears settles s due steps e left → (steps ≡ []) × (e ≡ s)
none_follow settles s e due left [] ended hears = (refl, hears.0)
none_follow settles s e due left (step ∷ steps) ended (mid, rest, goes, awaits, later) = absurd (subst (λ (p : Phase). GoesIn p s step.0 step.1 mid) ended goes)

-- the messages of a piece that ends the session
pub over_comes : (asks : Sharing → Sharing) (settles : ℕ → ℕ → Bool) (c : Course) (before : Bool) (x m : Reading) (k : Sharing) (over : List ℕ) (s mid e : SessionState) (bytes : List ℕ) (steps : List (Event × List Action)) (ts : List Taken) (given acts : List Action) (left : List (ℕ × ℕ)) (end : Result (Unit {0}) Halt)
    → AreTaken (fed x bytes) ts m → IsOver m end → without_late settles over (plain acts) ≡ told_by asks settles c.intake.roster k ts ++ end_told end
    → Leaves settles c before s end m (left_by asks settles c.intake.roster k ts) acts mid left
    → (steps ≡ []) × (e ≡ mid)
    → Comes asks settles c before x k over s (bytes ++ heard_in steps) (acts ++ asked_in steps) e left
over_comes asks settles c before x m k over s mid e bytes steps ts given acts left end takes ends says leaves none =
    let here : Comes asks settles c before x k over s bytes acts e left = (ts, m, end, takes, ends, says, subst (λ (t : SessionState). Leaves settles c before s end m (left_by asks settles c.intake.roster k ts) acts t left) (sym none.1) leaves) in
    let no_bytes : bytes ≡ bytes ++ heard_in steps = sym (ap (λ (xs : List (Event × List Action)). bytes ++ heard_in xs) none.0 ∙ append-nil bytes) in
    let no_acts : acts ≡ acts ++ asked_in steps = sym (ap (λ (xs : List (Event × List Action)). acts ++ asked_in xs) none.0 ∙ append-nil acts) in
    subst (λ (b : List ℕ). Comes asks settles c before x k over s b (acts ++ asked_in steps) e left) no_bytes
    (subst (λ (xs : List Action). Comes asks settles c before x k over s bytes xs e left) no_acts here)

-- what follows a piece: the events after it, wherever they begin
abbrev Follows : (ℕ → ℕ → Bool) → Course → List (Event × List Action) → SessionState → List (ℕ × ℕ) → Type 0
Follows settles c steps e left =
    (s : SessionState) (x : Reading) (a k : Sharing) (over : List ℕ) (acks : List (ℕ × ℕ)) → IsBytes (x.intake.unread ++ heard_in steps)
    → Gives (with_due x []) (Ok None) (with_due x []) → x.intake.roster ≡ c.intake.roster
    → s.phase ≡ phases.Open (course_of c (with_due x []) a (dues_of acks)) → Fits settles over acks a k → Hears settles s acks steps e left
    → Comes requested_in settles c a.reopened (with_due x []) k over s (heard_in steps) (asked_in steps) e left

-- a piece of an open session, or the rest of the one that opened it, after what is done first
abbrev pub says_nothing : List Action → Type 0
says_nothing first = (plain first ≡ []) × (passed_on first ≡ [])

-- the actions of a piece, without what is sent first
pub piece_plain : (first given last acts : List Action) → says_nothing first → acts ≡ (first ++ given) ++ last → plain acts ≡ plain given ++ plain last
piece_plain first given last acts silent is =
    ap plain is
    ∙ plain_append (first ++ given) last
    ∙ ap (λ (xs : List Action). xs ++ plain last) (plain_append first given ∙ ap (λ (xs : List Action). xs ++ plain given) silent.0)

pub piece_passes : (first given last acts : List Action) → says_nothing first → acts ≡ (first ++ given) ++ last → passed_on acts ≡ passed_on given ++ passed_on last
piece_passes first given last acts silent is =
    ap passed_on is
    ∙ passed_append (first ++ given) last
    ∙ ap (λ (p : List (ℕ × ℕ)). p ++ passed_on last) (passed_append first given ∙ ap (λ (p : List (ℕ × ℕ)). p ++ passed_on given) silent.1)

-- the end of the session is told
pub piece_told : (settles : ℕ → ℕ → Bool) (over : List ℕ) (first given last acts tells : List Action) → says_nothing first → acts ≡ (first ++ given) ++ last → without_late settles (over_by settles over (plain given)) (plain last) ≡ last
    → without_late settles over (plain given) ≡ tells → without_late settles over (plain acts) ≡ tells ++ last
piece_told settles over first given last acts tells silent is ends says =
    ap (without_late settles over) (piece_plain first given last acts silent is)
    ∙ late_append settles over (plain given) (plain last)
    ∙ ap (λ (xs : List Action). without_late settles over (plain given) ++ xs) ends
    ∙ ap (λ (xs : List Action). xs ++ last) says

piece_reopens : (first given last acts : List Action) → list_any is_reopen last ≡ false → acts ≡ (first ++ given) ++ last → list_any is_reopen acts ≡ (list_any is_reopen first || list_any is_reopen given)
piece_reopens first given last acts none is =
    ap (λ (xs : List Action). list_any is_reopen xs) is
    ∙ list_any-append is_reopen (first ++ given) last
    ∙ ap (λ (b : Bool). list_any is_reopen (first ++ given) || b) none
    ∙ or_false (list_any is_reopen (first ++ given))
    ∙ list_any-append is_reopen first given

acks_reopen : (c : Course) → list_any is_reopen (acks_given c) ≡ false
acks_reopen c = by (due_acks c.intake)
  where
    by : (ms : List Message) → list_any is_reopen (sends_acks ms) ≡ false
    by [] = refl
    by (m ∷ ms) = refl

piece_open : (settles : ℕ → ℕ → Bool) (before : Bool) (c m : Course) (x : Reading) (a k : Sharing) (over : List ℕ) (s mid e : SessionState) (bytes : List ℕ) (first given acts : List Action) (ts : List Taken) (steps : List (Event × List Action)) (left : List (ℕ × ℕ))
    → says_nothing first → a.reopened ≡ (before || list_any is_reopen first) → IsBytes ((x.intake.unread ++ bytes) ++ heard_in steps) → x.intake.roster ≡ c.intake.roster → Fits settles over [] a k
    → AreReceived (course_of c (fed x bytes) a []) ts given m → AwaitsMore m
    → acts ≡ (first ++ given) ++ acks_given m → mid ≡ stepped s (phases.Open (acks_sent m)) acts
    → Follows settles c steps e left → Hears settles mid (passed_on acts) steps e left
    → Comes requested_in settles c before x k over s (bytes ++ heard_in steps) (acts ++ asked_in steps) e left
piece_open settles before c m x a k over s mid e bytes first given acts ts steps left silent opened good same fits gets waits is stands follows hears =
    let roster : List Definition = c.intake.roster in
    let y : Reading = reading_of m in
    let here : IsBytes (x.intake.unread ++ bytes) = front_good (x.intake.unread ++ bytes) (heard_in steps) good in
    let moved = messages_move settles roster ts c (fed x bytes) [] over [] a k given m same fits gets in
    let b : Sharing = moved.1.0 in
    let takes : AreTaken (fed x bytes) ts y = taken_received ts (course_of c (fed x bytes) a []) m given gets in
    let passed : passed_on acts ≡ passed_on given = piece_passes first given (acks_given m) acts silent is ∙ ap (λ (p : List (ℕ × ℕ)). passed_on given ++ p) (passed_acks m) ∙ append-nil (passed_on given) in
    let plainly : plain acts ≡ plain given = piece_plain first given (acks_given m) acts silent is ∙ ap (λ (xs : List Action). plain given ++ xs) (quiet_acks m) ∙ append-nil (plain given) in
    let opens : mid.phase ≡ phases.Open (course_of c (with_due y []) b (dues_of (passed_on acts))) =
    ap (λ (t : SessionState). t.phase) stands
    ∙ ap (λ (d : Course). phases.Open (acks_sent d)) moved.1.1
    ∙ ap (λ (p : List (ℕ × ℕ)). phases.Open (course_of c (with_due y []) b (dues_of p))) (sym passed) in
    let fits_then : Fits settles (over_by settles over (plain given)) (passed_on acts) b (left_by requested_in settles roster k ts) =
    subst (λ (p : List (ℕ × ℕ)). Fits settles (over_by settles over (plain given)) p b (left_by requested_in settles roster k ts)) (sym passed) moved.1.2 in
    let good_then : IsBytes (y.intake.unread ++ heard_in steps) = append_good y.intake.unread (heard_in steps) (taken_good ts (fed x bytes) y here takes) (after_good (x.intake.unread ++ bytes) (heard_in steps) good) in
    let later = follows mid y b (left_by requested_in settles roster k ts) (over_by settles over (plain given)) (passed_on acts) good_then (waits_due (reading_of m) [] waits) moved.0 opens fits_then hears in
    let again : b.reopened ≡ (before || list_any is_reopen acts) =
    moved.1.4
    ∙ ap (λ (r : Bool). r || list_any is_reopen given) opened
    ∙ or_group before (list_any is_reopen first) (list_any is_reopen given)
    ∙ ap (λ (r : Bool). before || r) (sym (piece_reopens first given (acks_given m) acts (acks_reopen m) is)) in
    on_comes requested_in settles c before b.reopened x y k over s mid e bytes (heard_in steps) ts given acts (asked_in steps) left (phases.Open (acks_sent m)) here takes plainly moved.1.3 again stands later

pub piece_comes : (settles : ℕ → ℕ → Bool) (before : Bool) (c : Course) (x : Reading) (a k : Sharing) (over : List ℕ) (s mid e : SessionState) (bytes : List ℕ) (first acts : List Action) (steps : List (Event × List Action)) (left : List (ℕ × ℕ))
    → says_nothing first → a.reopened ≡ (before || list_any is_reopen first) → IsBytes ((x.intake.unread ++ bytes) ++ heard_in steps) → x.intake.roster ≡ c.intake.roster → Fits settles over [] a k
    → ReceivesBytes s (course_of c (fed x bytes) a []) first acts mid → Follows settles c steps e left → Hears settles mid (passed_on acts) steps e left
    → Comes requested_in settles c before x k over s (bytes ++ heard_in steps) (acts ++ asked_in steps) e left
piece_comes settles before c x a k over s mid e bytes first acts steps left silent opened good same fits (end, given, m, receives, concludes) follows hears =
    let got = received s (course_of c (fed x bytes) a []) m first given acts mid end receives concludes in
    by end got.0 got.1 got.2 got.3 got.4
  where
    moves : (ts : List Taken) (n : Course) → AreReceived (course_of c (fed x bytes) a []) ts given n → without_late settles over (plain given) ≡ told_by requested_in settles c.intake.roster k ts
    moves ts n gets = (messages_move settles c.intake.roster ts c (fed x bytes) [] over [] a k given n same fits gets).1.3

    by : (end : Result (Unit {0}) Halt) (ts : List Taken) (n : Course) → AreReceived (course_of c (fed x bytes) a []) ts given n → Ends n end → Concludes s n end (first ++ given) acts mid
        → Comes requested_in settles c before x k over s (bytes ++ heard_in steps) (acts ++ asked_in steps) e left
    by (Ok u) ts n gets ends (is, stands) = piece_open settles before c n x a k over s mid e bytes first given acts ts steps left silent opened good same fits gets ends is stands follows hears
    by (Err halts.Failed) ts n gets ends (is, stands) =
        let takes = taken_received ts (course_of c (fed x bytes) a []) n given gets in
        let says = piece_told settles over first given (actions.Close ∷ []) acts (told_by requested_in settles c.intake.roster k ts) silent is refl (moves ts n gets) in
        over_comes requested_in settles c before x (reading_of n) k over s mid e bytes steps ts given acts left (Err halts.Failed) takes (over_ends n (Err halts.Failed) ends) says stands (none_follow settles mid e (passed_on acts) left steps (ap (λ (t : SessionState). t.phase) stands) hears)
    by (Err (halts.Fault fault)) ts n gets ends (is, stands) =
        let takes = taken_received ts (course_of c (fed x bytes) a []) n given gets in
        let says = piece_told settles over first given (actions.Part (kind_of_fault fault) ∷ []) acts (told_by requested_in settles c.intake.roster k ts) silent is refl (moves ts n gets) in
        over_comes requested_in settles c before x (reading_of n) k over s mid e bytes steps ts given acts left (Err (halts.Fault fault)) takes (over_ends n (Err (halts.Fault fault)) ends) says stands (none_follow settles mid e (passed_on acts) left steps (ap (λ (t : SessionState). t.phase) stands) hears)
    by (Err halts.Memory) ts n gets ends concludes = absurd concludes

-- actions that confirm as others do
pub confirmed_same : (settles : ℕ → ℕ → Bool) (c : Course) (before now : Bool) (s e : SessionState) (phase : Phase) (end : Result (Unit {0}) Halt) (y : Reading) (k : Sharing) (acts others : List Action) (left : List (ℕ × ℕ))
    → confirms acts ≡ confirms others → (now || list_any is_reopen acts) ≡ (before || list_any is_reopen others) → Leaves settles c now (record s { phase = phase }) end y k acts e left → Leaves settles c before s end y k others e left
confirmed_same settles c before now s e phase (Ok u) y k acts others left same again (b, ends, answers, later) =
    (b, ends ∙ ap (λ (said : Bool). record s { phase = phases.Open (course_of c (with_due y []) b (dues_of left)); confirmed = s.confirmed || said }) same, answers, later ∙ again)
confirmed_same settles c before now s e phase (Err halts.Failed) y k acts others left same again ends =
    ends ∙ ap (λ (said : Bool). record s { phase = phases.Ended; confirmed = s.confirmed || said }) same
confirmed_same settles c before now s e phase (Err (halts.Fault fault)) y k acts others left same again ends =
    ends ∙ ap (λ (said : Bool). record s { phase = phases.Ended; fault = Some fault; confirmed = s.confirmed || said }) same
confirmed_same settles c before now s e phase (Err halts.Memory) y k acts others left same again ends = absurd ends

-- ---- events one after another

-- nothing follows
pub none_comes : (asks : Sharing → Sharing) (settles : ℕ → ℕ → Bool) (c : Course) (s e : SessionState) (x : Reading) (a k : Sharing) (over : List ℕ) (acks left : List (ℕ × ℕ))
    → Gives (with_due x []) (Ok None) (with_due x []) → s.phase ≡ phases.Open (course_of c (with_due x []) a (dues_of acks)) → Fits settles over acks a k → (e ≡ s) × (left ≡ acks)
    → Comes asks settles c a.reopened (with_due x []) k over s [] [] e left
none_comes asks settles c s e x a k over acks left waits opens fits (here, is) =
    let phase : e.phase ≡ phases.Open (course_of c (with_due x []) a (dues_of left)) = ap (λ (t : SessionState). t.phase) here ∙ opens ∙ ap (λ (p : List (ℕ × ℕ)). phases.Open (course_of c (with_due x []) a (dues_of p))) (sym is) in
    let stands : e ≡ record s { phase = phases.Open (course_of c (with_due x []) a (dues_of left)); confirmed = s.confirmed || false } =
    as_it_is e s here
    ∙ ap (λ (p : Phase). record s { phase = p }) phase
    ∙ ap (λ (b : Bool). record s { phase = phases.Open (course_of c (with_due x []) a (dues_of left)); confirmed = b }) (sym (or_false s.confirmed)) in
    ([], with_due x [], Ok tt, taken_none (with_due x []), waits, refl, (a, stands, subst (λ (p : List (ℕ × ℕ)). all_answered settles p a ≡ k) (sym is) fits.0, sym (or_false a.reopened)))
  where
    as_it_is : (e s : SessionState) → e ≡ s → e ≡ record s { phase = e.phase }
    as_it_is e s here = ap (λ (t : SessionState). record t { phase = e.phase }) here

-- an answer that settles so, and what follows
pub answer_next : (asks : Sharing → Sharing) (settles : ℕ → ℕ → Bool) (c : Course) (s mid e : SessionState) (x : Reading) (a b k : Sharing) (over : List ℕ) (rest left : List (ℕ × ℕ)) (bytes : List ℕ) (acts others : List Action)
    → Answers c (with_due x []) (dues_of rest) a.reopened s b acts mid → Comes asks settles c b.reopened (with_due x []) k over mid bytes others e left
    → Comes asks settles c a.reopened (with_due x []) k over s bytes (acts ++ others) e left
answer_next asks settles c s mid e x a b k over rest left bytes acts others (nothing, none, stands, reopened) (ts, y, end, takes, ends, tells, leaves) =
    let phase : Phase = phases.Open (course_of c (with_due x []) b (dues_of rest)) in
    let says : plain (acts ++ others) ≡ plain others = plain_append acts others ∙ ap (λ (xs : List Action). xs ++ plain others) nothing in
    let said : confirms (acts ++ others) ≡ confirms others = confirms_append acts others ∙ ap (λ (y : Bool). y || confirms others) none in
    let again : (b.reopened || list_any is_reopen others) ≡ (a.reopened || list_any is_reopen (acts ++ others)) = ap (λ (r : Bool). r || list_any is_reopen others) reopened ∙ reopened_both a.reopened acts others in
    let l : Sharing = left_by asks settles c.intake.roster k ts in
    let there : Leaves settles c b.reopened (record s { phase = phase }) end y l others e left = subst (λ (t : SessionState). Leaves settles c b.reopened t end y l others e left) stands leaves in
    (ts, y, end, takes, ends, ap (without_late settles over) says ∙ tells, confirmed_same settles c a.reopened b.reopened s e phase end y l others (acts ++ others) left (sym said) again there)

-- what an answer makes of an open session
pub answer_settles : (settles : ℕ → ℕ → Bool) (c : Course) (s mid : SessionState) (x : Reading) (a : Sharing) (acks rest : List (ℕ × ℕ)) (table number : ℕ) (answer : Settled) (acts : List Action)
    → s.phase ≡ phases.Open (course_of c x a (dues_of acks)) → Goes s (events.Settled table answer) acts mid
    → acks ≡ (table, number) ∷ rest → is_all answer ≡ (is_out table (shared s.phase) && settles table number)
    → Answers c x (dues_of rest) a.reopened s (answered_in settles (table, number) a) acts mid
answer_settles settles c s mid x a acks rest table number answer acts opens goes is_first is_answer =
    let here : Course = course_of c x a (dues_of acks) in
    let there : GoesOpen s here (events.Settled table answer) acts mid = subst (λ (p : Phase). GoesIn p s (events.Settled table answer) acts mid) opens goes in
    let d : Course = there.0 in
    let first : dues.Ack table ∷ dues_of rest ≡ dues.Ack table ∷ d.due = ap dues_of (sym is_first) ∙ there.1.0 in
    let is_d : d ≡ course_of c x a (dues_of rest) = there.1.1 ∙ ap (λ (ds : List Due). course_of c x a ds) (rest_of (dues.Ack table) (dues.Ack table) (dues_of rest) d.due first) in
    let is_out_now : is_all answer ≡ (is_out table a.shares && settles table number) = is_answer ∙ ap (λ (p : Phase). is_out table (shared p) && settles table number) opens in
    subst (λ (y : Bool). Answers c x (dues_of rest) a.reopened s (settled_if y table a) acts mid) is_out_now
    (settles_moves answer s mid c x a (dues_of rest) table acts (subst (λ (y : Course). Settles answer s y table acts mid) is_d there.2))

-- an answer, and what follows
answer_comes : (settles : ℕ → ℕ → Bool) (c : Course) (s mid e : SessionState) (x : Reading) (a k : Sharing) (over : List ℕ) (acks rest left : List (ℕ × ℕ)) (table : ℕ) (answer : Settled) (acts : List Action) (steps : List (Event × List Action))
    → IsBytes (x.intake.unread ++ heard_in steps) → Gives (with_due x []) (Ok None) (with_due x []) → x.intake.roster ≡ c.intake.roster
    → s.phase ≡ phases.Open (course_of c (with_due x []) a (dues_of acks)) → Fits settles over acks a k
    → Goes s (events.Settled table answer) acts mid → Awaits settles s (events.Settled table answer) acts acks rest
    → Follows settles c steps e left → Hears settles mid rest steps e left
    → Comes requested_in settles c a.reopened (with_due x []) k over s (heard_in steps) (acts ++ asked_in steps) e left
answer_comes settles c s mid e x a k over acks rest left table answer acts steps good waits same opens fits goes (number, is_first, is_answer) follows hears =
    let b : Sharing = answered_in settles (table, number) a in
    let moved = answer_settles settles c s mid (with_due x []) a acks rest table number answer acts opens goes is_first is_answer in
    let fits_then : Fits settles over rest b k = fits_answered settles over table number rest a k (subst (λ (p : List (ℕ × ℕ)). Fits settles over p a k) is_first fits) in
    let later = follows mid x b k over rest good waits same (ap (λ (t : SessionState). t.phase) moved.2) fits_then hears in
    answer_next requested_in settles c s mid e x a b k over rest left (heard_in steps) acts (asked_in steps) moved later

-- bytes of an open session come only once no answer is due
pub none_due : (acks : List (ℕ × ℕ)) → dues_of acks ≡ [] → acks ≡ []
none_due [] none = refl
none_due (ack ∷ acks) none = cc

bytes_come : (settles : ℕ → ℕ → Bool) (c : Course) (s mid e : SessionState) (x : Reading) (a k : Sharing) (over : List ℕ) (acks rest left : List (ℕ × ℕ)) (bytes : List ℕ) (acts : List Action) (steps : List (Event × List Action))
    → IsBytes ((x.intake.unread ++ bytes) ++ heard_in steps) → x.intake.roster ≡ c.intake.roster → s.phase ≡ phases.Open (course_of c x a (dues_of acks)) → Fits settles over acks a k
    → Goes s (events.Bytes bytes) acts mid → rest ≡ acks ++ passed_on acts → Follows settles c steps e left → Hears settles mid rest steps e left
    → Comes requested_in settles c a.reopened x k over s (bytes ++ heard_in steps) (acts ++ asked_in steps) e left
bytes_come settles c s mid e x a k over acks rest left bytes acts steps good same opens fits goes is_rest follows hears =
    let there : GoesOpen s (course_of c x a (dues_of acks)) (events.Bytes bytes) acts mid = subst (λ (p : Phase). GoesIn p s (events.Bytes bytes) acts mid) opens goes in
    let none : acks ≡ [] = none_due acks there.0 in
    let gets : ReceivesBytes s (course_of c (fed x bytes) a []) [] acts mid = subst (λ (p : List (ℕ × ℕ)). ReceivesBytes s (course_of c (fed x bytes) a (dues_of p)) [] acts mid) none there.1 in
    let fits_now : Fits settles over [] a k = subst (λ (p : List (ℕ × ℕ)). Fits settles over p a k) none fits in
    let is : rest ≡ passed_on acts = is_rest ∙ ap (λ (p : List (ℕ × ℕ)). p ++ passed_on acts) none in
    piece_comes settles a.reopened c x a k over s mid e bytes [] acts steps left (refl, refl) (sym (or_false a.reopened)) good same fits_now gets follows (subst (λ (p : List (ℕ × ℕ)). Hears settles mid p steps e left) is hears)

pub follows_all : (settles : ℕ → ℕ → Bool) (c : Course) (e : SessionState) (left : List (ℕ × ℕ)) (steps : List (Event × List Action)) → Follows settles c steps e left
follows_all settles c e left [] s x a k over acks good waits same opens fits hears = none_comes requested_in settles c s e x a k over acks left waits opens fits hears
follows_all settles c e left ((events.Bytes bytes, acts) ∷ steps) s x a k over acks good waits same opens fits (mid, rest, goes, awaits, hears) =
    let grouped : x.intake.unread ++ (bytes ++ heard_in steps) ≡ (x.intake.unread ++ bytes) ++ heard_in steps = sym (append_assoc x.intake.unread bytes (heard_in steps)) in
    bytes_come settles c s mid e (with_due x []) a k over acks rest left bytes acts steps (subst IsBytes grouped good) same opens fits goes awaits (follows_all settles c e left steps) hears
follows_all settles c e left ((events.Settled table answer, acts) ∷ steps) s x a k over acks good waits same opens fits (mid, rest, goes, awaits, hears) =
    answer_comes settles c s mid e x a k over acks rest left table answer acts steps good waits same opens fits goes awaits (follows_all settles c e left steps) hears
follows_all settles c e left ((events.Turn, acts) ∷ steps) s x a k over acks good waits same opens fits (mid, rest, goes, awaits, hears) = absurd awaits
follows_all settles c e left ((events.Tick, acts) ∷ steps) s x a k over acks good waits same opens fits (mid, rest, goes, awaits, hears) = absurd awaits
follows_all settles c e left ((events.Ask, acts) ∷ steps) s x a k over acks good waits same opens fits (mid, rest, goes, awaits, hears) = absurd awaits
follows_all settles c e left ((events.CaughtUp, acts) ∷ steps) s x a k over acks good waits same opens fits (mid, rest, goes, awaits, hears) = absurd awaits
follows_all settles c e left ((events.Opened, acts) ∷ steps) s x a k over acks good waits same opens fits (mid, rest, goes, awaits, hears) = absurd awaits
follows_all settles c e left ((events.End, acts) ∷ steps) s x a k over acks good waits same opens fits (mid, rest, goes, awaits, hears) = absurd awaits
follows_all settles c e left ((events.ReadFault, acts) ∷ steps) s x a k over acks good waits same opens fits (mid, rest, goes, awaits, hears) = absurd awaits
follows_all settles c e left ((events.WriteFault, acts) ∷ steps) s x a k over acks good waits same opens fits (mid, rest, goes, awaits, hears) = absurd awaits
follows_all settles c e left ((events.Copied table batch, acts) ∷ steps) s x a k over acks good waits same opens fits (mid, rest, goes, awaits, hears) = absurd awaits
follows_all settles c e left ((events.Nothing table, acts) ∷ steps) s x a k over acks good waits same opens fits (mid, rest, goes, awaits, hears) = absurd awaits
follows_all settles c e left ((events.Written known, acts) ∷ steps) s x a k over acks good waits same opens fits (mid, rest, goes, awaits, hears) = absurd awaits
follows_all settles c e left ((events.Refused table, acts) ∷ steps) s x a k over acks good waits same opens fits (mid, rest, goes, awaits, hears) = absurd awaits

-- ---- from an open session

-- what an open session shares
abbrev pub sharing_of : Course → Sharing
sharing_of c = record { stays = c.stays; shares = c.shares; waits = c.waits; anew = false; reopened = false }

open_comes : (settles : ℕ → ℕ → Bool) (c : Course) (s e : SessionState) (step : Event × List Action) (steps : List (Event × List Action)) (left : List (ℕ × ℕ))
    → s.phase ≡ phases.Open c → IsBytes (c.intake.unread ++ heard_in (step ∷ steps)) → Hears settles s [] (step ∷ steps) e left
    → Comes requested_in settles c false (reading_of c) (sharing_of c) [] s (heard_in (step ∷ steps)) (asked_in (step ∷ steps)) e left
open_comes settles c s e (events.Bytes bytes, acts) steps left opens good (mid, rest, goes, awaits, hears) =
    let there : GoesOpen s c (events.Bytes bytes) acts mid = subst (λ (p : Phase). GoesIn p s (events.Bytes bytes) acts mid) opens goes in
    let opens_so : s.phase ≡ phases.Open (course_of c (reading_of c) (sharing_of c) []) = opens ∙ ap (λ (ds : List Due). phases.Open (record c { due = ds })) there.0 in
    let grouped : c.intake.unread ++ (bytes ++ heard_in steps) ≡ (c.intake.unread ++ bytes) ++ heard_in steps = sym (append_assoc c.intake.unread bytes (heard_in steps)) in
    bytes_come settles c s mid e (reading_of c) (sharing_of c) (sharing_of c) [] [] rest left bytes acts steps (subst IsBytes grouped good) refl opens_so (fits_first settles (sharing_of c)) goes awaits (follows_all settles c e left steps) hears
open_comes settles c s e (events.Settled table answer, acts) steps left opens good (mid, rest, goes, (number, is_first, is_answer), hears) = cc
open_comes settles c s e (events.Turn, acts) steps left opens good (mid, rest, goes, awaits, hears) = absurd awaits
open_comes settles c s e (events.Tick, acts) steps left opens good (mid, rest, goes, awaits, hears) = absurd awaits
open_comes settles c s e (events.Ask, acts) steps left opens good (mid, rest, goes, awaits, hears) = absurd awaits
open_comes settles c s e (events.CaughtUp, acts) steps left opens good (mid, rest, goes, awaits, hears) = absurd awaits
open_comes settles c s e (events.Opened, acts) steps left opens good (mid, rest, goes, awaits, hears) = absurd awaits
open_comes settles c s e (events.End, acts) steps left opens good (mid, rest, goes, awaits, hears) = absurd awaits
open_comes settles c s e (events.ReadFault, acts) steps left opens good (mid, rest, goes, awaits, hears) = absurd awaits
open_comes settles c s e (events.WriteFault, acts) steps left opens good (mid, rest, goes, awaits, hears) = absurd awaits
open_comes settles c s e (events.Copied table batch, acts) steps left opens good (mid, rest, goes, awaits, hears) = absurd awaits
open_comes settles c s e (events.Nothing table, acts) steps left opens good (mid, rest, goes, awaits, hears) = absurd awaits
open_comes settles c s e (events.Written known, acts) steps left opens good (mid, rest, goes, awaits, hears) = absurd awaits
open_comes settles c s e (events.Refused table, acts) steps left opens good (mid, rest, goes, awaits, hears) = absurd awaits

-- ---- two ways to cut

-- a confirmation counts
pub confirms_plain : (settles : ℕ → ℕ → Bool) (over : List ℕ) (acts : List Action) → confirms (without_late settles over (plain acts)) ≡ confirms acts
confirms_plain settles over [] = refl
confirms_plain settles over (actions.Send bytes ∷ acts) = sends (is_confirmation (actions.Send bytes)) refl (confirms_plain settles over acts)
  where
    sends : (b : Bool) → is_confirmation (actions.Send bytes) ≡ b → confirms (without_late settles over (plain acts)) ≡ confirms acts → confirms (without_late settles over (plain (actions.Send bytes ∷ acts))) ≡ (is_confirmation (actions.Send bytes) || confirms acts)
    sends true is later = rw (is, is) refl
    sends false is later = rw is later
confirms_plain settles over (actions.Ack table number ∷ acts) = passes (list_any (λ id. id == table) over) (confirms_plain settles over acts) (confirms_plain settles (cond (settles table number) (table ∷ over) over) acts)
  where
    passes : (b : Bool) → confirms (without_late settles over (plain acts)) ≡ confirms acts → confirms (without_late settles (cond (settles table number) (table ∷ over) over) (plain acts)) ≡ confirms acts
        → confirms (cond b (without_late settles over (plain acts)) (actions.Ack table number ∷ without_late settles (cond (settles table number) (table ∷ over) over) (plain acts))) ≡ confirms acts
    passes true late kept = late
    passes false late kept = kept
confirms_plain settles over (actions.Learn u ∷ acts) = confirms_plain settles over acts
confirms_plain settles over (actions.Reopen table ∷ acts) = confirms_plain settles over acts
confirms_plain settles over (actions.Copy table kind ∷ acts) = confirms_plain settles over acts
confirms_plain settles over (actions.Teach batch ∷ acts) = confirms_plain settles over acts
confirms_plain settles over (actions.Part kind ∷ acts) = confirms_plain settles over acts
confirms_plain settles over (actions.Close ∷ acts) = confirms_plain settles over acts

-- with the bytes after the end of the session
pub out_comes : (asks : Sharing → Sharing) (settles : ℕ → ℕ → Bool) (c : Course) (before : Bool) (x : Reading) (k : Sharing) (over : List ℕ) (s : SessionState) (bytes more : List ℕ) (acts : List Action) (e : SessionState) (left : List (ℕ × ℕ))
    → IsBytes (x.intake.unread ++ bytes) → IsFedOut more e → Comes asks settles c before x k over s bytes acts e left → Comes asks settles c before x k over s (bytes ++ more) acts e left
out_comes asks settles c before x k over s bytes more acts e left good (inl none) comes =
    subst (λ (b : List ℕ). Comes asks settles c before x k over s b acts e left) (sym (ap (λ (m : List ℕ). bytes ++ m) none ∙ append-nil bytes)) comes
out_comes asks settles c before x k over s bytes more acts e left good (inr ended) (ts, y, Ok u, takes, ends, says, (b, stands, answers, later)) =
    let never : phases.Open (course_of c (with_due y []) b (dues_of left)) ≡ phases.Ended = sym (ap (λ (t : SessionState). t.phase) stands) ∙ ended in
    absurd cc
out_comes asks settles c before x k over s bytes more acts e left good (inr ended) (ts, y, Err halts.Failed, takes, ends, says, leaves) =
    let on = taken_over x y bytes more ts halts.Failed good takes ends in
    (ts, fed y more, Err halts.Failed, on.0, on.1, says, leaves)
out_comes asks settles c before x k over s bytes more acts e left good (inr ended) (ts, y, Err (halts.Fault fault), takes, ends, says, leaves) =
    let on = taken_over x y bytes more ts (halts.Fault fault) good takes ends in
    (ts, fed y more, Err (halts.Fault fault), on.0, on.1, says, leaves)
out_comes asks settles c before x k over s bytes more acts e left good (inr ended) (ts, y, Err halts.Memory, takes, ends, says, leaves) = absurd leaves

-- the same messages, up to the same end
abbrev pub AreAlike : (ℕ → ℕ → Bool) → Course → SessionState → List Action → List Action → SessionState → SessionState → List (ℕ × ℕ) → List (ℕ × ℕ) → Type 0
AreAlike settles c s acts given e end left over =
    (without_late settles [] (plain acts) ≡ without_late settles [] (plain given))
    × ((left ≡ []) ⊎ (e.phase ≡ phases.Ended) → (over ≡ []) ⊎ (end.phase ≡ phases.Ended) → e ≡ end)
    × (left ≡ [] → over ≡ [] → is_open e.phase ≡ true → list_any is_reopen acts ≡ list_any is_reopen given)

ends_alike : (settles : ℕ → ℕ → Bool) (c : Course) (before : Bool) (s : SessionState) (how : Result (Unit {0}) Halt) (y : Reading) (k : Sharing) (acts given : List Action) (e end : SessionState) (left over : List (ℕ × ℕ))
    → confirms acts ≡ confirms given → Leaves settles c before s how y k acts e left → Leaves settles c before s how y k given end over
    → (left ≡ []) ⊎ (e.phase ≡ phases.Ended) → (over ≡ []) ⊎ (end.phase ≡ phases.Ended) → e ≡ end
ends_alike settles c before s (Ok u) y k acts given e end left over same (b, stands, answers, later) (d, stands', answers', later') (inl none) (inl none') =
    let is_b : b ≡ k = sym (ap (λ (p : List (ℕ × ℕ)). all_answered settles p b) none) ∙ answers in
    let is_d : d ≡ k = sym (ap (λ (p : List (ℕ × ℕ)). all_answered settles p d) none') ∙ answers' in
    let on : List (ℕ × ℕ) → Sharing → Bool → SessionState = λ p a said. record s { phase = phases.Open (course_of c (with_due y []) a (dues_of p)); confirmed = s.confirmed || said } in
    stands
    ∙ ap (λ (p : List (ℕ × ℕ)). on p b (confirms acts)) none
    ∙ ap (λ (a : Sharing). on [] a (confirms acts)) (is_b ∙ sym is_d)
    ∙ ap (λ (said : Bool). on [] d said) same
    ∙ ap (λ (p : List (ℕ × ℕ)). on p d (confirms given)) (sym none')
    ∙ sym stands'
ends_alike settles c before s (Ok u) y k acts given e end left over same (b, stands, answers, later) (d, stands', answers', later') (inr ended) wanted =
    let never : phases.Open (course_of c (with_due y []) b (dues_of left)) ≡ phases.Ended = sym (ap (λ (t : SessionState). t.phase) stands) ∙ ended in
    absurd cc
ends_alike settles c before s (Ok u) y k acts given e end left over same (b, stands, answers, later) (d, stands', answers', later') (inl none) (inr ended) =
    let never : phases.Open (course_of c (with_due y []) d (dues_of over)) ≡ phases.Ended = sym (ap (λ (t : SessionState). t.phase) stands') ∙ ended in
    absurd cc
ends_alike settles c before s (Err halts.Failed) y k acts given e end left over same stands stands' wanted wanted' =
    stands ∙ ap (λ (said : Bool). record s { phase = phases.Ended; confirmed = s.confirmed || said }) same ∙ sym stands'
ends_alike settles c before s (Err (halts.Fault fault)) y k acts given e end left over same stands stands' wanted wanted' =
    stands ∙ ap (λ (said : Bool). record s { phase = phases.Ended; fault = Some fault; confirmed = s.confirmed || said }) same ∙ sym stands'
ends_alike settles c before s (Err halts.Memory) y k acts given e end left over same stands stands' wanted wanted' = absurd stands

reopens_alike : (settles : ℕ → ℕ → Bool) (c : Course) (s : SessionState) (how : Result (Unit {0}) Halt) (y : Reading) (k : Sharing) (acts given : List Action) (e end : SessionState) (left over : List (ℕ × ℕ))
    → Leaves settles c false s how y k acts e left → Leaves settles c false s how y k given end over → left ≡ [] → over ≡ [] → is_open e.phase ≡ true → list_any is_reopen acts ≡ list_any is_reopen given
reopens_alike settles c s (Ok u) y k acts given e end left over (b, stands, answers, later) (d, stands', answers', later') none none' opens =
    let is_b : b ≡ k = sym (ap (λ (p : List (ℕ × ℕ)). all_answered settles p b) none) ∙ answers in
    let is_d : d ≡ k = sym (ap (λ (p : List (ℕ × ℕ)). all_answered settles p d) none') ∙ answers' in
    sym later ∙ ap (λ (a : Sharing). a.reopened) (is_b ∙ sym is_d) ∙ later'
reopens_alike settles c s (Err halts.Failed) y k acts given e end left over stands stands' none none' opens =
    absurd (false≢true (ap (λ (t : SessionState). is_open t.phase) (sym stands) ∙ opens))
reopens_alike settles c s (Err (halts.Fault fault)) y k acts given e end left over stands stands' none none' opens =
    absurd (false≢true (ap (λ (t : SessionState). is_open t.phase) (sym stands) ∙ opens))
reopens_alike settles c s (Err halts.Memory) y k acts given e end left over stands stands' none none' opens = absurd stands

pub come_alike : (asks : Sharing → Sharing) (settles : ℕ → ℕ → Bool) (c : Course) (x : Reading) (k : Sharing) (s : SessionState) (bytes : List ℕ) (acts given : List Action) (e end : SessionState) (left over : List (ℕ × ℕ))
    → Comes asks settles c false x k [] s bytes acts e left → Comes asks settles c false x k [] s bytes given end over → AreAlike settles c s acts given e end left over
come_alike asks settles c x k s bytes acts given e end left over (ts, y, how, takes, ends, says, leaves) (us, z, why, takes', ends', says', leaves') =
    let roster : List Definition = c.intake.roster in
    let same = taken_once ts us (fed x bytes) y z how why takes takes' ends ends' in
    let tells : without_late settles [] (plain acts) ≡ without_late settles [] (plain given) =
    says
    ∙ ap (λ (ms : List Taken). told_by asks settles roster k ms ++ end_told how) same.0
    ∙ ap (λ (r : Result (Unit {0}) Halt). told_by asks settles roster k us ++ end_told r) same.2
    ∙ sym says' in
    let said : confirms acts ≡ confirms given = sym (confirms_plain settles [] acts) ∙ ap confirms tells ∙ confirms_plain settles [] given in
    let there : Leaves settles c false s how y (left_by asks settles roster k ts) given end over =
    subst (λ (ms : List Taken). Leaves settles c false s how y (left_by asks settles roster k ms) given end over) (sym same.0)
    (subst (λ (t : Reading). Leaves settles c false s how t (left_by asks settles roster k us) given end over) (sym same.1)
    (subst (λ (r : Result (Unit {0}) Halt). Leaves settles c false s r z (left_by asks settles roster k us) given end over) (sym same.2) leaves')) in
    (tells, ends_alike settles c false s how y (left_by asks settles roster k ts) acts given e end left over said leaves there, reopens_alike settles c s how y (left_by asks settles roster k ts) acts given e end left over leaves there)

pub heard_however_cut : (settles : ℕ → ℕ → Bool) (s e end : SessionState) (c : Course) (step other : Event × List Action) (steps others : List (Event × List Action)) (more rest : List ℕ) (left over : List (ℕ × ℕ))
    → s.phase ≡ phases.Open c → HoldsBytes s.phase → IsBytes (heard_in (step ∷ steps) ++ more) → heard_in (step ∷ steps) ++ more ≡ heard_in (other ∷ others) ++ rest
    → Hears settles s [] (step ∷ steps) e left → Hears settles s [] (other ∷ others) end over → IsFedOut more e → IsFedOut rest end
    → AreAlike settles c s (asked_in (step ∷ steps)) (asked_in (other ∷ others)) e end left over
heard_however_cut settles s e end c step other steps others more rest left over opens holds good cut one again out out' =
    let unread : IsBytes c.intake.unread = subst HoldsBytes opens holds in
    let bytes : List ℕ = heard_in (step ∷ steps) in
    let bytes' : List ℕ = heard_in (other ∷ others) in
    let good_one : IsBytes (c.intake.unread ++ bytes) = append_good c.intake.unread bytes unread (front_good bytes more good) in
    let good_other : IsBytes (c.intake.unread ++ bytes') = append_good c.intake.unread bytes' unread (front_good bytes' rest (subst IsBytes cut good)) in
    let first = out_comes requested_in settles c false (reading_of c) (sharing_of c) [] s bytes more (asked_in (step ∷ steps)) e left good_one out (open_comes settles c s e step steps left opens good_one one) in
    let second = out_comes requested_in settles c false (reading_of c) (sharing_of c) [] s bytes' rest (asked_in (other ∷ others)) end over good_other out' (open_comes settles c s end other others over opens good_other again) in
    come_alike requested_in settles c (reading_of c) (sharing_of c) s (bytes ++ more) (asked_in (step ∷ steps)) (asked_in (other ∷ others)) e end left over first
    (subst (λ (b : List ℕ). Comes requested_in settles c false (reading_of c) (sharing_of c) [] s b (asked_in (other ∷ others)) end over) (sym cut) second)
