-- A learner that is fed a lesson made from what a teacher knows of it.
use Rattle.std.proofs.Common.{◌≡◌, ◌≢◌, ℕ, false, List, [], ◌∷◌, ◌++◌, length, None, Result, Ok, Err, refl, sym, ap, subst, ◌∙◌, append_assoc}
use Rattle.std.specs.List.{AllByRecursion}
use Rattle.peers_msg.specs.Integers.{IsBytes}
use Rattle.table_types.specs.declared.update.Update.{Update}
use Rattle.table_types.specs.Tables.{Definition}
use Rattle.table_types.specs.Rosters.{roster_fault}
use Rattle.peers_msg.specs.declared.message.Message.{Message}
use Rattle.peers_msg.specs.Decoding.{together}
use Rattle.peers_msg.specs.Spelling.{stream_of}
use Rattle.known_state.specs.State.{State, Teaches, IsOwn, Legal}
use Rattle.known_state.proofs.StepIsDeterministic.{one_lesson}
use Rattle.known_state.specs.Known.{KnownState, AreOwn, known_of}
use Rattle.known_state.specs.LastNumbers.{AreRising}
use Rattle.known_state.specs.Lessons.{IsLessonFor}
use Rattle.known_state.proofs.TeacherAndLearnerInStep.{known_enough}
use Rattle.known_state.proofs.LastNumbersRise.{rising-step}
use Rattle.learner.specs.declared.fault.Fault.{Fault}
use Rattle.learner.specs.declared.fault.Fault.TheVariants as faults
use Rattle.learner.specs.Intake.{Taking, Stops}
use Rattle.learner.specs.Learning.{Learning, AreLearned, LearnerFeeds, AreFed, IsReadyIn, IsTaught, HasLearned, with_piece}
use Rattle.learner.specs.Moments.{Piece, stream_in, AreFedInTime, AreTooFew, FallInto, HasLearnedInTime}
use Rattle.learner.proofs.LegalStreamIsTaught.{once_named, taught, taught_in_pieces}
use Rattle.learner.specs.OnItsWay.{IsOnItsWay}
use Rattle.learner.proofs.EachPieceGivesItsOwn.{some_bytes, taught_in_time, fed_along, only_memory}

-- ---- last numbers stay in ascending order of id

learned_rise : (now : ℕ) (l e : Learning) (ms : List Message) (us : List Update) → AreRising l.intake.state.last_numbers → AreLearned now l ms us e → AreRising e.intake.state.last_numbers
learned_rise now l e [] us rise (none, here) = subst (λ (x : Learning). AreRising x.intake.state.last_numbers) (sym here) rise
learned_rise now l e (m ∷ ms) us rise (one, rest, next, all, begins, later) =
    learned_rise now next e ms rest (rising-step l.intake.state next.intake.state m begins.0.3 rise begins.0.4) later

-- a fault leaves the state unchanged
stopped_state : (t e : Taking) (fault : Fault) → Stops t fault e → e.state ≡ t.state
stopped_state t e faults.NoNumber (is_open, m, rest, at, refused, is) = ap (λ (x : Taking). x.state) is
stopped_state t e faults.EmptySlot (is_open, m, rest, at, refused, is) = ap (λ (x : Taking). x.state) is
stopped_state t e faults.Memory (is_open, takable, is) = ap (λ (x : Taking). x.state) is
stopped_state t e faults.Closed (shut, is) = ap (λ (x : Taking). x.state) is
stopped_state t e (faults.Breach breach) (is_open, at, is) = ap (λ (x : Taking). x.state) is

-- whatever a learner is fed, they stay in order
pub fed_rise : (now : ℕ) (l e : Learning) (piece : List ℕ) (result : Result ℕ Fault) → AreRising l.intake.state.last_numbers → LearnerFeeds now l piece result e → AreRising e.intake.state.last_numbers
fed_rise now l e piece result rise = by result
  where
    stopped : (fault : Fault) → ((ms : List Message) × (us : List Update) × (mid : Learning) × AreLearned now (with_piece l piece) ms us mid × Stops mid.intake fault e.intake × (e.rows ≡ mid.rows)) → AreRising e.intake.state.last_numbers
    stopped fault (ms, us, mid, learned, stops, rows) =
        subst (λ (x : State). AreRising x.last_numbers) (sym (stopped_state mid.intake e.intake fault stops)) (learned_rise now (with_piece l piece) mid ms us rise learned)

    by : (result : Result ℕ Fault) → LearnerFeeds now l piece result e → AreRising e.intake.state.last_numbers
    by (Ok count) (is_open, (ms, us, learned, waits, is)) = learned_rise now (with_piece l piece) e ms us rise learned
    by (Err faults.Closed) (shut, is) = subst (λ (x : Learning). AreRising x.intake.state.last_numbers) (sym is) rise
    by (Err faults.Memory) (is_open, left, (ms, us, mid, learned, stops, rows), is) =
        subst (λ (x : Learning). AreRising x.intake.state.last_numbers) (sym is) (subst (λ (x : State). AreRising x.last_numbers) (sym (stopped_state mid.intake left.intake faults.Memory stops)) (learned_rise now (with_piece l piece) mid ms us rise learned))
    by (Err faults.NoNumber) (is_open, all) = stopped faults.NoNumber all
    by (Err faults.EmptySlot) (is_open, all) = stopped faults.EmptySlot all
    by (Err (faults.Breach breach)) (is_open, all) = stopped (faults.Breach breach) all

-- ---- lessons

-- A lesson made from what is known of a learner is legal from the learner's own state, and what is then known of that
-- state is the lesson's end.
abbrev EndsKnown : Learning → List Message → List Update → KnownState → Type 0
EndsKnown l ms us after =
    (s : State)
    × Legal l.intake.roster l.intake.state ms us s
    × AreOwn l.intake.roster s.received.tables
    × AreRising s.last_numbers
    × (known_of l.intake.roster s ≡ after)

ends_known : (k after : KnownState) (l : Learning) (ms : List Message) (us : List Update) → Legal k.roster k.state ms us after.state → after.roster ≡ k.roster → IsReadyIn k l → EndsKnown l ms us after
ends_known k after l ms us legal rosters (ready, rise, is) =
    let from_there : Legal l.intake.roster (known_of l.intake.roster l.intake.state).state ms us after.state = subst (λ (x : KnownState). Legal x.roster x.state ms us after.state) (sym is) legal in
    let own = known_enough l.intake.roster l.intake.state after.state ms us ready.1 rise from_there in
    let roster : l.intake.roster ≡ after.roster = ap (λ (x : KnownState). x.roster) is ∙ sym rosters in
    let end : record { roster = l.intake.roster; state = after.state } ≡ after = ap (λ (ds : List Definition). record { roster = ds; state = after.state }) roster in
    (own.0, own.1, own.2, own.3, own.4 ∙ end)

-- a learner that reached that end is ready for what comes next
ready_then : (after : KnownState) (us : List Update) (ms : List Message) (l e : Learning) → roster_fault l.intake.roster ≡ None → (own : EndsKnown l ms us after) → e.intake.roster ≡ l.intake.roster → e.intake.state ≡ own.0 → e.intake.unread ≡ [] → e.intake.closed ≡ false → IsReadyIn after e
ready_then after us ms l e sound own roster state unread is_open =
    let sound_still : roster_fault e.intake.roster ≡ None = ap (λ (ds : List Definition). roster_fault ds) roster ∙ sound in
    let known : known_of e.intake.roster e.intake.state ≡ after =
    ap (λ (ds : List Definition). known_of ds e.intake.state) roster ∙ ap (λ (s : State). known_of l.intake.roster s) state ∙ own.4 in
    let owns : AreOwn e.intake.roster e.intake.state.received.tables =
    subst (λ (s : State). AreOwn e.intake.roster s.received.tables) (sym state) (subst (λ (ds : List Definition). AreOwn ds own.0.received.tables) (sym roster) own.2) in
    let rises : AreRising e.intake.state.last_numbers = subst (λ (s : State). AreRising s.last_numbers) (sym state) own.3 in
    ((sound_still, owns, is_open, unread), rises, known)

-- a learner that is taught this way has learned the lesson
learned_it : (now : ℕ) (after : KnownState) (us : List Update) (ms : List Message) (l e : Learning) → roster_fault l.intake.roster ≡ None → (own : EndsKnown l ms us after) → IsTaught now l us own.0 e → HasLearned now l us after e
learned_it now after us ms l e sound own (roster, state, unread, is_open, rows) =
    (rows, ready_then after us ms l e sound own roster state unread is_open)

-- a lesson that is fed whole is learned, unless memory runs out
pub lesson_learned : (now : ℕ) (k after : KnownState) (us : List Update) (bytes : List ℕ) (l e : Learning) (result : Result ℕ Fault) → IsLessonFor k us bytes after → IsReadyIn k l → LearnerFeeds now l bytes result e → result ≢ Err faults.Memory → (result ≡ Ok (length us)) × HasLearned now l us after e
lesson_learned now k after us bytes l e result (ms, spelt, legal, rosters) ready fed wanted =
    let own = ends_known k after l ms us legal rosters ready in
    let stream : LearnerFeeds now l (stream_of ms) result e = subst (λ (b : List ℕ). LearnerFeeds now l b result e) spelt fed in
    let done = taught now l e ms us own.0 result ready.0 own.1 stream wanted in
    (done.0, learned_it now after us ms l e ready.0.0 own done.1)

-- and so is one that is fed in pieces
pub lesson_in_pieces : (now : ℕ) (k after : KnownState) (us : List Update) (a : List ℕ) (pieces : List (List ℕ)) (l e : Learning) (count : ℕ) → IsLessonFor k us (together (a ∷ pieces)) after → IsBytes (together (a ∷ pieces)) → IsReadyIn k l → AreFed now l (a ∷ pieces) count e → (count ≡ length us) × HasLearned now l us after e
lesson_in_pieces now k after us a pieces l e count (ms, spelt, legal, rosters) good ready fed =
    let own = ends_known k after l ms us legal rosters ready in
    let done = taught_in_pieces now l e ms us own.0 a pieces count ready.0 own.1 (subst IsBytes spelt good) spelt fed in
    (done.0, learned_it now after us ms l e ready.0.0 own done.1)

-- ---- lessons at several moments

teaches_split : (s e : State) (ms ns : List Message) (us : List Update) → Teaches s (ms ++ ns) us e → (vs : List Update) × (rest : List Update) × (mid : State) × (us ≡ vs ++ rest) × Teaches s ms vs mid × Teaches mid ns rest e
teaches_split s e [] ns us teaches = ([], us, s, refl, (refl, refl), teaches)
teaches_split s e (m ∷ ms) ns us (one, others, next, joined, step, later) =
    let cut = teaches_split next e ms ns others later in
    let grouped : one ++ (cut.0 ++ cut.1) ≡ (one ++ cut.0) ++ cut.1 = simp append_assoc in
    (one ++ cut.0, cut.1, cut.2, joined ∙ ap (λ (xs : List Update). one ++ xs) cut.3 ∙ grouped, (one, cut.0, next, refl, step, cut.4), cut.5)

all_split : (p : Message → Type 0) (ms ns : List Message) → AllByRecursion p (ms ++ ns) → AllByRecursion p ms × AllByRecursion p ns
all_split p [] ns all = (tt, all)
all_split p (m ∷ ms) ns (is, all) = let rest = all_split p ms ns all in ((is, rest.0), rest.1)

-- the parts of a lesson are what its messages carry, starting from what is known of the learner
fall_known : (pieces : List Piece) (roster : List Definition) (before : ℕ) (s t end last : State) (ms : List Message) (us : List Update) (parts : List (List Update)) → AreOwn roster s.received.tables → AreRising s.last_numbers → AllByRecursion (IsOwn roster) ms → known_of roster s ≡ record { roster = roster; state = t } → Teaches t ms us last → FallInto before s ms pieces parts end → FallInto before t ms pieces parts last
fall_known [] roster before s t end last ms us parts owns rise all is teaches (none, no_parts, here) =
    (none, no_parts, (subst (λ (xs : List Message). Teaches t xs us last) none teaches).1)
fall_known (p ∷ ps) roster before s t end last ms us parts owns rise all is teaches (ended, later, part, others, mid, left, split, sum, few, carried, counted, rest) =
    let cut = teaches_split t last ended later us (subst (λ (xs : List Message). Teaches t xs us last) split teaches) in
    let alls = all_split (IsOwn roster) ended later (subst (λ (xs : List Message). AllByRecursion (IsOwn roster) xs) split all) in
    let from_there : Teaches (known_of roster s).state ended cut.0 cut.2 = subst (λ (x : KnownState). Teaches x.state ended cut.0 cut.2) (sym is) cut.4 in
    let own = known_enough roster s cut.2 ended cut.0 owns rise (alls.0, from_there) in
    let same = one_lesson s mid own.0 ended part cut.0 carried own.1.1 in
    let owns_then : AreOwn roster mid.received.tables = subst (λ (x : State). AreOwn roster x.received.tables) (sym same.1) own.2 in
    let rises_then : AreRising mid.last_numbers = subst (λ (x : State). AreRising x.last_numbers) (sym same.1) own.3 in
    let is_then : known_of roster mid ≡ record { roster = roster; state = cut.2 } = ap (λ (x : State). known_of roster x) same.1 ∙ own.4 in
    let carried_known : Teaches t ended part cut.2 = subst (λ (xs : List Update). Teaches t ended xs cut.2) (sym same.0) cut.4 in
    (ended, later, part, others, cut.2, left, split, sum, few, carried_known, counted, fall_known ps roster left mid cut.2 end last later cut.1 others owns_then rises_then alls.1 is_then cut.5 rest)

-- a learner that is ready for a lesson is at its start
starts : (k after : KnownState) (us : List Update) (bytes : List ℕ) (ms : List Message) (l : Learning) → bytes ≡ stream_of ms → IsBytes bytes → IsReadyIn k l → (own : EndsKnown l ms us after) → IsOnItsWay l bytes ms us own.0
starts k after us bytes ms l spelt good ((sound, owns, is_open, unread), rise, is) own = (
  once_named l.intake.roster sound,
  owns,
  own.1.0,
  own.1.1,
  is_open,
  ap (λ (x : List ℕ). x ++ bytes) unread ∙ spelt,
  subst (λ (x : List ℕ). IsBytes (x ++ bytes)) (sym unread) good,
)

-- a lesson that is fed in pieces at several moments is learned, each piece at its moment
pub lesson_in_time : (k after : KnownState) (us : List Update) (pieces : List Piece) (counts : List ℕ) (l e : Learning) → IsLessonFor k us (stream_in pieces) after → IsBytes (stream_in pieces) → IsReadyIn k l → AreFedInTime l pieces counts e → HasLearnedInTime k l pieces us counts after e
lesson_in_time k after us pieces counts l e (ms, spelt, legal, rosters) good ready fed =
    let own = ends_known k after l ms us legal rosters ready in
    let way = starts k after us (stream_in pieces) ms l spelt good ready own in
    let few : AreTooFew (length l.intake.unread) ms = subst (λ (x : List ℕ). AreTooFew (length x) ms) (sym ready.0.3) (some_bytes l.intake.state own.0 ms us own.1.1) in
    let done = taught_in_time pieces l e ms us counts own.0 way few fed in
    let falls : FallInto 0 l.intake.state ms pieces done.0 own.0 = subst (λ (x : List ℕ). FallInto (length x) l.intake.state ms pieces done.0 own.0) ready.0.3 done.1 in
    let teaches : Teaches (known_of l.intake.roster l.intake.state).state ms us after.state = subst (λ (x : KnownState). Teaches x.state ms us after.state) (sym ready.2) legal.1 in
    let known = fall_known pieces l.intake.roster 0 l.intake.state (known_of l.intake.roster l.intake.state).state own.0 after.state ms us done.0 ready.0.1 ready.1 own.1.0 refl teaches falls in
    let falls_known : FallInto 0 k.state ms pieces done.0 after.state = subst (λ (x : KnownState). FallInto 0 x.state ms pieces done.0 after.state) ready.2 known in
    (ms, done.0, spelt, falls_known, done.2, done.3, done.4, ready_then after us ms l e ready.0.0 own done.5 done.6 done.7 done.8)

-- and no fault occurs on the way, unless memory runs out
pub lesson_faultless : (now : ℕ) (k after : KnownState) (us : List Update) (before : List Piece) (piece more : List ℕ) (counts : List ℕ) (l mid e : Learning) (fault : Fault) → IsLessonFor k us (stream_in before ++ (piece ++ more)) after → IsBytes (stream_in before ++ (piece ++ more)) → IsReadyIn k l → AreFedInTime l before counts mid → LearnerFeeds now mid piece (Err fault) e → fault ≡ faults.Memory
lesson_faultless now k after us before piece more counts l mid e fault (ms, spelt, legal, rosters) good ready fed faulty =
    let own = ends_known k after l ms us legal rosters ready in
    let way = starts k after us (stream_in before ++ (piece ++ more)) ms l spelt good ready own in
    let along = fed_along before (piece ++ more) l mid ms us counts own.0 way fed in
    only_memory now mid e piece more along.0 along.1 own.0 fault along.2 faulty
