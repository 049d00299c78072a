-- A legal stream that arrives in pieces at several moments: each piece gives what the messages that end in it carry.
use Rattle.std.proofs.Common.{◌≡◌, ◌≢◌, ℕ, ◌+◌, ◌<◌, ◌≤◌, true, false, List, [], ◌∷◌, ◌++◌, length, take, drop, Option, Some, None, Result, Ok, Err, refl, sym, ap, subst, ◌∙◌, inl, inr, ◌⊎◌, append_assoc, length-append, arith}
use Rattle.std.specs.Prelude.{map, flat_map}
use Rattle.std.specs.List.{AllByRecursion}
use Rattle.std.proofs.lemmas.Bool.{cases_lt, cases_Bool}
use Rattle.std.proofs.lemmas.List.{take_at, take-append-le, take-append-drop, drop_at}
use Rattle.peers_msg.specs.Integers.{IsBytes}
use Rattle.table_types.specs.declared.key.Key.{Key}
use Rattle.table_types.specs.declared.update.Update.{Update}
use Rattle.table_types.specs.Tables.{Definition}
use Rattle.table_types.specs.Rosters.{repeats_name}
use Rattle.table_types.specs.Rows.{StoredRow}
use Rattle.peers_msg.specs.declared.fault.Breach.{Breach}
use Rattle.peers_msg.specs.declared.message.Message.{Message}
use Rattle.peers_msg.specs.Received.{Received}
use Rattle.peers_msg.specs.Fitting.{fits}
use Rattle.peers_msg.specs.Spelling.{spelled, stream_of}
use Rattle.peers_msg.specs.Reading.{message_at, with_more}
use Rattle.known_state.specs.State.{State, Step, Teaches, IsOwn}
use Rattle.peers_msg.proofs.FieldCanonical.{IsBytes-drop}
use Rattle.peers_msg.proofs.CuttingIndependence.{found, found_is, front_good}
use Rattle.peers_msg.proofs.ReadingStays.{message_stays}
use Rattle.peers_msg.proofs.MessageCanonical.{message_takes}
use Rattle.peers_msg.proofs.MessageRoundTrip.{message_again}
use Rattle.known_state.proofs.StepIsDeterministic.{one_step}
use Rattle.known_state.specs.Known.{AreOwn}
use Rattle.known_state.proofs.TeacherAndLearnerInStep.{own_stays}
use Rattle.learner.specs.declared.fault.Fault.{Fault}
use Rattle.learner.specs.declared.fault.Fault.TheVariants as faults
use Rattle.learner.specs.Intake.{Taking, Stops}
use Rattle.learner.specs.Rows.{put_all}
use Rattle.learner.specs.Learning.{Learning, Learns, AreLearned, IsWaiting, LearnerFeeds, with_piece}
use Rattle.learner.specs.OnItsWay.{AreNextOf, IsOnItsWay}
use Rattle.learner.specs.Moments.{Piece, stream_in, AreFedInTime, AreTooFew, FallInto, put_parts}
use Rattle.learner.proofs.LegalStreamIsTaught.{step_fits, kept_own, takes_legal, put_all-append, waits_at_end, goes_on, waits_on, apart, is_memory}

-- ---- streams that are cut

-- the unread bytes of a legal stream begin with its next message, whole, or with no whole message
next_shown : (h : Received) (m : Message) (unread more tail : List ℕ) → IsBytes unread → fits h m ≡ true → unread ++ more ≡ spelled m ++ tail
    → (message_at h unread ≡ Ok None) ⊎ ((rest : List ℕ) × (message_at h unread ≡ found m rest) × (unread ≡ spelled m ++ rest) × (rest ++ more ≡ tail))
next_shown h m unread more tail good fit cut = at (message_at h unread) refl
  where
    all : message_at h (unread ++ more) ≡ found m tail
    all = ap (message_at h) cut ∙ message_again h m tail fit

    shown : message_at h unread ≢ Ok None → with_more more (message_at h unread) ≡ found m tail
    shown some = sym (message_stays h unread more good some) ∙ all

    at : (read : Result (Option (Message × List ℕ)) Breach) → message_at h unread ≡ read → (message_at h unread ≡ Ok None) ⊎ ((rest : List ℕ) × (message_at h unread ≡ found m rest) × (unread ≡ spelled m ++ rest) × (rest ++ more ≡ tail))
    at (Ok None) e = inl e
    at (Ok (Some (n, rest))) e =
        let is : found n (rest ++ more) ≡ found m tail = sym (ap (with_more more) e) ∙ shown (λ none. let bad : found n rest ≡ Ok None = sym e ∙ none in cc) in
        let same = found_is n m (rest ++ more) tail is in
        let here : message_at h unread ≡ found m rest = e ∙ ap (λ (k : Message). found k rest) same.0 in
        inr (rest, here, (message_takes h m unread rest good here).0, same.1)
    at (Err breach) e =
        let is : Err breach ≡ found m tail = sym (ap (with_more more) e) ∙ shown (λ none. let bad : ◌≡◌ {A = Result (Option (Message × List ℕ)) Breach} (Err breach) (Ok None) = sym e ∙ none in cc) in
        absurd cc

-- if the front has all the bytes of the first part, it begins with that part
front_is : (unread more a b : List ℕ) → unread ++ more ≡ a ++ b → length a ≤ length unread → unread ≡ a ++ drop (length a) unread
front_is unread more a b same le =
    let first : take (length a) unread ≡ a = sym (take-append-le (length a) unread more le) ∙ ap (take (length a)) same ∙ take_at a b (length a) refl in
    sym (take-append-drop (length a) unread) ∙ ap (λ (x : List ℕ). x ++ drop (length a) unread) first

nothing_first : (a b : List ℕ) → a ++ b ≡ [] → a ≡ []
nothing_first [] b e = refl
nothing_first (x ∷ a) b e = absurd cc

-- ---- a learner on its way through a legal stream

-- a message that is learned on the way is the next one
abbrev IsNextOf : Learning → List ℕ → List Message → List Update → State → Message → List Update → Learning → Type 0
IsNextOf l more ms us after n own next =
    (later : List Message)
    × (rest : List Update)
    × (ms ≡ n ∷ later)
    × (us ≡ own ++ rest)
    × Step l.intake.state n own next.intake.state
    × (l.intake.unread ≡ spelled n ++ next.intake.unread)
    × (next.intake.roster ≡ l.intake.roster)
    × IsOnItsWay next more later rest after

one_on_way : (now : ℕ) (l next : Learning) (more : List ℕ) (ms : List Message) (us own : List Update) (after : State) (n : Message) → IsOnItsWay l more ms us after → Learns now l n own next → IsNextOf l more ms us after n own next
one_on_way now l next more [] us own after n (once, owns, all, teaches, going, cut, good) ((is_open, rest, at, carried, step, keeps, is), rows) =
    let none : message_at l.intake.state.received l.intake.unread ≡ Ok None =
    ap (message_at l.intake.state.received) (nothing_first l.intake.unread more cut) ∙ waits_at_end l.intake.state.received in
    let bad : Ok None ≡ found n rest = sym none ∙ at in
    absurd cc
one_on_way now l next more (m ∷ ms) us own after n (once, owns, (is_own, all), (one, others, mid, joined, legal, later), going, cut, good) ((is_open, rest, at, carried, step, keeps, is), rows) =
    elim (next_shown l.intake.state.received m l.intake.unread more (stream_of ms) (front_good l.intake.unread more good) (step_fits l.intake.state mid m one legal) cut) [
      | inl none ↦ let bad : Ok None ≡ found n rest = sym none ∙ at in absurd cc
      | inr shown ↦
          let both = found_is m n shown.0 rest (sym shown.1 ∙ at) in
          let same : n ≡ m = sym both.0 in
          let steps : Step l.intake.state m carried next.intake.state = subst (λ (k : Message). Step l.intake.state k carried next.intake.state) same step in
          let unique = one_step l.intake.state next.intake.state mid m carried one steps legal in
          let keeps_all : own ≡ one = keeps ∙ kept_own l.intake.roster l.intake.state next.intake.state m carried once owns steps ∙ unique.0 in
          let left : next.intake.unread ≡ shown.0 = ap (λ (t : Taking). t.unread) is ∙ sym both.1 in
          let rosters : next.intake.roster ≡ l.intake.roster = ap (λ (t : Taking). t.roster) is in
          let begins : l.intake.unread ≡ spelled n ++ next.intake.unread = shown.2 ∙ ap (λ (k : Message). spelled k ++ shown.0) (sym same) ∙ ap (λ (x : List ℕ). spelled n ++ x) (sym left) in
          let goes : Teaches next.intake.state ms others after = subst (λ (s : State). Teaches s ms others after) (sym unique.1) later in
          let owns_then : AreOwn next.intake.roster next.intake.state.received.tables = subst (λ (ds : List Definition). AreOwn ds next.intake.state.received.tables) (sym rosters) (own_stays l.intake.roster l.intake.state next.intake.state m carried owns is_own steps) in
          let all_then : AllByRecursion (IsOwn next.intake.roster) ms = subst (λ (ds : List Definition). AllByRecursion (IsOwn ds) ms) (sym rosters) all in
          let once_then : repeats_name next.intake.roster ≡ false = ap (λ (ds : List Definition). repeats_name ds) rosters ∙ once in
          let cut_then : next.intake.unread ++ more ≡ stream_of ms = ap (λ (x : List ℕ). x ++ more) left ∙ shown.3 in
          let good_then : IsBytes (next.intake.unread ++ more) = after_good (spelled m) (next.intake.unread ++ more) (subst IsBytes (cut ∙ ap (λ (x : List ℕ). spelled m ++ x) (sym cut_then)) good) in
          let one_step_on : Step l.intake.state n own next.intake.state = subst (λ (vs : List Update). Step l.intake.state n vs next.intake.state) (unique.0 ∙ sym keeps_all) step in (
            ms,
            others,
            ap (λ (k : Message). k ∷ ms) (sym same),
            joined ∙ ap (λ (xs : List Update). xs ++ others) (sym keeps_all),
            one_step_on,
            begins,
            rosters,
            (once_then, owns_then, all_then, goes, ap (λ (t : Taking). t.closed) is, cut_then, good_then),
          )
    ]
  where
    after_good : (a b : List ℕ) → IsBytes (a ++ b) → IsBytes b
    after_good a b good = subst IsBytes (drop_at a b (length a) refl) (IsBytes-drop (length a) (a ++ b) good)

-- messages that are learned on the way are the next ones
pub on_way : (now : ℕ) (l mid : Learning) (more : List ℕ) (ms ns : List Message) (us vs : List Update) (after : State) → IsOnItsWay l more ms us after → AreLearned now l ns vs mid → AreNextOf now l more ms us after ns vs mid
on_way now l mid more ms [] us vs after way (none, here) = (
  ms,
  us,
  refl,
  ap (λ (xs : List Update). xs ++ us) (sym none),
  (none, ap (λ (x : Learning). x.intake.state) here),
  ap (λ (x : Learning). x.intake.unread) (sym here),
  ap (λ (x : Learning). x.intake.roster) here,
  ap (λ (x : Learning). x.rows) here ∙ ap (λ (xs : List Update). put_all now l.intake.roster xs l.rows) (sym none),
  subst (λ (x : Learning). IsOnItsWay x more ms us after) (sym here) way,
)
on_way now l mid more ms (n ∷ ns) us vs after way (first, rest, next, all, begins, later) =
    let one = one_on_way now l next more ms us first after n way begins in
    let others = on_way now next mid more one.0 ns one.1 rest after one.7 later in
    let rows : mid.rows ≡ put_all now l.intake.roster vs l.rows =
    others.7
    ∙ ap (λ (ds : List Definition). put_all now ds rest next.rows) one.6
    ∙ ap (λ (t : List (List (Key × StoredRow))). put_all now l.intake.roster rest t) begins.1
    ∙ sym (put_all-append now l.intake.roster first rest l.rows)
    ∙ ap (λ (xs : List Update). put_all now l.intake.roster xs l.rows) (sym all) in
    let grouped : first ++ (rest ++ others.1) ≡ (first ++ rest) ++ others.1 = simp append_assoc in
    let stream : spelled n ++ (stream_of ns ++ mid.intake.unread) ≡ (spelled n ++ stream_of ns) ++ mid.intake.unread = simp append_assoc in (
      others.0,
      others.1,
      one.2 ∙ ap (λ (xs : List Message). n ∷ xs) others.2,
      one.3 ∙ ap (λ (xs : List Update). first ++ xs) others.3 ∙ grouped ∙ ap (λ (xs : List Update). xs ++ others.1) (sym all),
      (first, rest, next.intake.state, all, one.4, others.4),
      one.5 ∙ ap (λ (x : List ℕ). spelled n ++ x) others.5 ∙ stream,
      others.6 ∙ one.6,
      rows,
      others.8,
    )

-- ---- bytes that wait

-- while no message is whole, fewer bytes are left than the next message has
pub too_few : (l : Learning) (more : List ℕ) (ms : List Message) (us : List Update) (after : State) → IsOnItsWay l more ms us after → IsWaiting l.intake → AreTooFew (length l.intake.unread) ms
too_few l more [] us after way waits = ap (λ (x : List ℕ). length x) (nothing_first l.intake.unread more way.5)
too_few l more (m ∷ ms) us after (once, owns, all, (one, others, mid, joined, legal, later), going, cut, good) waits =
    elim (cases_lt (length l.intake.unread) (length (spelled m))) [
      | inl lt ↦ lt
      | inr le ↦
          let front = front_is l.intake.unread more (spelled m) (stream_of ms) cut le in
          let read : message_at l.intake.state.received l.intake.unread ≡ found m (drop (length (spelled m)) l.intake.unread) =
          ap (message_at l.intake.state.received) front ∙ message_again l.intake.state.received m (drop (length (spelled m)) l.intake.unread) (step_fits l.intake.state mid m one legal) in
          let bad : Ok None ≡ found m (drop (length (spelled m)) l.intake.unread) = sym waits.1 ∙ read in
          absurd cc
    ]

-- no message has no bytes
pub some_bytes : (s e : State) (ms : List Message) (us : List Update) → Teaches s ms us e → AreTooFew 0 ms
some_bytes s e [] us teaches = refl
some_bytes s e (m ∷ ms) us (one, others, mid, joined, legal, later) =
    elim (cases_lt 0 (length (spelled m))) [
      | inl lt ↦ lt
      | inr le ↦
          let none : spelled m ≡ [] = empty (spelled m) le in
          let again : message_at s.received (spelled m ++ []) ≡ found m [] = message_again s.received m [] (step_fits s mid m one legal) in
          let nothing : message_at s.received (spelled m ++ []) ≡ Ok None = ap (λ (x : List ℕ). message_at s.received (x ++ [])) none ∙ waits_at_end s.received in
          let bad : Ok None ≡ found m [] = sym nothing ∙ again in
          absurd cc
    ]
  where
    empty : (xs : List ℕ) → length xs ≤ 0 → xs ≡ []
    empty [] le = refl
    empty (x ∷ xs) le = absurd (omega arith)

-- ---- pieces at their moments

-- what feeding pieces on the way results in
abbrev pub AreTaughtInTime : Learning → List Message → List Piece → List Update → List ℕ → State → Learning → Type 0
AreTaughtInTime l ms pieces us counts after e =
    (parts : List (List Update))
    × FallInto (length l.intake.unread) l.intake.state ms pieces parts after
    × (us ≡ flat_map (λ part. part) parts)
    × (counts ≡ map length parts)
    × (e.rows ≡ put_parts l.intake.roster pieces parts l.rows)
    × (e.intake.roster ≡ l.intake.roster)
    × (e.intake.state ≡ after)
    × (e.intake.unread ≡ [])
    × (e.intake.closed ≡ false)

-- feeding a piece continues with what comes after it
pub fed_on_way : (l : Learning) (piece more : List ℕ) (ms : List Message) (us : List Update) (after : State) → IsOnItsWay l (piece ++ more) ms us after → IsOnItsWay (with_piece l piece) more ms us after
fed_on_way l piece more ms us after (once, owns, all, teaches, going, cut, good) =
    let grouped : (l.intake.unread ++ piece) ++ more ≡ l.intake.unread ++ (piece ++ more) = simp append_assoc in
    (once, owns, all, teaches, going, grouped ∙ cut, subst IsBytes (sym grouped) good)

pub taught_in_time : (pieces : List Piece) (l e : Learning) (ms : List Message) (us : List Update) (counts : List ℕ) (after : State) → IsOnItsWay l (stream_in pieces) ms us after → AreTooFew (length l.intake.unread) ms → AreFedInTime l pieces counts e → AreTaughtInTime l ms pieces us counts after e
taught_in_time [] l e [] us counts after (once, owns, all, (none, here), going, cut, good) few (nothing, same) = (
  [],
  (refl, refl, here),
  none,
  nothing,
  ap (λ (x : Learning). x.rows) same,
  ap (λ (x : Learning). x.intake.roster) same,
  ap (λ (x : Learning). x.intake.state) same ∙ sym here,
  ap (λ (x : Learning). x.intake.unread) same ∙ nothing_first l.intake.unread [] cut,
  ap (λ (x : Learning). x.intake.closed) same ∙ going,
)
taught_in_time [] l e (m ∷ ms) us counts after way few fed =
    let sizes : length (l.intake.unread ++ []) ≡ length (spelled m ++ stream_of ms) = ap (λ (x : List ℕ). length x) way.5 in
    let short : length l.intake.unread < length (spelled m) = few in
    absurd (omega (arith, length-append l.intake.unread [], length-append (spelled m) (stream_of ms)))
taught_in_time (p ∷ ps) l e ms us counts after way few (one, rest, mid, counted, (is_open, (ns, vs, learned, waits, count)), later) =
    let begins = on_way p.moment (with_piece l p.bytes) mid (stream_in ps) ms ns us vs after (fed_on_way l p.bytes (stream_in ps) ms us after way) learned in
    let few_then = too_few mid (stream_in ps) begins.0 begins.1 after begins.8 waits in
    let others = taught_in_time ps mid e begins.0 begins.1 rest after begins.8 few_then later in
    let sizes : length (l.intake.unread ++ p.bytes) ≡ length (stream_of ns ++ mid.intake.unread) = ap (λ (x : List ℕ). length x) begins.5 in
    let sum : length l.intake.unread + length p.bytes ≡ length (stream_of ns) + length mid.intake.unread = omega (arith, length-append l.intake.unread p.bytes, length-append (stream_of ns) mid.intake.unread) in
    let rows : e.rows ≡ put_parts l.intake.roster (p ∷ ps) (vs ∷ others.0) l.rows =
    others.4
    ∙ ap (λ (ds : List Definition). put_parts ds ps others.0 mid.rows) begins.6
    ∙ ap (λ (t : List (List (Key × StoredRow))). put_parts l.intake.roster ps others.0 t) begins.7 in (
      vs ∷ others.0,
      (ns, begins.0, vs, others.0, mid.intake.state, length mid.intake.unread, begins.2, sum, few_then, begins.4, refl, others.1),
      begins.3 ∙ ap (λ (xs : List Update). vs ++ xs) others.2,
      counted ∙ ap (λ (n : ℕ). n ∷ rest) count ∙ ap (λ (ns : List ℕ). length vs ∷ ns) others.3,
      rows,
      others.5 ∙ begins.6,
      others.6,
      others.7,
      others.8,
    )

-- ---- no fault

-- pieces on the way, with more to come
pub fed_along : (pieces : List Piece) (more : List ℕ) (l e : Learning) (ms : List Message) (us : List Update) (counts : List ℕ) (after : State) → IsOnItsWay l (stream_in pieces ++ more) ms us after → AreFedInTime l pieces counts e
    → (later : List Message) × (rest : List Update) × IsOnItsWay e more later rest after
fed_along [] more l e ms us counts after way (nothing, same) = (ms, us, subst (λ (x : Learning). IsOnItsWay x more ms us after) (sym same) way)
fed_along (p ∷ ps) more l e ms us counts after way (one, rest, mid, counted, (is_open, (ns, vs, learned, waits, count)), later) =
    let grouped : (p.bytes ++ stream_in ps) ++ more ≡ p.bytes ++ (stream_in ps ++ more) = simp append_assoc in
    let along : IsOnItsWay l (p.bytes ++ (stream_in ps ++ more)) ms us after = subst (λ (x : List ℕ). IsOnItsWay l x ms us after) grouped way in
    let begins = on_way p.moment (with_piece l p.bytes) mid (stream_in ps ++ more) ms ns us vs after (fed_on_way l p.bytes (stream_in ps ++ more) ms us after along) learned in
    fed_along ps more mid e begins.0 begins.1 rest after begins.8 later

-- nothing on the way stops the learner
never_stops : (l : Learning) (x : Taking) (more : List ℕ) (ms : List Message) (us : List Update) (after : State) (fault : Fault) → IsOnItsWay l more ms us after → Stops l.intake fault x → fault ≢ faults.Memory → ⊥
never_stops l x more [] us after fault (once, owns, all, teaches, going, cut, good) stops wanted =
    let none : message_at l.intake.state.received l.intake.unread ≡ Ok None =
    ap (message_at l.intake.state.received) (nothing_first l.intake.unread more cut) ∙ waits_at_end l.intake.state.received in
    waits_on l.intake x fault (going, none) stops wanted
never_stops l x more (m ∷ ms) us after fault (once, owns, all, (one, others, mid, joined, legal, later), going, cut, good) stops wanted =
    elim (next_shown l.intake.state.received m l.intake.unread more (stream_of ms) (front_good l.intake.unread more good) (step_fits l.intake.state mid m one legal) cut) [
      | inl none ↦ waits_on l.intake x fault (going, none) stops wanted
      | inr shown ↦ goes_on l.intake _ x m one fault (takes_legal l.intake m one mid shown.0 once owns going shown.2 legal) stops wanted
    ]

memory_is : (fault : Fault) → is_memory fault ≡ true → fault ≡ faults.Memory
memory_is faults.Memory h = refl
memory_is faults.Closed h = absurd (apart (sym h))
memory_is faults.NoNumber h = absurd (apart (sym h))
memory_is faults.EmptySlot h = absurd (apart (sym h))
memory_is (faults.Breach breach) h = absurd (apart (sym h))

-- a fault of a piece on the way means that memory ran out
pub only_memory : (now : ℕ) (l e : Learning) (piece more : List ℕ) (ms : List Message) (us : List Update) (after : State) (fault : Fault) → IsOnItsWay l (piece ++ more) ms us after → LearnerFeeds now l piece (Err fault) e → fault ≡ faults.Memory
only_memory now l e piece more ms us after fault way fed = elim (cases_Bool (is_memory fault)) [
  | inl is ↦ memory_is fault is
  | inr other ↦ absurd (by fault other fed)
]
  where
    stopped : (fault : Fault) → is_memory fault ≡ false → ((ns : List Message) × (vs : List Update) × (mid : Learning) × AreLearned now (with_piece l piece) ns vs mid × Stops mid.intake fault e.intake × (e.rows ≡ mid.rows)) → ⊥
    stopped fault other (ns, vs, mid, learned, stops, rows) =
        let begins = on_way now (with_piece l piece) mid more ms ns us vs after (fed_on_way l piece more ms us after way) learned in
        never_stops mid e.intake more begins.0 begins.1 after fault begins.8 stops (λ same. apart (sym (ap is_memory same) ∙ other))

    by : (fault : Fault) → is_memory fault ≡ false → LearnerFeeds now l piece (Err fault) e → ⊥
    by faults.Memory other fed = apart other
    by faults.Closed other (shut, is) = apart (sym shut ∙ way.4)
    by faults.NoNumber other (is_open, all) = stopped faults.NoNumber refl all
    by faults.EmptySlot other (is_open, all) = stopped faults.EmptySlot refl all
    by (faults.Breach breach) other (is_open, all) = stopped (faults.Breach breach) refl all
