-- The same fault occurs however a stream is cut into pieces.
use Rattle.std.proofs.Common.{◌≡◌, ◌≢◌, ℕ, ◌+◌, ◌⊎◌, true, false, List, [], ◌∷◌, ◌++◌, Result, Ok, Err, refl, sym, ap, subst, ◌∙◌, inl, inr, append_assoc}
use Rattle.std.specs.List.{AllByRecursion}
use Rattle.peers_msg.specs.Integers.{IsBytes}
use Rattle.table_types.specs.declared.update.Update.{Update}
use Rattle.peers_msg.specs.declared.message.Message.{Message}
use Rattle.peers_msg.specs.Decoding.{together}
use Rattle.peers_msg.proofs.CuttingIndependence.{front_good, read_on}
use Rattle.peers_msg.proofs.SameEndHoweverCut.{breach_on}
use Rattle.learner.specs.declared.fault.Fault.{Fault}
use Rattle.learner.specs.declared.fault.Fault.TheVariants as faults
use Rattle.learner.specs.Intake.{Taking, Stops, fed}
use Rattle.learner.specs.Learning.{Learning, AreLearned, LearnerFeeds, AreFed, with_piece}
use Rattle.learner.specs.Cutting.{IsStopped, AreAnswered}
use Rattle.learner.proofs.LearningGoesOn.{stays_open}
use Rattle.learner.proofs.LegalStreamIsTaught.{apart}
use Rattle.learner.proofs.SameHoweverCut.{joined, learns_on, left_good, whole}
use Rattle.learner.proofs.OneOutcome.{Runs, faulty, learner_fed_once}

-- ---- more bytes after a fault

-- a fault that stops an open intake stops it with more bytes after, and leaves it the same
pub stops_on : (t e : Taking) (more : List ℕ) (fault : Fault) → IsBytes t.unread → t.closed ≡ false → Stops t fault e → fault ≢ faults.Memory → Stops (fed t more) fault e
stops_on t e more faults.NoNumber good going (is_open, m, rest, at, refused, is) wanted =
    (is_open, m, rest ++ more, read_on t.state.received m t.unread rest more good at, refused, is)
stops_on t e more faults.EmptySlot good going (is_open, m, rest, at, refused, is) wanted =
    (is_open, m, rest ++ more, read_on t.state.received m t.unread rest more good at, refused, is)
stops_on t e more faults.Memory good going stops wanted = absurd (wanted refl)
stops_on t e more faults.Closed good going (shut, is) wanted = absurd (apart (sym shut ∙ going))
stops_on t e more (faults.Breach breach) good going (is_open, at, is) wanted = (is_open, breach_on t.state.received t.unread more breach good at, is)

-- what is learned is learned with more bytes after it
pub learned_on : (now : ℕ) (l e : Learning) (more : List ℕ) (ms : List Message) (us : List Update) → IsBytes l.intake.unread → AreLearned now l ms us e → AreLearned now (with_piece l more) ms us (with_piece e more)
learned_on now l e more [] us good (none, here) = (none, ap (λ (x : Learning). with_piece x more) here)
learned_on now l e more (m ∷ ms) us good (first, rest, next, all, begins, later) =
    (first, rest, with_piece next more, all, learns_on now l next m first more good begins, learned_on now next e more ms rest (left_good l.intake next.intake m first good begins.0) later)

pub learned_left : (now : ℕ) (l e : Learning) (ms : List Message) (us : List Update) → IsBytes l.intake.unread → AreLearned now l ms us e → IsBytes e.intake.unread
learned_left now l e [] us good (none, here) = subst (λ (x : Learning). IsBytes x.intake.unread) (sym here) good
learned_left now l e (m ∷ ms) us good (first, rest, next, all, begins, later) =
    learned_left now next e ms rest (left_good l.intake next.intake m first good begins.0) later

runs_on : (now : ℕ) (l e : Learning) (more : List ℕ) (fault : Fault) → IsBytes l.intake.unread → l.intake.closed ≡ false → Runs now l fault e → fault ≢ faults.Memory → Runs now (with_piece l more) fault e
runs_on now l e more fault good is_open (ms, us, mid, learned, stops, rows) wanted =
    (ms, us, with_piece mid more, learned_on now l mid more ms us good learned, stops_on mid.intake e.intake more fault (learned_left now l mid ms us good learned) (stays_open now l mid ms us is_open learned) stops wanted, rows)

-- one piece after another is the same as both together
regrouped : (now : ℕ) (l e : Learning) (a b : List ℕ) (fault : Fault) → Runs now (with_piece (with_piece l a) b) fault e → Runs now (with_piece l (a ++ b)) fault e
regrouped now l e a b fault runs =
    let grouped : (l.intake.unread ++ a) ++ b ≡ l.intake.unread ++ (a ++ b) = simp append_assoc in
    subst (λ (bytes : List ℕ). Runs now (record { intake = record l.intake { unread = bytes }; rows = l.rows }) fault e) grouped runs

-- ---- from feeding to taking, and back

pub is_run : (now : ℕ) (l e : Learning) (piece : List ℕ) (fault : Fault) → l.intake.closed ≡ false → LearnerFeeds now l piece (Err fault) e → fault ≢ faults.Memory → Runs now (with_piece l piece) fault e
is_run now l e piece fault is_open fed wanted = elim (faulty now l e piece fault fed wanted) [
  | inl shut ↦ absurd (apart (sym shut.0 ∙ is_open))
  | inr runs ↦ runs.1
]

is_fed : (now : ℕ) (l e : Learning) (piece : List ℕ) (fault : Fault) → l.intake.closed ≡ false → Runs now (with_piece l piece) fault e → fault ≢ faults.Memory → LearnerFeeds now l piece (Err fault) e
is_fed now l e piece faults.Memory is_open runs wanted = absurd (wanted refl)
is_fed now l e piece faults.Closed is_open (ms, us, mid, learned, stops, rows) wanted =
    absurd (apart (sym stops.0 ∙ stays_open now (with_piece l piece) mid ms us is_open learned))
is_fed now l e piece faults.NoNumber is_open runs wanted = (is_open, runs)
is_fed now l e piece faults.EmptySlot is_open runs wanted = (is_open, runs)
is_fed now l e piece (faults.Breach breach) is_open runs wanted = (is_open, runs)

-- ---- pieces

-- a fault stays with more bytes after it
fault_on : (now : ℕ) (l e : Learning) (piece more : List ℕ) (fault : Fault) → l.intake.closed ≡ false → IsBytes (l.intake.unread ++ (piece ++ more)) → LearnerFeeds now l piece (Err fault) e → fault ≢ faults.Memory → LearnerFeeds now l (piece ++ more) (Err fault) e
fault_on now l e piece more fault is_open good fed wanted =
    let grouped : (l.intake.unread ++ piece) ++ more ≡ l.intake.unread ++ (piece ++ more) = simp append_assoc in
    let front : IsBytes (l.intake.unread ++ piece) = front_good (l.intake.unread ++ piece) more (subst IsBytes (sym grouped) good) in
    let runs = runs_on now (with_piece l piece) e more fault front is_open (is_run now l e piece fault is_open fed wanted) wanted in
    is_fed now l e (piece ++ more) fault is_open (regrouped now l e piece more fault runs) wanted

-- a fault that occurs after a piece occurs for both together
fault_then : (now : ℕ) (l mid e : Learning) (a b : List ℕ) (count : ℕ) (fault : Fault) → IsBytes (l.intake.unread ++ (a ++ b)) → LearnerFeeds now l a (Ok count) mid → LearnerFeeds now mid b (Err fault) e → fault ≢ faults.Memory → LearnerFeeds now l (a ++ b) (Err fault) e
fault_then now l mid e a b count fault good (is_open, (ms, us, learned, waits, is)) later wanted =
    let grouped : (l.intake.unread ++ a) ++ b ≡ l.intake.unread ++ (a ++ b) = simp append_assoc in
    let front : IsBytes (l.intake.unread ++ a) = front_good (l.intake.unread ++ a) b (subst IsBytes (sym grouped) good) in
    by front (is_run now mid e b fault waits.0 later wanted)
  where
    by : IsBytes (l.intake.unread ++ a) → Runs now (with_piece mid b) fault e → LearnerFeeds now l (a ++ b) (Err fault) e
    by front (ns, vs, end, learned', stops, rows) =
        let all : AreLearned now (with_piece (with_piece l a) b) (ms ++ ns) (us ++ vs) end = joined now (with_piece l a) mid end b ms ns us vs front learned learned' in
        is_fed now l e (a ++ b) fault is_open (regrouped now l e a b fault (ms ++ ns, us ++ vs, end, all, stops, rows)) wanted

pub fed_open : (now : ℕ) (l e : Learning) (piece : List ℕ) (count : ℕ) → LearnerFeeds now l piece (Ok count) e → e.intake.closed ≡ false
fed_open now l e piece count (is_open, (ms, us, learned, waits, is)) = waits.0

pub fed_left : (now : ℕ) (l e : Learning) (a more : List ℕ) (count : ℕ) → IsBytes (l.intake.unread ++ (a ++ more)) → LearnerFeeds now l a (Ok count) e → IsBytes (e.intake.unread ++ more)
fed_left now l e a more count good (is_open, (ms, us, learned, waits, is)) =
    let grouped : (l.intake.unread ++ a) ++ more ≡ l.intake.unread ++ (a ++ more) = simp append_assoc in
    let whole : IsBytes ((l.intake.unread ++ a) ++ more) = subst IsBytes (sym grouped) good in
    let on = learned_on now (with_piece l a) e more ms us (front_good (l.intake.unread ++ a) more whole) learned in
    learned_left now (with_piece (with_piece l a) more) (with_piece e more) ms us whole on

-- a fault that stops some pieces stops the whole
stopped_whole : (now : ℕ) (before : List (List ℕ)) (l e : Learning) (last more : List ℕ) (fault : Fault) → l.intake.closed ≡ false → IsBytes (l.intake.unread ++ (together before ++ (last ++ more))) → IsStopped now l before last fault e → fault ≢ faults.Memory → LearnerFeeds now l (together before ++ (last ++ more)) (Err fault) e
stopped_whole now [] l e last more fault is_open good (count, mid, (none, here), stops) wanted =
    fault_on now l e last more fault is_open good (subst (λ (x : Learning). LearnerFeeds now x last (Err fault) e) here stops) wanted
stopped_whole now (p ∷ ps) l e last more fault is_open good (count, mid, (one, rest, next, sum, first, later), stops) wanted =
    let grouped : p ++ (together ps ++ (last ++ more)) ≡ (p ++ together ps) ++ (last ++ more) = simp append_assoc in
    let bytes : IsBytes (l.intake.unread ++ (p ++ (together ps ++ (last ++ more)))) = subst (λ (x : List ℕ). IsBytes (l.intake.unread ++ x)) (sym grouped) good in
    let left : IsBytes (next.intake.unread ++ (together ps ++ (last ++ more))) = fed_left now l next p (together ps ++ (last ++ more)) one bytes first in
    let others = stopped_whole now ps next e last more fault (fed_open now l next p one first) left (rest, mid, later, stops) wanted in
    let all = fault_then now l next e p (together ps ++ (last ++ more)) one fault bytes first others wanted in
    subst (λ (x : List ℕ). LearnerFeeds now l x (Err fault) e) grouped all

not_memory : (fault : Fault) → fault ≢ faults.Memory → ◌≢◌ {A = Result ℕ Fault} (Err fault) (Err faults.Memory)
not_memory fault wanted same = let is : fault ≡ faults.Memory = cc in wanted is

one_fault : (fault other : Fault) → ◌≡◌ {A = Result ℕ Fault} (Err fault) (Err other) → fault ≡ other
one_fault fault other e = cc

-- the same fault occurs for every way of cutting
pub same_stop : (now : ℕ) (l a b : Learning) (before others : List (List ℕ)) (last end more rest : List ℕ) (fault other : Fault) → l.intake.closed ≡ false → IsBytes (l.intake.unread ++ (together before ++ (last ++ more))) → together before ++ (last ++ more) ≡ together others ++ (end ++ rest) → IsStopped now l before last fault a → IsStopped now l others end other b → fault ≢ faults.Memory → other ≢ faults.Memory → (fault ≡ other) × (a ≡ b)
same_stop now l a b before others last end more rest fault other is_open good cut one again p q =
    let first = stopped_whole now before l a last more fault is_open good one p in
    let bytes : IsBytes (l.intake.unread ++ (together others ++ (end ++ rest))) = subst (λ (x : List ℕ). IsBytes (l.intake.unread ++ x)) cut good in
    let second : LearnerFeeds now l (together before ++ (last ++ more)) (Err other) b = subst (λ (x : List ℕ). LearnerFeeds now l x (Err other) b) (sym cut) (stopped_whole now others l b end rest other is_open bytes again q) in
    let both = learner_fed_once now l a b (together before ++ (last ++ more)) (Err fault) (Err other) first second (not_memory fault p) (not_memory other q) in
    (one_fault fault other both.0, both.1)

-- if a fault occurs for one way of cutting, no other goes through
pub never_through : (now : ℕ) (l a b : Learning) (before others : List (List ℕ)) (last first more : List ℕ) (count : ℕ) (fault : Fault) → IsBytes (l.intake.unread ++ (together before ++ (last ++ more))) → together before ++ (last ++ more) ≡ together (first ∷ others) → IsStopped now l before last fault a → fault ≢ faults.Memory → AreFed now l (first ∷ others) count b → ⊥
never_through now l a b before others last first more count fault good cut stopped wanted fed =
    let bytes : IsBytes (l.intake.unread ++ together (first ∷ others)) = subst (λ (x : List ℕ). IsBytes (l.intake.unread ++ x)) cut good in
    let all : LearnerFeeds now l (together before ++ (last ++ more)) (Ok count) b = subst (λ (x : List ℕ). LearnerFeeds now l x (Ok count) b) (sym cut) (whole now others l b first count bytes fed) in
    let ends = stopped_whole now before l a last more fault (opened all) good stopped wanted in
    let both = learner_fed_once now l b a (together before ++ (last ++ more)) (Ok count) (Err fault) all ends (never count faults.Memory) (not_memory fault wanted) in
    never count fault both.0
  where
    opened : LearnerFeeds now l (together before ++ (last ++ more)) (Ok count) b → l.intake.closed ≡ false
    opened (is_open, rest) = is_open

    never : (n : ℕ) (f : Fault) → ◌≡◌ {A = Result ℕ Fault} (Ok n) (Err f) → ⊥
    never n f e = cc

-- ---- after a fault

shut_by : (now : ℕ) (l e : Learning) (piece : List ℕ) (fault : Fault) → LearnerFeeds now l piece (Err fault) e → e.intake.closed ≡ true
shut_by now l e piece faults.Memory (is_open, left, all, is) = ap (λ (x : Learning). x.intake.closed) is
shut_by now l e piece faults.Closed (shut, is) = ap (λ (x : Learning). x.intake.closed) is ∙ shut
shut_by now l e piece faults.NoNumber (is_open, (ms, us, mid, learned, (going, m, rest, at, refused, is), rows)) = ap (λ (x : Taking). x.closed) is
shut_by now l e piece faults.EmptySlot (is_open, (ms, us, mid, learned, (going, m, rest, at, refused, is), rows)) = ap (λ (x : Taking). x.closed) is
shut_by now l e piece (faults.Breach breach) (is_open, (ms, us, mid, learned, (going, at, is), rows)) = ap (λ (x : Taking). x.closed) is

-- a closed learner takes nothing
stays_shut : (now : ℕ) (l e : Learning) (bytes : List ℕ) (answer : Result ℕ Fault) → l.intake.closed ≡ true → LearnerFeeds now l bytes answer e → (answer ≡ Err faults.Closed) × (e ≡ l)
stays_shut now l e bytes (Ok count) shut (is_open, all) = absurd (apart (sym shut ∙ is_open))
stays_shut now l e bytes (Err faults.Closed) shut (is, same) = (refl, same)
stays_shut now l e bytes (Err faults.Memory) shut (is_open, left, all, is) = absurd (apart (sym shut ∙ is_open))
stays_shut now l e bytes (Err faults.NoNumber) shut (is_open, all) = absurd (apart (sym shut ∙ is_open))
stays_shut now l e bytes (Err faults.EmptySlot) shut (is_open, all) = absurd (apart (sym shut ∙ is_open))
stays_shut now l e bytes (Err (faults.Breach breach)) shut (is_open, all) = absurd (apart (sym shut ∙ is_open))

pub closed_then : (now after : ℕ) (l e x : Learning) (piece bytes : List ℕ) (fault : Fault) (answer : Result ℕ Fault) → LearnerFeeds now l piece (Err fault) e → LearnerFeeds after e bytes answer x → (answer ≡ Err faults.Closed) × (x ≡ e)
closed_then now after l e x piece bytes fault answer fed later = stays_shut after e x bytes answer (shut_by now l e piece fault fed) later

-- ---- all the pieces of a stream

all_shut : (now : ℕ) (pieces : List (List ℕ)) (l e : Learning) (answers : List (Result ℕ Fault)) → l.intake.closed ≡ true → AreAnswered now l pieces answers e → e ≡ l
all_shut now [] l e answers shut (none, here) = here
all_shut now (p ∷ ps) l e answers shut (one, rest, mid, is, fed, later) =
    let same : mid ≡ l = (stays_shut now l mid p one shut fed).1 in
    all_shut now ps mid e rest (ap (λ (x : Learning). x.intake.closed) same ∙ shut) later ∙ same

abbrev NoneWants : List (Result ℕ Fault) → Type 0
NoneWants answers = AllByRecursion (λ answer. answer ≢ Err faults.Memory) answers

-- pieces go through, or a fault stops them
abbrev GoesThrough : ℕ → Learning → List (List ℕ) → Learning → Type 0
GoesThrough now l pieces e = (count : ℕ) × AreFed now l pieces count e

abbrev StopsWithin : ℕ → Learning → List (List ℕ) → Learning → Type 0
StopsWithin now l pieces e =
    (begins : List (List ℕ))
    × (end : List ℕ)
    × (rest : List (List ℕ))
    × (fault : Fault)
    × (pieces ≡ begins ++ (end ∷ rest))
    × IsStopped now l begins end fault e
    × (fault ≢ faults.Memory)

through_or_stopped : (now : ℕ) (pieces : List (List ℕ)) (l e : Learning) (answers : List (Result ℕ Fault)) → AreAnswered now l pieces answers e → NoneWants answers → GoesThrough now l pieces e ⊎ StopsWithin now l pieces e
through_or_stopped now [] l e answers (none, here) fine = inl (0, (refl, here))
through_or_stopped now (p ∷ ps) l e answers (one, rest, mid, is, fed, later) fine =
    let all : NoneWants (one ∷ rest) = subst NoneWants is fine in
    by one rest mid fed all.0 later (through_or_stopped now ps mid e rest later all.1)
  where
    by : (one : Result ℕ Fault) (rest : List (Result ℕ Fault)) (mid : Learning) → LearnerFeeds now l p one mid → one ≢ Err faults.Memory → AreAnswered now mid ps rest e → GoesThrough now mid ps e ⊎ StopsWithin now mid ps e → GoesThrough now l (p ∷ ps) e ⊎ StopsWithin now l (p ∷ ps) e
    by (Ok n) rest mid fed fine later (inl (count, goes)) = inl (n + count, (n, count, mid, refl, fed, goes))
    by (Ok n) rest mid fed fine later (inr (begins, end, others, fault, cut, (count, last, goes, stops), wanted)) =
        inr (p ∷ begins, end, others, fault, ap (λ (xs : List (List ℕ)). p ∷ xs) cut, (n + count, last, (n, count, mid, refl, fed, goes), stops), wanted)
    by (Err fault) rest mid fed fine later others =
        let same : e ≡ mid = all_shut now ps mid e rest (shut_by now l mid p fault fed) later in
        let stops : LearnerFeeds now l p (Err fault) e = subst (λ (x : Learning). LearnerFeeds now l p (Err fault) x) (sym same) fed in
        inr ([], p, ps, fault, refl, (0, l, (refl, refl), stops), λ memory. fine (ap (λ (f : Fault). Err f) memory))

together-append : (xs ys : List (List ℕ)) → together (xs ++ ys) ≡ together xs ++ together ys
together-append [] ys = refl
together-append (x ∷ xs) ys =
    let grouped : x ++ (together xs ++ together ys) ≡ (x ++ together xs) ++ together ys = simp append_assoc in
    ap (λ (bytes : List ℕ). x ++ bytes) (together-append xs ys) ∙ grouped

-- a fault that occurs for one way of cutting occurs for every other
pub it_comes : (now : ℕ) (l a b : Learning) (before others : List (List ℕ)) (last first more : List ℕ) (fault : Fault) (answers : List (Result ℕ Fault)) → l.intake.closed ≡ false → IsBytes (l.intake.unread ++ (together before ++ (last ++ more))) → together before ++ (last ++ more) ≡ together (first ∷ others) → IsStopped now l before last fault a → fault ≢ faults.Memory → AreAnswered now l (first ∷ others) answers b → AllByRecursion (λ answer. answer ≢ Err faults.Memory) answers
    → (begins : List (List ℕ)) × (end : List ℕ) × (rest : List (List ℕ)) × (first ∷ others ≡ begins ++ (end ∷ rest)) × IsStopped now l begins end fault b × (a ≡ b)
it_comes now l a b before others last first more fault answers is_open good cut stopped wanted fed fine =
    elim (through_or_stopped now (first ∷ others) l b answers fed fine) [
      | inl goes ↦ absurd (never_through now l a b before others last first more goes.0 fault good cut stopped wanted goes.1)
      | inr one ↦
          let pieces : together (first ∷ others) ≡ together one.0 ++ (one.1 ++ together one.2) = ap together one.4 ∙ together-append one.0 (one.1 ∷ one.2) in
          let same = same_stop now l a b before one.0 last one.1 more (together one.2) fault one.3 is_open good (cut ∙ pieces) stopped one.5 wanted one.6 in
          (one.0, one.1, one.2, one.4, subst (λ (f : Fault). IsStopped now l one.0 one.1 f b) (sym same.0) one.5, same.1)
    ]
