-- The faulty message is at the same place however a stream is cut into pieces.
use Rattle.std.proofs.Common.{◌≡◌, ◌≢◌, ℕ, false, List, [], ◌∷◌, ◌++◌, Ok, sym, ap, subst, ◌∙◌, append_assoc}
use Rattle.peers_msg.specs.Integers.{IsBytes}
use Rattle.peers_msg.specs.Decoding.{together}
use Rattle.peers_msg.proofs.CuttingIndependence.{front_good}
use Rattle.learner.specs.declared.fault.Fault.{Fault}
use Rattle.learner.specs.declared.fault.Fault.TheVariants as faults
use Rattle.learner.specs.Learning.{Learning, AreLearned, LearnerFeeds, with_piece}
use Rattle.learner.specs.Cutting.{StandsAt, IsStoppedAt}
use Rattle.learner.proofs.LearningGoesOn.{stays_open}
use Rattle.learner.proofs.SameHoweverCut.{joined}
use Rattle.learner.proofs.OneOutcome.{runs_once}
use Rattle.learner.proofs.SameFaultHoweverCut.{stops_on, learned_on, learned_left, fed_open, fed_left}

-- with more bytes after it, the fault is where it was
stands_on : (now : ℕ) (l e : Learning) (more left : List ℕ) (fault : Fault) → IsBytes l.intake.unread → l.intake.closed ≡ false → StandsAt now l fault left e → fault ≢ faults.Memory → StandsAt now (with_piece l more) fault (left ++ more) e
stands_on now l e more left fault good is_open (ms, us, mid, learned, stops, is) wanted = (
  ms,
  us,
  with_piece mid more,
  learned_on now l mid more ms us good learned,
  stops_on mid.intake e.intake more fault (learned_left now l mid ms us good learned) (stays_open now l mid ms us is_open learned) stops wanted,
  ap (λ (bytes : List ℕ). bytes ++ more) is,
)

-- one piece after another is the same as both together
regrouped : (now : ℕ) (l e : Learning) (a b left : List ℕ) (fault : Fault) → StandsAt now (with_piece (with_piece l a) b) fault left e → StandsAt now (with_piece l (a ++ b)) fault left e
regrouped now l e a b left fault stands =
    let grouped : (l.intake.unread ++ a) ++ b ≡ l.intake.unread ++ (a ++ b) = simp append_assoc in
    subst (λ (bytes : List ℕ). StandsAt now (record { intake = record l.intake { unread = bytes }; rows = l.rows }) fault left e) grouped stands

-- with a piece before it, the fault is where it was
stands_then : (now : ℕ) (l mid e : Learning) (a b left : List ℕ) (count : ℕ) (fault : Fault) → IsBytes (l.intake.unread ++ (a ++ b)) → LearnerFeeds now l a (Ok count) mid → StandsAt now (with_piece mid b) fault left e → StandsAt now (with_piece l (a ++ b)) fault left e
stands_then now l mid e a b left count fault good (is_open, (ms, us, learned, waits, counted)) (ns, vs, end, later, stops, is) =
    let grouped : (l.intake.unread ++ a) ++ b ≡ l.intake.unread ++ (a ++ b) = simp append_assoc in
    let front : IsBytes (l.intake.unread ++ a) = front_good (l.intake.unread ++ a) b (subst IsBytes (sym grouped) good) in
    let all : AreLearned now (with_piece (with_piece l a) b) (ms ++ ns) (us ++ vs) end = joined now (with_piece l a) mid end b ms ns us vs front learned later in
    regrouped now l e a b left fault (ms ++ ns, us ++ vs, end, all, stops, is)

-- if a fault stops some pieces, it is in the whole
stands_whole : (now : ℕ) (before : List (List ℕ)) (l e : Learning) (last more left : List ℕ) (fault : Fault) → l.intake.closed ≡ false → IsBytes (l.intake.unread ++ (together before ++ (last ++ more))) → IsStoppedAt now l before last fault left e → fault ≢ faults.Memory
    → StandsAt now (with_piece l (together before ++ (last ++ more))) fault (left ++ more) e
stands_whole now [] l e last more left fault is_open good (count, mid, (none, here), stops, stands) wanted =
    let grouped : (l.intake.unread ++ last) ++ more ≡ l.intake.unread ++ (last ++ more) = simp append_assoc in
    let front : IsBytes (l.intake.unread ++ last) = front_good (l.intake.unread ++ last) more (subst IsBytes (sym grouped) good) in
    let first : StandsAt now (with_piece l last) fault left e = subst (λ (x : Learning). StandsAt now (with_piece x last) fault left e) here stands in
    regrouped now l e last more (left ++ more) fault (stands_on now (with_piece l last) e more left fault front is_open first wanted)
stands_whole now (p ∷ ps) l e last more left fault is_open good (count, mid, (one, rest, next, sum, first, later), stops, stands) wanted =
    let grouped : p ++ (together ps ++ (last ++ more)) ≡ (p ++ together ps) ++ (last ++ more) = simp append_assoc in
    let bytes : IsBytes (l.intake.unread ++ (p ++ (together ps ++ (last ++ more)))) = subst (λ (x : List ℕ). IsBytes (l.intake.unread ++ x)) (sym grouped) good in
    let others = stands_whole now ps next e last more left fault (fed_open now l next p one first) (fed_left now l next p (together ps ++ (last ++ more)) one bytes first) (rest, mid, later, stops, stands) wanted in
    let all = stands_then now l next e p (together ps ++ (last ++ more)) (left ++ more) one fault bytes first others in
    subst (λ (x : List ℕ). StandsAt now (with_piece l x) fault (left ++ more) e) grouped all

-- from one state, a fault is at only one place
one_place : (now : ℕ) (l a b : Learning) (left behind : List ℕ) (fault other : Fault) → StandsAt now l fault left a → StandsAt now l other behind b → fault ≢ faults.Memory → other ≢ faults.Memory → left ≡ behind
one_place now l a b left behind fault other (ms, us, m, learned, stops, is) (ns, vs, n, learned', stops', is') p q =
    let all = runs_once now l m n a.intake b.intake ms ns us vs fault other learned learned' stops stops' p q in
    is ∙ ap (λ (x : Learning). x.intake.unread) all.2 ∙ sym is'

-- the faulty message is at the same place for every way of cutting
pub same_place : (now : ℕ) (l a b : Learning) (before others : List (List ℕ)) (last end more rest left behind : List ℕ) (fault other : Fault) → l.intake.closed ≡ false → IsBytes (l.intake.unread ++ (together before ++ (last ++ more))) → together before ++ (last ++ more) ≡ together others ++ (end ++ rest) → IsStoppedAt now l before last fault left a → IsStoppedAt now l others end other behind b → fault ≢ faults.Memory → other ≢ faults.Memory → left ++ more ≡ behind ++ rest
same_place now l a b before others last end more rest left behind fault other is_open good cut one again p q =
    let first = stands_whole now before l a last more left fault is_open good one p in
    let bytes : IsBytes (l.intake.unread ++ (together others ++ (end ++ rest))) = subst (λ (x : List ℕ). IsBytes (l.intake.unread ++ x)) cut good in
    let second : StandsAt now (with_piece l (together before ++ (last ++ more))) other (behind ++ rest) b =
    subst (λ (x : List ℕ). StandsAt now (with_piece l x) other (behind ++ rest) b) (sym cut) (stands_whole now others l b end rest behind other is_open bytes again q) in
    one_place now (with_piece l (together before ++ (last ++ more))) a b (left ++ more) (behind ++ rest) fault other first second p q
