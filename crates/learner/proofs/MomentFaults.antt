-- At whatever moments the pieces of a stream arrive, the same fault occurs at the same place.
use Rattle.std.proofs.Common.{◌≡◌, ◌≢◌, ℕ, false, List, [], ◌∷◌, ◌++◌, refl, sym, ap, subst, ◌∙◌, append_assoc}
use Rattle.peers_msg.specs.Integers.{IsBytes}
use Rattle.table_types.specs.declared.update.Update.{Update}
use Rattle.peers_msg.specs.declared.message.Message.{Message}
use Rattle.peers_msg.proofs.CuttingIndependence.{front_good}
use Rattle.learner.specs.declared.fault.Fault.{Fault}
use Rattle.learner.specs.declared.fault.Fault.TheVariants as faults
use Rattle.learner.specs.Intake.{Taking, Takes, Stops, fed}
use Rattle.learner.specs.Learning.{Learning, AreLearned, with_piece}
use Rattle.learner.specs.Moments.{Piece, stream_in, AreFedInTime, IsStoppedInTime, IsStoppedAtInTime}
use Rattle.learner.proofs.LearningGoesOn.{stays_open}
use Rattle.learner.proofs.LegalStreamIsTaught.{goes_on}
use Rattle.learner.proofs.SameHoweverCut.{takes_on, left_good, one_message, one_taking}
use Rattle.learner.proofs.OneOutcome.{stops_once}
use Rattle.learner.proofs.SameFaultHoweverCut.{stops_on, is_run}
use Rattle.learner.proofs.SameInAnyOrderOfCalls.{regrouped}

-- messages are taken one after another
abbrev TakesAll : Taking → List Message → Taking → Type 0
TakesAll t [] e = e ≡ t
TakesAll t (m ∷ ms) e = (local : List Update) × (mid : Taking) × Takes t m local mid × TakesAll mid ms e

-- messages that are learned are taken
learned_takes : (now : ℕ) (l e : Learning) (ms : List Message) (us : List Update) → AreLearned now l ms us e → TakesAll l.intake ms e.intake
learned_takes now l e [] us (none, here) = ap (λ (x : Learning). x.intake) here
learned_takes now l e (m ∷ ms) us (first, rest, mid, all, learns, later) = (first, mid.intake, learns.0, learned_takes now mid e ms rest later)

-- also with more bytes after them
all_on : (t e : Taking) (ms : List Message) (more : List ℕ) → IsBytes t.unread → TakesAll t ms e → TakesAll (fed t more) ms (fed e more)
all_on t e [] more good here = ap (λ (x : Taking). fed x more) here
all_on t e (m ∷ ms) more good (local, mid, takes, later) =
    (local, fed mid more, takes_on t mid m local more good takes, all_on mid e ms more (left_good t mid m local good takes) later)

all_joined : (t mid e : Taking) (ms ns : List Message) → TakesAll t ms mid → TakesAll mid ns e → TakesAll t (ms ++ ns) e
all_joined t mid e [] ns here later = subst (λ (x : Taking). TakesAll x ns e) here later
all_joined t mid e (m ∷ ms) ns (local, next, takes, goes) later = (local, next, takes, all_joined next mid e ms ns goes later)

all_good : (t e : Taking) (ms : List Message) → IsBytes t.unread → TakesAll t ms e → IsBytes e.unread
all_good t e [] good here = subst (λ (x : Taking). IsBytes x.unread) (sym here) good
all_good t e (m ∷ ms) good (local, mid, takes, later) = all_good mid e ms (left_good t mid m local good takes) later

-- what is fed at some moments is taken from all the bytes
fed_takes : (pieces : List Piece) (l e : Learning) (counts more : List ℕ) → IsBytes (l.intake.unread ++ (stream_in pieces ++ more)) → AreFedInTime l pieces counts e
    → (ms : List Message) × TakesAll (fed l.intake (stream_in pieces ++ more)) ms (fed e.intake more) × IsBytes (e.intake.unread ++ more)
fed_takes [] l e counts more good (none, here) =
    ([], ap (λ (x : Learning). fed x.intake more) here, subst (λ (x : Learning). IsBytes (x.intake.unread ++ more)) (sym here) good)
fed_takes (p ∷ ps) l e counts more good (one, rest, mid, all, (is_open, (ms, us, learned, waits, count)), later) =
    let tail : List ℕ = stream_in ps ++ more in
    let grouped : l.intake.unread ++ ((p.bytes ++ stream_in ps) ++ more) ≡ (l.intake.unread ++ p.bytes) ++ (stream_in ps ++ more) = simp append_assoc in
    let good_all : IsBytes ((l.intake.unread ++ p.bytes) ++ tail) = subst IsBytes grouped good in
    let first : TakesAll (fed l.intake p.bytes) ms mid.intake = learned_takes p.moment (with_piece l p.bytes) mid ms us learned in
    let on : TakesAll (fed (fed l.intake p.bytes) tail) ms (fed mid.intake tail) = all_on (fed l.intake p.bytes) mid.intake ms tail (front_good (l.intake.unread ++ p.bytes) tail good_all) first in
    let left : IsBytes (mid.intake.unread ++ tail) = all_good (fed (fed l.intake p.bytes) tail) (fed mid.intake tail) ms good_all on in
    let others = fed_takes ps mid e rest more left later in
    let both : TakesAll (fed (fed l.intake p.bytes) tail) (ms ++ others.0) (fed e.intake more) = all_joined (fed (fed l.intake p.bytes) tail) (fed mid.intake tail) (fed e.intake more) ms others.0 on others.1 in
    (ms ++ others.0, subst (λ (x : Taking). TakesAll x (ms ++ others.0) (fed e.intake more)) (regrouped l.intake p.bytes (stream_in ps) more) both, others.2)

fed_open : (pieces : List Piece) (l e : Learning) (counts : List ℕ) → l.intake.closed ≡ false → AreFedInTime l pieces counts e → e.intake.closed ≡ false
fed_open [] l e counts is_open (none, here) = ap (λ (x : Learning). x.intake.closed) here ∙ is_open
fed_open (p ∷ ps) l e counts is_open (one, rest, mid, all, (going, (ms, us, learned, waits, count)), later) = fed_open ps mid e rest waits.0 later

-- a fault that stops pieces is at some place
stands_somewhere : (l e : Learning) (before : List Piece) (last : Piece) (fault : Fault) → l.intake.closed ≡ false → IsStoppedInTime l before last fault e → fault ≢ faults.Memory → (left : List ℕ) × IsStoppedAtInTime l before last fault left e
stands_somewhere l e before last fault is_open (counts, mid, goes, stops) wanted =
    let run = is_run last.moment mid e last.bytes fault (fed_open before l mid counts is_open goes) stops wanted in
    (run.2.intake.unread, (counts, mid, goes, stops, (run.0, run.1, run.2, run.3, run.4, refl)))

-- what a fault finally stops is taken from all the bytes too: what is left there, and then what is still to come, is
-- unread
stopped_takes : (l e : Learning) (before : List Piece) (last : Piece) (fault : Fault) (more left : List ℕ) → l.intake.closed ≡ false → IsBytes (l.intake.unread ++ (stream_in before ++ (last.bytes ++ more))) → IsStoppedAtInTime l before last fault left e → fault ≢ faults.Memory
    → (ms : List Message) × (x : Taking) × TakesAll (fed l.intake (stream_in before ++ (last.bytes ++ more))) ms x × Stops x fault e.intake × (left ++ more ≡ x.unread)
stopped_takes l e before last fault more left is_open good (counts, mid, goes, feeds, (ns, us, end, learned, stops, is)) wanted =
    let all = fed_takes before l mid counts (last.bytes ++ more) good goes in
    let grouped : mid.intake.unread ++ (last.bytes ++ more) ≡ (mid.intake.unread ++ last.bytes) ++ more = simp append_assoc in
    let good_all : IsBytes ((mid.intake.unread ++ last.bytes) ++ more) = subst IsBytes grouped all.2 in
    let front : IsBytes (mid.intake.unread ++ last.bytes) = front_good (mid.intake.unread ++ last.bytes) more good_all in
    let first : TakesAll (fed mid.intake last.bytes) ns end.intake = learned_takes last.moment (with_piece mid last.bytes) end ns us learned in
    let on : TakesAll (fed (fed mid.intake last.bytes) more) ns (fed end.intake more) = all_on (fed mid.intake last.bytes) end.intake ns more front first in
    let here : TakesAll (fed mid.intake (last.bytes ++ more)) ns (fed end.intake more) = subst (λ (bytes : List ℕ). TakesAll (record mid.intake { unread = bytes }) ns (fed end.intake more)) (sym grouped) on in (
      all.0 ++ ns,
      fed end.intake more,
      all_joined (fed l.intake (stream_in before ++ (last.bytes ++ more))) (fed mid.intake (last.bytes ++ more)) (fed end.intake more) all.0 ns all.1 here,
      stops_on end.intake e.intake more fault (all_good (fed mid.intake last.bytes) end.intake ns front first) (stays_open last.moment (with_piece mid last.bytes) end ns us (fed_open before l mid counts is_open goes) learned) stops wanted,
      ap (λ (bytes : List ℕ). bytes ++ more) is,
    )

-- from one state, only one list of messages is taken up to a fault
same_end : (t x y a b : Taking) (ms ns : List Message) (fault other : Fault) → TakesAll t ms x → TakesAll t ns y → Stops x fault a → Stops y other b → fault ≢ faults.Memory → other ≢ faults.Memory → (fault ≡ other) × (a ≡ b) × (x ≡ y)
same_end t x y a b [] [] fault other one two stops again p q =
    let both = stops_once t a b fault other (subst (λ (z : Taking). Stops z fault a) one stops) (subst (λ (z : Taking). Stops z other b) two again) p q in
    (both.0, both.1, one ∙ sym two)
same_end t x y a b [] (n ∷ ns) fault other one (local, mid, takes, later) stops again p q =
    absurd (goes_on t mid a n local fault takes (subst (λ (z : Taking). Stops z fault a) one stops) p)
same_end t x y a b (m ∷ ms) [] fault other (local, mid, takes, later) two stops again p q =
    absurd (goes_on t mid b m local other takes (subst (λ (z : Taking). Stops z other b) two again) q)
same_end t x y a b (m ∷ ms) (n ∷ ns) fault other (local, mid, takes, later) (kin, next, takes', later') stops again p q =
    let same : m ≡ n = one_message t mid next m n local kin takes takes' in
    let too : Takes t m kin next = subst (λ (k : Message). Takes t k kin next) (sym same) takes' in
    let step : mid ≡ next = (one_taking t mid next m local kin takes too).1 in
    same_end mid x y a b ms ns fault other later (subst (λ (z : Taking). TakesAll z ns y) (sym step) later') stops again p q

-- if one stream arrives in two ways and each ends at a fault, the same messages were taken up to it
same_stop : (l a b : Learning) (before others : List Piece) (last end : Piece) (more rest left behind : List ℕ) (fault other : Fault) → l.intake.closed ≡ false → IsBytes (l.intake.unread ++ (stream_in before ++ (last.bytes ++ more))) → stream_in before ++ (last.bytes ++ more) ≡ stream_in others ++ (end.bytes ++ rest)
    → IsStoppedAtInTime l before last fault left a → IsStoppedAtInTime l others end other behind b → fault ≢ faults.Memory → other ≢ faults.Memory → (fault ≡ other) × (a.intake ≡ b.intake) × (left ++ more ≡ behind ++ rest)
same_stop l a b before others last end more rest left behind fault other is_open good cut stops again p q =
    let good_other : IsBytes (l.intake.unread ++ (stream_in others ++ (end.bytes ++ rest))) = subst (λ (bytes : List ℕ). IsBytes (l.intake.unread ++ bytes)) cut good in
    let one = stopped_takes l a before last fault more left is_open good stops p in
    let two = stopped_takes l b others end other rest behind is_open good_other again q in
    let too : TakesAll (fed l.intake (stream_in before ++ (last.bytes ++ more))) two.0 two.1 = subst (λ (bytes : List ℕ). TakesAll (fed l.intake bytes) two.0 two.1) (sym cut) two.2 in
    let all = same_end (fed l.intake (stream_in before ++ (last.bytes ++ more))) one.1 two.1 a.intake b.intake one.0 two.0 fault other one.2 too one.3 two.3 p q in
    (all.0, all.1, one.4 ∙ ap (λ (x : Taking). x.unread) all.2 ∙ sym two.4)

-- it is the same fault, with the same state
pub same_fault_in_time : (l a b : Learning) (before others : List Piece) (last end : Piece) (more rest : List ℕ) (fault other : Fault) → l.intake.closed ≡ false → IsBytes (l.intake.unread ++ (stream_in before ++ (last.bytes ++ more))) → stream_in before ++ (last.bytes ++ more) ≡ stream_in others ++ (end.bytes ++ rest)
    → IsStoppedInTime l before last fault a → IsStoppedInTime l others end other b → fault ≢ faults.Memory → other ≢ faults.Memory → (fault ≡ other) × (a.intake ≡ b.intake)
same_fault_in_time l a b before others last end more rest fault other is_open good cut stops again p q =
    let one = stands_somewhere l a before last fault is_open stops p in
    let two = stands_somewhere l b others end other is_open again q in
    let all = same_stop l a b before others last end more rest one.0 two.0 fault other is_open good cut one.1 two.1 p q in
    (all.0, all.1)

-- and the faulty message is at the same place
pub same_place_in_time : (l a b : Learning) (before others : List Piece) (last end : Piece) (more rest left behind : List ℕ) (fault other : Fault) → l.intake.closed ≡ false → IsBytes (l.intake.unread ++ (stream_in before ++ (last.bytes ++ more))) → stream_in before ++ (last.bytes ++ more) ≡ stream_in others ++ (end.bytes ++ rest)
    → IsStoppedAtInTime l before last fault left a → IsStoppedAtInTime l others end other behind b → fault ≢ faults.Memory → other ≢ faults.Memory → left ++ more ≡ behind ++ rest
same_place_in_time l a b before others last end more rest left behind fault other is_open good cut stops again p q =
    (same_stop l a b before others last end more rest left behind fault other is_open good cut stops again p q).2
