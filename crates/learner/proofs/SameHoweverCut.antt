-- The same is learned however a stream is cut into pieces.
use Rattle.std.proofs.Common.{◌≡◌, ℕ, ◌+◌, false, List, [], ◌∷◌, ◌++◌, length, length-append, None, Ok, sym, ap, subst, ◌∙◌, append_assoc, arith}
use Rattle.std.proofs.lemmas.List.{append-nil}
use Rattle.peers_msg.specs.Integers.{IsBytes}
use Rattle.table_types.specs.declared.update.Update.{Update}
use Rattle.peers_msg.specs.declared.message.Message.{Message}
use Rattle.peers_msg.specs.Decoding.{together}
use Rattle.known_state.specs.State.{State}
use Rattle.peers_msg.proofs.CuttingIndependence.{found, found_is, read_on, rest_good, front_good}
use Rattle.known_state.proofs.StepIsDeterministic.{one_step}
use Rattle.learner.specs.LocalTables.{local_updates}
use Rattle.learner.specs.Intake.{Taking, Takes, due_after, fed}
use Rattle.learner.specs.Rows.{put_all}
use Rattle.learner.specs.Learning.{Learning, Learns, AreLearned, IsWaiting, LearnerFeeds, AreFed, with_piece}

-- a message that is taken is taken with more bytes after it
pub takes_on : (t e : Taking) (m : Message) (own : List Update) (more : List ℕ) → IsBytes t.unread → Takes t m own e → Takes (fed t more) m own (fed e more)
takes_on t e m own more good (is_open, rest, at, us, step, keeps, is) =
    (is_open, rest ++ more, read_on t.state.received m t.unread rest more good at, us, step, keeps, ap (λ (x : Taking). fed x more) is)

pub learns_on : (now : ℕ) (l e : Learning) (m : Message) (us : List Update) (more : List ℕ) → IsBytes l.intake.unread → Learns now l m us e → Learns now (with_piece l more) m us (with_piece e more)
learns_on now l e m us more good (takes, rows) = (takes_on l.intake e.intake m us more good takes, rows)

-- what is left after a message is bytes
pub left_good : (t e : Taking) (m : Message) (own : List Update) → IsBytes t.unread → Takes t m own e → IsBytes e.unread
left_good t e m own good (is_open, rest, at, us, step, keeps, is) =
    subst IsBytes (sym (ap (λ (x : Taking). x.unread) is)) (rest_good t.state.received m t.unread rest good at)

-- messages that are learned, and messages that are learned from what those leave with more bytes after it
pub joined : (now : ℕ) (l mid e : Learning) (more : List ℕ) (ms ns : List Message) (us vs : List Update) → IsBytes l.intake.unread → AreLearned now l ms us mid → AreLearned now (with_piece mid more) ns vs e → AreLearned now (with_piece l more) (ms ++ ns) (us ++ vs) e
joined now l mid e more [] ns us vs good (none, here) later =
    rw none (subst (λ (x : Learning). AreLearned now (with_piece x more) ns vs e) here later)
joined now l mid e more (m ∷ ms) ns us vs good (first, rest, next, all, begins, goes) later =
    let grouped : us ++ vs ≡ first ++ (rest ++ vs) = rw all (simp append_assoc) in
    (first, rest ++ vs, with_piece next more, grouped, learns_on now l next m first more good begins, joined now next mid e more ms ns rest vs (left_good l.intake next.intake m first good begins.0) goes later)

-- one piece and then another is the same as both together
pub two : (now : ℕ) (l mid e : Learning) (a b : List ℕ) (one other : ℕ) → IsBytes (l.intake.unread ++ (a ++ b)) → LearnerFeeds now l a (Ok one) mid → LearnerFeeds now mid b (Ok other) e → LearnerFeeds now l (a ++ b) (Ok (one + other)) e
two now l mid e a b one other good (is_open, (ms, us, learned, waits, count)) (later_is, (ns, vs, later, later_waits, later_count)) =
    let grouped : (l.intake.unread ++ a) ++ b ≡ l.intake.unread ++ (a ++ b) = simp append_assoc in
    let front : IsBytes (l.intake.unread ++ a) = front_good (l.intake.unread ++ a) b (subst IsBytes (sym grouped) good) in
    let all : AreLearned now (with_piece (with_piece l a) b) (ms ++ ns) (us ++ vs) e = joined now (with_piece l a) mid e b ms ns us vs front learned later in
    let whole : AreLearned now (with_piece l (a ++ b)) (ms ++ ns) (us ++ vs) e = subst (λ (bytes : List ℕ). AreLearned now (record { intake = record l.intake { unread = bytes }; rows = l.rows }) (ms ++ ns) (us ++ vs) e) grouped all in
    let sum : one + other ≡ length (us ++ vs) = omega (arith, length-append us vs) in
    (is_open, (ms ++ ns, us ++ vs, whole, later_waits, sum))

-- ---- only one outcome

pub one_taking : (t a b : Taking) (m : Message) (own kin : List Update) → Takes t m own a → Takes t m kin b → (own ≡ kin) × (a ≡ b)
one_taking t a b m own kin (is_open, rest, at, us, step, keeps, is) (is_open', rest', at', us', step', keeps', is') =
    let read = found_is m m rest rest' (sym at ∙ at') in
    let steps = one_step t.state a.state b.state m us us' step step' in
    let left : record { roster = t.roster; state = a.state; due = due_after t.state m t.due; unread = rest; closed = false } ≡ record { roster = t.roster; state = b.state; due = due_after t.state m t.due; unread = rest'; closed = false } =
    ap (λ (s : State). record { roster = t.roster; state = s; due = due_after t.state m t.due; unread = rest; closed = false }) steps.1
    ∙ ap (λ (bytes : List ℕ). record { roster = t.roster; state = b.state; due = due_after t.state m t.due; unread = bytes; closed = false }) read.1 in
    (keeps ∙ ap (λ (carried : List Update). local_updates t.roster t.state.received carried) steps.0 ∙ sym keeps', is ∙ left ∙ sym is')

pub one_message : (t a b : Taking) (m n : Message) (own kin : List Update) → Takes t m own a → Takes t n kin b → m ≡ n
one_message t a b m n own kin one other = (found_is m n one.1 other.1 (sym one.2 ∙ other.2)).0

pub one_learned : (now : ℕ) (l a b : Learning) (m n : Message) (us vs : List Update) → Learns now l m us a → Learns now l n vs b → (us ≡ vs) × (a ≡ b)
one_learned now l a b m n us vs one other =
    let same : m ≡ n = one_message l.intake a.intake b.intake m n us vs one.0 other.0 in
    let again : Takes l.intake m vs b.intake = subst (λ (k : Message). Takes l.intake k vs b.intake) (sym same) other.0 in
    let takes = one_taking l.intake a.intake b.intake m us vs one.0 again in
    let rows : a.rows ≡ b.rows = one.1 ∙ ap (λ (put : List Update). put_all now l.intake.roster put l.rows) takes.0 ∙ sym other.1 in
    (takes.0, one_learning a b takes.1 rows)
  where
    one_learning : (a b : Learning) → a.intake ≡ b.intake → a.rows ≡ b.rows → a ≡ b
    one_learning a b intakes rows = ap (λ (t : Taking). record { intake = t; rows = a.rows }) intakes ∙ ap (λ r. record { intake = b.intake; rows = r }) rows

pub waits_for_more : (now : ℕ) (l e : Learning) (m : Message) (us : List Update) → IsWaiting l.intake → Learns now l m us e → ⊥
waits_for_more now l e m us waits learns =
    let none : Ok None ≡ found m learns.0.1 = sym waits.1 ∙ learns.0.2 in
    absurd cc

-- from one state, learning until no message is whole has only one outcome
pub same : (now : ℕ) (l a b : Learning) (ms ns : List Message) (us vs : List Update) → AreLearned now l ms us a → AreLearned now l ns vs b → IsWaiting a.intake → IsWaiting b.intake → (us ≡ vs) × (a ≡ b)
same now l a b [] [] us vs one other p q = (one.0 ∙ sym other.0, one.1 ∙ sym other.1)
same now l a b [] (n ∷ ns) us vs one (first, rest, next, all, begins, later) p q =
    absurd (waits_for_more now l next n first (subst (λ (x : Learning). IsWaiting x.intake) one.1 p) begins)
same now l a b (m ∷ ms) [] us vs (first, rest, next, all, begins, later) other p q =
    absurd (waits_for_more now l next m first (subst (λ (x : Learning). IsWaiting x.intake) other.1 q) begins)
same now l a b (m ∷ ms) (n ∷ ns) us vs (first, rest, next, all, begins, later) (first', rest', next', all', begins', later') p q =
    let step = one_learned now l next next' m n first first' begins begins' in
    let goes : AreLearned now next ns rest' b = subst (λ (x : Learning). AreLearned now x ns rest' b) (sym step.1) later' in
    let others = same now next a b ms ns rest rest' later goes p q in
    (all ∙ ap (λ (xs : List Update). xs ++ rest) step.0 ∙ ap (λ (xs : List Update). first' ++ xs) others.0 ∙ sym all', others.1)

pub same_fed : (now : ℕ) (l a b : Learning) (piece : List ℕ) (one other : ℕ) → LearnerFeeds now l piece (Ok one) a → LearnerFeeds now l piece (Ok other) b → (one ≡ other) × (a ≡ b)
same_fed now l a b piece one other (is_open, (ms, us, learned, waits, count)) (is_open', (ns, vs, learned', waits', count')) =
    let both = same now (with_piece l piece) a b ms ns us vs learned learned' waits waits' in
    (count ∙ ap (λ (xs : List Update). length xs) both.0 ∙ sym count', both.1)

-- ---- many pieces

-- pieces fed one after another are the same as all together
pub whole : (now : ℕ) (pieces : List (List ℕ)) (l e : Learning) (a : List ℕ) (count : ℕ) → IsBytes (l.intake.unread ++ together (a ∷ pieces)) → AreFed now l (a ∷ pieces) count e → LearnerFeeds now l (together (a ∷ pieces)) (Ok count) e
whole now [] l e a count good (one, rest, mid, sum, first, (none, here)) =
    let nothing : count ≡ one = omega arith in
    let all : LearnerFeeds now l a (Ok count) e = subst (λ (n : ℕ). LearnerFeeds now l a (Ok n) e) (sym nothing) (subst (λ (x : Learning). LearnerFeeds now l a (Ok one) x) (sym here) first) in
    subst (λ (bytes : List ℕ). LearnerFeeds now l bytes (Ok count) e) (sym (append-nil a)) all
whole now (b ∷ pieces) l e a count good (one, rest, mid, sum, first, later) =
    let bytes : IsBytes (mid.intake.unread ++ together (b ∷ pieces)) = fed_good now l mid a (together (b ∷ pieces)) one good first in
    let others : LearnerFeeds now mid (together (b ∷ pieces)) (Ok rest) e = whole now pieces mid e b rest bytes later in
    let all = two now l mid e a (together (b ∷ pieces)) one rest good first others in
    subst (λ (n : ℕ). LearnerFeeds now l (together (a ∷ (b ∷ pieces))) (Ok n) e) (sym sum) all
  where
    learned_good : (now : ℕ) (l e : Learning) (ms : List Message) (us : List Update) (more : List ℕ) → IsBytes (l.intake.unread ++ more) → AreLearned now l ms us e → IsBytes (e.intake.unread ++ more)
    learned_good now l e [] us more good (none, here) = subst (λ (x : Learning). IsBytes (x.intake.unread ++ more)) (sym here) good
    learned_good now l e (m ∷ ms) us more good (first, rest, next, all, begins, goes) =
        let front : IsBytes l.intake.unread = front_good l.intake.unread more good in
        learned_good now next e ms rest more (left_good (fed l.intake more) (fed next.intake more) m first good (takes_on l.intake next.intake m first more front begins.0)) goes

    fed_good : (now : ℕ) (l e : Learning) (a more : List ℕ) (count : ℕ) → IsBytes (l.intake.unread ++ (a ++ more)) → LearnerFeeds now l a (Ok count) e → IsBytes (e.intake.unread ++ more)
    fed_good now l e a more count good (is_open, (ms, us, learned, waits, is)) =
        let grouped : (l.intake.unread ++ a) ++ more ≡ l.intake.unread ++ (a ++ more) = simp append_assoc in
        learned_good now (with_piece l a) e ms us more (subst IsBytes (sym grouped) good) learned
