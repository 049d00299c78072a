-- Learning bytes in place gives the same as learning them from the unread bytes.
use Rattle.std.proofs.Common.{◌≡◌, ℕ, ◌+◌, false, List, [], ◌∷◌, ◌++◌, length, length-append, drop, Some, Ok, Err, refl, sym, ap, subst, ◌∙◌, arith}
use Rattle.std.proofs.lemmas.List.{drop-drop}
use Rattle.table_types.specs.declared.key.Key.{Key}
use Rattle.table_types.specs.Rows.{StoredRow}
use Rattle.table_types.specs.declared.update.Update.{Update}
use Rattle.peers_msg.specs.declared.message.Message.{Message}
use Rattle.learner.specs.declared.fault.Fault.{Fault}
use Rattle.learner.specs.declared.fault.Fault.TheVariants as faults
use Rattle.learner.specs.declared.learned.Learned.{Learned}
use Rattle.learner.specs.Front.{stopped}
use Rattle.learner.specs.Intake.{Taking, IsTakable, Stops, shut, with_unread}
use Rattle.learner.specs.Learning.{Learning, AreLearned, LearnsAll, LearnerFeeds, IsCutOff, shut_off, with_piece}
use Rattle.learner.specs.InPlace.{FindsFront, LearnsFront, LearnsWhole, LearnsPiece, over}
use Rattle.learner.proofs.LearningGoesOn.{learned_more, stays_open}
use Rattle.learner.proofs.LegalStreamIsTaught.{apart}

-- ---- the message at the front

-- memory runs out for a whole message
pub front_runs_out : (now : ℕ) (l : Learning) (bytes : List ℕ) → l.intake.closed ≡ false → IsTakable (with_unread l.intake bytes) → FindsFront now l bytes (Err faults.Memory) l
front_runs_out now l bytes is_open takable = ((is_open, takable, refl), refl)

-- a fault at the front, which closes the learner
pub front_stops : (now : ℕ) (l x e : Learning) (bytes : List ℕ) (fault : Fault) → FindsFront now l bytes (Err fault) x → e ≡ shut_off x → LearnsFront now l bytes (Err fault) e
front_stops now l x e bytes fault (stops, same) is =
    let left : Learning = record { intake = stopped (with_unread l.intake bytes) fault; rows = l.rows } in
    (left, (stops, refl), is ∙ ap shut_off same ∙ ends fault)
  where
    ends : (f : Fault) → shut_off l ≡ shut_off (record { intake = stopped (with_unread l.intake bytes) f; rows = l.rows })
    ends faults.Memory = refl
    ends faults.Closed = refl
    ends faults.NoNumber = refl
    ends faults.EmptySlot = refl
    ends (faults.Breach breach) = refl

-- ---- all whole messages

-- one more message
pub whole_more : (now : ℕ) (l mid e : Learning) (bytes rest : List ℕ) (used : ℕ) (progress : Learned) (ms : List Message) (us : List Update) → AreLearned now (over l bytes) ms us (over mid (drop used bytes)) → rest ≡ drop used bytes → LearnsFront now mid rest (Ok (Some progress)) e
    → (ns : List Message) × (vs : List Update) × AreLearned now (over l bytes) ns vs (over e (drop (used + progress.used) bytes)) × (length us + progress.rows ≡ length vs)
whole_more now l mid e bytes rest used progress ms us learned is front = by (subst (λ (x : List ℕ). LearnsFront now mid x (Ok (Some progress)) e) is front)
  where
    by : LearnsFront now mid (drop used bytes) (Ok (Some progress)) e → (ns : List Message) × (vs : List Update) × AreLearned now (over l bytes) ns vs (over e (drop (used + progress.used) bytes)) × (length us + progress.rows ≡ length vs)
    by (m, one, learns, counted) =
        let more = learned_more now (over l bytes) (over mid (drop used bytes)) (over e (drop progress.used (drop used bytes))) ms us one m learned learns in
        let rest : AreLearned now (over l bytes) (ms ++ (m ∷ [])) (us ++ one) (over e (drop (used + progress.used) bytes)) =
        subst (λ (left : List ℕ). AreLearned now (over l bytes) (ms ++ (m ∷ [])) (us ++ one) (over e left)) (drop-drop progress.used used bytes) more in
        (ms ++ (m ∷ []), us ++ one, rest, omega (arith, length-append us one, counted))

pub whole_stops : (now : ℕ) (l mid e : Learning) (bytes rest : List ℕ) (used : ℕ) (ms : List Message) (us : List Update) (fault : Fault) → AreLearned now (over l bytes) ms us (over mid (drop used bytes)) → rest ≡ drop used bytes → LearnsFront now mid rest (Err fault) e → LearnsWhole now l bytes (Err fault) e
whole_stops now l mid e bytes rest used ms us fault learned is front = by (subst (λ (x : List ℕ). LearnsFront now mid x (Err fault) e) is front)
  where
    by : LearnsFront now mid (drop used bytes) (Err fault) e → LearnsWhole now l bytes (Err fault) e
    by (left, stops, ends) = (left, (ms, us, over mid (drop used bytes), learned, stops.0, stops.1), ends)

-- ---- a piece that is read in place

-- if nothing is unread
at_once : (l : Learning) (piece : List ℕ) → l.intake.unread ≡ [] → over l piece ≡ with_piece l piece
at_once l piece none = ap (λ (bytes : List ℕ). over l (bytes ++ piece)) (sym none)

pub piece_learned : (now : ℕ) (l e : Learning) (piece rest : List ℕ) (count : ℕ) → l.intake.unread ≡ [] → LearnsAll now (over l piece) (Ok count) (over e rest) → LearnsAll now (with_piece l piece) (Ok count) (over e rest)
piece_learned now l e piece rest count none all = subst (λ (x : Learning). LearnsAll now x (Ok count) (over e rest)) (at_once l piece none) all

pub piece_stops : (now : ℕ) (l e x : Learning) (piece : List ℕ) (fault : Fault) → l.intake.unread ≡ [] → LearnsWhole now l piece (Err fault) e → over x [] ≡ e → LearnsPiece now l piece (Err fault) x
piece_stops now l e x piece fault none (left, all, ends) is =
    (left, subst (λ (y : Learning). LearnsAll now y (Err fault) left) (at_once l piece none) all, is ∙ ends)

-- ---- closing

-- a fault closes the learner that it stopped
pub feeds_fault : (now : ℕ) (l x e : Learning) (piece : List ℕ) (fault : Fault) → l.intake.closed ≡ false → LearnsPiece now l piece (Err fault) x → e ≡ over x [] → LearnerFeeds now l piece (Err fault) e
feeds_fault now l x e piece fault is_open (left, all, ends) is = by fault all
  where
    same : e ≡ shut_off left
    same = is ∙ ends

    closes : (mid : Taking) → left.intake ≡ shut mid → e.intake ≡ shut mid
    closes mid stops = ap (λ (y : Learning). y.intake) same ∙ ap (λ (t : Taking). shut t) stops

    kept : e.rows ≡ left.rows
    kept = ap (λ (y : Learning). y.rows) same

    by : (f : Fault) → LearnsAll now (with_piece l piece) (Err f) left → LearnerFeeds now l piece (Err f) e
    by faults.Memory all = (is_open, left, all, same)
    by faults.Closed (ms, us, mid, learned, stops, rows) = absurd (apart (sym stops.0 ∙ stays_open now (with_piece l piece) mid ms us is_open learned))
    by faults.NoNumber (ms, us, mid, learned, (going, m, rest, at, refused, ends), rows) =
        (is_open, (ms, us, mid, learned, (going, m, rest, at, refused, closes mid.intake ends), kept ∙ rows))
    by faults.EmptySlot (ms, us, mid, learned, (going, m, rest, at, refused, ends), rows) =
        (is_open, (ms, us, mid, learned, (going, m, rest, at, refused, closes mid.intake ends), kept ∙ rows))
    by (faults.Breach breach) (ms, us, mid, learned, (going, at, ends), rows) =
        (is_open, (ms, us, mid, learned, (going, at, closes mid.intake ends), kept ∙ rows))

-- and leaves what the whole messages before it made of the learner
stops_shut : (t e : Taking) (fault : Fault) → Stops t fault e → shut e ≡ shut t
stops_shut t e faults.Memory (is_open, takable, is) = ap shut is
stops_shut t e faults.Closed (closed, is) = ap shut is
stops_shut t e (faults.Breach breach) (is_open, at, is) = ap shut is
stops_shut t e faults.NoNumber (is_open, m, rest, at, refused, is) = ap shut is
stops_shut t e faults.EmptySlot (is_open, m, rest, at, refused, is) = ap shut is

pub cut_off : (now : ℕ) (l x e : Learning) (piece : List ℕ) (fault : Fault) → LearnsPiece now l piece (Err fault) x → e ≡ over x [] → IsCutOff now l piece e
cut_off now l x e piece fault (left, (ms, us, mid, learned, stops, rows), ends) is = (
  ms,
  us,
  mid,
  learned,
  is
      ∙ ends
      ∙ ap (λ (t : Taking). record { intake = t; rows = left.rows }) (stops_shut mid.intake left.intake fault stops)
      ∙ ap (λ (r : List (List (Key × StoredRow))). record { intake = shut mid.intake; rows = r }) rows,
)
