-- Joining the first bytes of a piece to an unfinished message gives the same as joining all of them.
use Rattle.std.proofs.Common.{◌≡◌, ℕ, zero, suc, ◌+◌, ◌-◌, ◌<◌, ◌≤◌, false, List, [], ◌∷◌, ◌++◌, length, length-append, take, drop, Some, None, Result, Ok, Err, refl, sym, ap, subst, ◌∙◌, arith, append_assoc}
use Rattle.std.proofs.lemmas.List.{append-nil, take-append-drop, drop-append-le}
use Rattle.peers_msg.specs.Integers.{IsBytes}
use Rattle.table_types.specs.declared.update.Update.{Update}
use Rattle.peers_msg.specs.declared.message.Message.{Message}
use Rattle.peers_msg.specs.Reading.{message_at}
use Rattle.peers_msg.proofs.CuttingIndependence.{front_good, read_on}
use Rattle.learner.specs.declared.fault.Fault.{Fault}
use Rattle.learner.specs.declared.fault.Fault.TheVariants as faults
use Rattle.learner.specs.declared.learned.Learned.{Learned}
use Rattle.learner.specs.Intake.{Taking, Stops, fed, shut, with_unread}
use Rattle.learner.specs.Learning.{Learning, AreLearned, IsWaiting, Learns, LearnsOne, LearnsAll, LearnerFeeds, shut_off, with_piece}
use Rattle.learner.specs.InPlace.{LearnsFront, over}
use Rattle.learner.proofs.LegalStreamIsTaught.{apart, waits_on}
use Rattle.learner.proofs.SameHoweverCut.{learns_on, waits_for_more}
use Rattle.learner.proofs.SameFaultHoweverCut.{stops_on}
use Rattle.learner.proofs.RoomForMessages.{ends_beyond}

-- ---- the bytes

grouped : (unread piece bytes : List ℕ) (n : ℕ) → bytes ≡ unread ++ take n piece → bytes ++ drop n piece ≡ unread ++ piece
grouped unread piece bytes n is =
    let joined : (unread ++ take n piece) ++ drop n piece ≡ unread ++ (take n piece ++ drop n piece) = simp append_assoc in
    ap (λ (b : List ℕ). b ++ drop n piece) is ∙ joined ∙ ap (λ (b : List ℕ). unread ++ b) (take-append-drop n piece)

drop_beyond : (a b : List ℕ) (n : ℕ) → length a ≤ n → drop n (a ++ b) ≡ drop (n - length a) b
drop_beyond [] b n le =
    let same : n ≡ n - length {A = ℕ} [] = omega arith in
    ap (λ (k : ℕ). drop k b) same
drop_beyond (x ∷ a) b zero le = absurd (omega arith)
drop_beyond (x ∷ a) b (suc n) le =
    let same : n - length a ≡ suc n - length (x ∷ a) = omega arith in
    drop_beyond a b n (omega arith) ∙ ap (λ (k : ℕ). drop k b) same

pub bytes_good : (unread piece bytes : List ℕ) (n : ℕ) → bytes ≡ unread ++ take n piece → IsBytes (unread ++ piece) → IsBytes bytes
bytes_good unread piece bytes n is good = front_good bytes (drop n piece) (subst IsBytes (sym (grouped unread piece bytes n is)) good)

-- ---- an unfinished message is still unfinished

pub joined_waits : (now : ℕ) (l e : Learning) (unread piece bytes : List ℕ) → bytes ≡ unread ++ piece → LearnsFront now l bytes (Ok None) e → LearnsAll now (over l (unread ++ piece)) (Ok 0) (over e bytes)
joined_waits now l e unread piece bytes is (waits, same) =
    ([], [], (refl, ap (λ (x : Learning). over x bytes) same ∙ ap (over l) is), subst (λ (x : Learning). IsWaiting (with_unread x.intake bytes)) (sym same) waits, refl)

-- what is unread once everything is learned is an unfinished message
pub all_wait : (now : ℕ) (l e : Learning) (count : ℕ) → LearnsAll now l (Ok count) e → IsWaiting e.intake
all_wait now l e count (ms, us, learned, waits, is) = waits

-- ---- a fault

-- a fault at the front stays with more bytes after it, and leaves the same once it is closed
stops_before : (t e : Taking) (more : List ℕ) (fault : Fault) → IsBytes t.unread → t.closed ≡ false → Stops t fault e → (x : Taking) × Stops (fed t more) fault x × (shut x ≡ shut e)
stops_before t e more faults.Memory good going (is_open, (m, rest, at, unrefused), is) =
    (fed t more, (is_open, (m, rest ++ more, read_on t.state.received m t.unread rest more good at, unrefused), refl), ap shut (sym is))
stops_before t e more faults.Closed good going (shut, is) = absurd (apart (sym shut ∙ going))
stops_before t e more faults.NoNumber good going stops = (e, stops_on t e more faults.NoNumber good going stops (λ same. absurd cc), refl)
stops_before t e more faults.EmptySlot good going stops = (e, stops_on t e more faults.EmptySlot good going stops (λ same. absurd cc), refl)
stops_before t e more (faults.Breach breach) good going stops = (e, stops_on t e more (faults.Breach breach) good going stops (λ same. absurd cc), refl)

pub joined_stops : (now : ℕ) (l e : Learning) (unread piece bytes : List ℕ) (n : ℕ) (fault : Fault) → IsBytes (unread ++ piece) → l.intake.closed ≡ false → bytes ≡ unread ++ take n piece → LearnsFront now l bytes (Err fault) e
    → (left : Learning) × LearnsAll now (over l (unread ++ piece)) (Err fault) left × (e ≡ shut_off left)
joined_stops now l e unread piece bytes n fault good is_open is (x, (stops, rows), ends) =
    let on = stops_before (with_unread l.intake bytes) x.intake (drop n piece) fault (bytes_good unread piece bytes n is good) is_open stops in
    let there : Stops (with_unread l.intake (unread ++ piece)) fault on.0 = subst (λ (b : List ℕ). Stops (with_unread l.intake b) fault on.0) (grouped unread piece bytes n is) on.1 in
    let left : Learning = record { intake = on.0; rows = x.rows } in
    (left, ([], [], over l (unread ++ piece), (refl, refl), there, rows), ends ∙ ap (λ (t : Taking). record { intake = t; rows = x.rows }) (sym on.2))

-- ---- the message that the piece completes

pub joined_learns : (now : ℕ) (l e : Learning) (unread piece bytes : List ℕ) (n : ℕ) (first : Learned) → IsBytes (unread ++ piece) → bytes ≡ unread ++ take n piece → length unread ≤ first.used → first.used ≤ length bytes → LearnsFront now l bytes (Ok (Some first)) e
    → LearnsOne now (over l (unread ++ piece)) (Ok (Some first.rows)) (over e (drop (first.used - length unread) piece))
joined_learns now l e unread piece bytes n first good is beyond within (m, us, learns, counted) =
    let more : List ℕ = drop n piece in
    let all : bytes ++ more ≡ unread ++ piece = grouped unread piece bytes n is in
    let on = learns_on now (over l bytes) (over e (drop first.used bytes)) m us more (bytes_good unread piece bytes n is good) learns in
    let rest : drop first.used bytes ++ more ≡ drop (first.used - length unread) piece =
    sym (drop-append-le first.used bytes more within) ∙ ap (drop first.used) all ∙ drop_beyond unread piece first.used beyond in
    let here : Learns now (over l (unread ++ piece)) m us (over e (drop first.used bytes ++ more)) = subst (λ (b : List ℕ). Learns now (over l b) m us (over e (drop first.used bytes ++ more))) all on in
    (m, us, subst (λ (b : List ℕ). Learns now (over l (unread ++ piece)) m us (over e b)) rest here, counted)

-- it ends beyond the bytes that were unread before
pub joined_beyond : (now : ℕ) (l e : Learning) (unread more bytes : List ℕ) (first : Learned) → IsBytes bytes → bytes ≡ unread ++ more → message_at l.intake.state.received unread ≡ Ok None → first.used ≤ length bytes → LearnsFront now l bytes (Ok (Some first)) e → length unread < first.used
joined_beyond now l e unread more bytes first good is none within (m, us, (takes, rows), counted) =
    let rest : takes.1 ≡ drop first.used bytes = sym (ap (λ (t : Taking). t.unread) takes.6) in
    let found : message_at l.intake.state.received bytes ≡ Ok (Some (m, drop first.used bytes)) = subst (λ (b : List ℕ). message_at l.intake.state.received bytes ≡ Ok (Some (m, b))) rest takes.2 in
    ends_beyond l.intake.state.received m unread more first.used (subst IsBytes is good) none
    (subst (λ (b : List ℕ). message_at l.intake.state.received b ≡ Ok (Some (m, drop first.used b))) is found)
    (subst (λ (b : List ℕ). first.used ≤ length b) is within)

-- and then the other messages of the piece
pub then_learned : (now : ℕ) (l mid e : Learning) (one others : ℕ) → LearnsOne now l (Ok (Some one)) mid → LearnsAll now mid (Ok others) e → LearnsAll now l (Ok (one + others)) e
then_learned now l mid e one others (m, us, learns, counted) (ms, vs, learned, waits, is) =
    (m ∷ ms, us ++ vs, (us, vs, mid, refl, learns, learned), waits, omega (arith, length-append us vs))

pub then_stops : (now : ℕ) (l mid e : Learning) (one : ℕ) (fault : Fault) → LearnsOne now l (Ok (Some one)) mid → LearnsAll now mid (Err fault) e → LearnsAll now l (Err fault) e
then_stops now l mid e one fault (m, us, learns, counted) (ms, vs, end, learned, stops, rows) =
    (m ∷ ms, us ++ vs, end, (us, vs, mid, refl, learns, learned), stops, rows)

-- ---- an empty piece

never_stops : (t x : Taking) (fault : Fault) → IsWaiting t → Stops t fault x → ⊥
never_stops t x faults.Memory waits (is_open, (m, rest, at, unrefused), is) = let never : Ok None ≡ Ok (Some (m, rest)) = sym waits.1 ∙ at in absurd cc
never_stops t x faults.Closed waits stops = waits_on t x faults.Closed waits stops (λ same. absurd cc)
never_stops t x faults.NoNumber waits stops = waits_on t x faults.NoNumber waits stops (λ same. absurd cc)
never_stops t x faults.EmptySlot waits stops = waits_on t x faults.EmptySlot waits stops (λ same. absurd cc)
never_stops t x (faults.Breach breach) waits stops = waits_on t x (faults.Breach breach) waits stops (λ same. absurd cc)

-- a learner that waits for more bytes and is fed none stays as it is
pub fed_none : (now : ℕ) (l e : Learning) (result : Result ℕ Fault) → IsWaiting l.intake → LearnerFeeds now l [] result e → (result ≡ Ok 0) × (e ≡ l)
fed_none now l e result waits feeds = by result feeds
  where
    same : with_piece l [] ≡ l
    same = ap (over l) (append-nil l.intake.unread)

    still : IsWaiting (with_piece l []).intake
    still = subst (λ (x : Learning). IsWaiting x.intake) (sym same) waits

    none_stops : (ms : List Message) (us : List Update) (mid : Learning) (x : Taking) (fault : Fault) → AreLearned now (with_piece l []) ms us mid → Stops mid.intake fault x → ⊥
    none_stops [] us mid x fault (none, here) stops = never_stops (with_piece l []).intake x fault still (subst (λ (y : Learning). Stops y.intake fault x) here stops)
    none_stops (m ∷ ms) us mid x fault (one, rest, next, all, learns, later) stops = waits_for_more now (with_piece l []) next m one still learns

    none_learned : (ms : List Message) (us : List Update) (count : ℕ) → AreLearned now (with_piece l []) ms us e → count ≡ length us → (◌≡◌ {A = Result ℕ Fault} (Ok count) (Ok 0)) × (e ≡ l)
    none_learned [] us count (none, here) is = (ap (λ (n : ℕ). Ok n) (is ∙ ap length none), here ∙ same)
    none_learned (m ∷ ms) us count (one, rest, next, all, learns, later) is = absurd (waits_for_more now (with_piece l []) next m one still learns)

    by : (answer : Result ℕ Fault) → LearnerFeeds now l [] answer e → (answer ≡ Ok 0) × (e ≡ l)
    by (Ok count) (is_open, (ms, us, learned, ends, is)) = none_learned ms us count learned is
    by (Err faults.Closed) (shut, is) = absurd (apart (sym shut ∙ waits.0))
    by (Err faults.Memory) (is_open, left, (ms, us, mid, learned, stops, rows), is) = absurd (none_stops ms us mid left.intake faults.Memory learned stops)
    by (Err faults.NoNumber) (is_open, (ms, us, mid, learned, stops, rows)) = absurd (none_stops ms us mid e.intake faults.NoNumber learned stops)
    by (Err faults.EmptySlot) (is_open, (ms, us, mid, learned, stops, rows)) = absurd (none_stops ms us mid e.intake faults.EmptySlot learned stops)
    by (Err (faults.Breach breach)) (is_open, (ms, us, mid, learned, stops, rows)) = absurd (none_stops ms us mid e.intake (faults.Breach breach) learned stops)
