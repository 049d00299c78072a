-- A learner has only one outcome, unless memory runs out.
use Rattle.std.proofs.Common.{◌≡◌, ◌≢◌, ℕ, Bool, true, false, List, [], ◌∷◌, Option, Some, None, Result, Ok, Err, refl, sym, ap, subst, ◌∙◌, inl, inr, ◌⊎◌}
use Rattle.std.specs.Prelude.{option_map}
use Rattle.table_types.specs.declared.key.Key.{Key}
use Rattle.table_types.specs.declared.update.Update.{Update}
use Rattle.table_types.specs.Rows.{StoredRow}
use Rattle.peers_msg.specs.declared.fault.Breach.{Breach}
use Rattle.peers_msg.specs.declared.message.Message.{Message}
use Rattle.peers_msg.specs.declared.message.Message.TheVariants as messages
use Rattle.peers_msg.specs.Messages.{UpdateFields}
use Rattle.peers_msg.specs.Reading.{message_at}
use Rattle.peers_msg.proofs.CuttingIndependence.{found}
use Rattle.known_state.specs.Effects.{message_refusal}
use Rattle.learner.specs.declared.fault.Fault.{Fault}
use Rattle.learner.specs.declared.fault.Fault.TheVariants as faults
use Rattle.learner.specs.declared.taken.Taken.{Taken}
use Rattle.learner.specs.declared.taken.Taken.TheVariants as taken
use Rattle.learner.specs.Faults.{as_fault}
use Rattle.learner.specs.Intake.{Taking, Takes, Stops, IntakeFeeds, IntakeNext, Answers, rows_of, fed, shut}
use Rattle.learner.specs.Learning.{Learning, AreLearned, LearnerFeeds, with_piece}
use Rattle.learner.proofs.SameHoweverCut.{one_learned, one_message, one_taking, same_fed}
use Rattle.learner.proofs.LegalStreamIsTaught.{apart, goes_on, no_fault, waits_on}

parts : {X Y : Type 0} → (p q : X × Y) → p ≡ q → (p.0 ≡ q.0) × (p.1 ≡ q.1)
parts {X} {Y} p q e = (ap (λ (r : X × Y). r.0) e, ap (λ (r : X × Y). r.1) e)

-- ---- faults

-- a fault that stops an intake, other than out of memory, and what the intake is then
abbrev refusing : Taking → Option Fault → Fault × Taking
refusing t (Some fault) = (fault, shut t)
refusing t None = (faults.Memory, t)

abbrev stopping : Taking → Bool → Result (Option (Message × List ℕ)) Breach → Fault × Taking
stopping t true read = (faults.Closed, t)
stopping t false (Err breach) = (faults.Breach breach, shut t)
stopping t false (Ok None) = (faults.Memory, t)
stopping t false (Ok (Some found)) = refusing t (option_map as_fault (message_refusal t.state found.0))

stopping_with : (t : Taking) (closed : Bool) (read : Result (Option (Message × List ℕ)) Breach) → t.closed ≡ closed → message_at t.state.received t.unread ≡ read → stopping t t.closed (message_at t.state.received t.unread) ≡ stopping t closed read
stopping_with t closed read is at = ap (λ (b : Bool). stopping t b (message_at t.state.received t.unread)) is ∙ ap (stopping t closed) at

both_are : (f g : Fault) (x y : Taking) → f ≡ g → x ≡ y → ◌≡◌ {A = Fault × Taking} (f, x) (g, y)
both_are f g x y faults takings = ap (λ (q : Fault). (q, x)) faults ∙ ap (λ (q : Taking). (g, q)) takings

refused_so : (t e : Taking) (fault : Fault) (m : Message) (rest : List ℕ) → t.closed ≡ false → message_at t.state.received t.unread ≡ found m rest → option_map as_fault (message_refusal t.state m) ≡ Some fault → e ≡ shut t
    → (fault, e) ≡ stopping t t.closed (message_at t.state.received t.unread)
refused_so t e fault m rest is_open at refused is =
    both_are fault fault e (shut t) refl is ∙ sym (ap (refusing t) refused) ∙ sym (stopping_with t false (found m rest) is_open at)

stops_so : (t e : Taking) (fault : Fault) → Stops t fault e → fault ≢ faults.Memory → (fault, e) ≡ stopping t t.closed (message_at t.state.received t.unread)
stops_so t e faults.NoNumber (is_open, m, rest, at, refused, is) wanted = refused_so t e faults.NoNumber m rest is_open at refused is
stops_so t e faults.EmptySlot (is_open, m, rest, at, refused, is) wanted = refused_so t e faults.EmptySlot m rest is_open at refused is
stops_so t e faults.Memory stops wanted = absurd (wanted refl)
stops_so t e faults.Closed (shut, is) wanted =
    both_are faults.Closed faults.Closed e t refl is ∙ sym (ap (λ (b : Bool). stopping t b (message_at t.state.received t.unread)) shut)
stops_so t e (faults.Breach breach) (is_open, at, is) wanted =
    both_are (faults.Breach breach) (faults.Breach breach) e (shut t) refl is ∙ sym (stopping_with t false (Err breach) is_open at)

-- from one state, only one fault stops an intake
pub stops_once : (t a b : Taking) (fault other : Fault) → Stops t fault a → Stops t other b → fault ≢ faults.Memory → other ≢ faults.Memory → (fault ≡ other) × (a ≡ b)
stops_once t a b fault other stops again p q = parts (fault, a) (other, b) (stops_so t a fault stops p ∙ sym (stops_so t b other again q))

-- ---- an intake

-- the result of feeding an intake, unless memory runs out
abbrev feeding : Taking → List ℕ → Bool → Result (Unit {0}) Fault × Taking
feeding t piece true = (Err faults.Closed, t)
feeding t piece false = (Ok tt, fed t piece)

fed_so : (t e : Taking) (piece : List ℕ) (answer : Result (Unit {0}) Fault) → IntakeFeeds t piece answer e → answer ≢ Err faults.Memory → (answer, e) ≡ feeding t piece t.closed
fed_so t e piece (Ok _) (is_open, is) wanted = ap (λ (x : Taking). (Ok tt, x)) is ∙ sym (ap (feeding t piece) is_open)
fed_so t e piece (Err faults.Closed) (shut, is) wanted = ap (λ (x : Taking). (Err faults.Closed, x)) is ∙ sym (ap (feeding t piece) shut)
fed_so t e piece (Err faults.Memory) feeds wanted = absurd (wanted refl)
fed_so t e piece (Err faults.NoNumber) feeds wanted = absurd feeds
fed_so t e piece (Err faults.EmptySlot) feeds wanted = absurd feeds
fed_so t e piece (Err (faults.Breach breach)) feeds wanted = absurd feeds

pub intake_fed_once : (t a b : Taking) (piece : List ℕ) (one other : Result (Unit {0}) Fault) → IntakeFeeds t piece one a → IntakeFeeds t piece other b → one ≢ Err faults.Memory → other ≢ Err faults.Memory → (one ≡ other) × (a ≡ b)
intake_fed_once t a b piece one other feeds again p q = parts (one, a) (other, b) (fed_so t a piece one feeds p ∙ sym (fed_so t b piece other again q))

no_row : (u : Update) (us : List Update) → u ∷ us ≡ [] → ⊥
no_row u us e = cc

passed : (u : UpdateFields) (answer : Taken) → rows_of answer ≡ [] → Answers (messages.Update u) answer → answer ≡ taken.Passed
passed u (taken.Row own) none says = absurd (no_row own [] none)
passed u taken.Passed none says = says
passed u (taken.Said c) none says = says
passed u (taken.Failed e) none says = says
passed u (taken.Acked table number) none says = says

gives_row : (answer : Taken) (own : Update) → rows_of answer ≡ own ∷ [] → answer ≡ taken.Row own
gives_row (taken.Row other) own is = let same : other ≡ own = cc in ap (λ (u : Update). taken.Row u) same
gives_row taken.Passed own is = absurd (no_row own [] (sym is))
gives_row (taken.Said c) own is = absurd (no_row own [] (sym is))
gives_row (taken.Failed e) own is = absurd (no_row own [] (sym is))
gives_row (taken.Acked table number) own is = absurd (no_row own [] (sym is))

-- a message has only one answer
one_answer : (m : Message) (a b : Taken) → rows_of a ≡ rows_of b → Answers m a → Answers m b → a ≡ b
one_answer (messages.Update u) (taken.Row own) b rows p q = sym (gives_row b own (sym rows))
one_answer (messages.Update u) taken.Passed b rows p q = p ∙ sym (passed u b (sym rows) q)
one_answer (messages.Update u) (taken.Said c) b rows p q = p ∙ sym (passed u b (sym rows) q)
one_answer (messages.Update u) (taken.Failed e) b rows p q = p ∙ sym (passed u b (sym rows) q)
one_answer (messages.Update u) (taken.Acked table number) b rows p q = p ∙ sym (passed u b (sym rows) q)
one_answer (messages.Control c) a b rows p q = p ∙ sym q
one_answer (messages.Error e) a b rows p q = p ∙ sym q
one_answer (messages.Define d) a b rows p q = p ∙ sym q
one_answer (messages.Switch id) a b rows p q = p ∙ sym q
one_answer (messages.Ack table number) a b rows p q = p ∙ sym q
one_answer (messages.Other o) a b rows p q = p ∙ sym q

-- an intake takes a message or waits for more, not both
taken_or_waits : (t e : Taking) (m : Message) (own : List Update) → message_at t.state.received t.unread ≡ Ok None → Takes t m own e → ⊥
taken_or_waits t e m own none takes = let bad : Ok None ≡ found m takes.1 = sym none ∙ takes.2 in cc

not_wanted : (fault : Fault) → ◌≢◌ {A = Result (Option Taken) Fault} (Err fault) (Err faults.Memory) → fault ≢ faults.Memory
not_wanted fault wanted same = wanted (ap (λ (f : Fault). Err f) same)

pub intake_next_once : (t a b : Taking) (one other : Result (Option Taken) Fault) → IntakeNext t one a → IntakeNext t other b → one ≢ Err faults.Memory → other ≢ Err faults.Memory → (one ≡ other) × (a ≡ b)
intake_next_once t a b (Ok None) (Ok None) next again p q = (refl, next.2 ∙ sym again.2)
intake_next_once t a b (Ok None) (Ok (Some answer)) next again p q = absurd (taken_or_waits t b again.0 (rows_of answer) next.1 again.1)
intake_next_once t a b (Ok None) (Err fault) next again p q = absurd (waits_on t b fault (next.0, next.1) again (not_wanted fault q))
intake_next_once t a b (Ok (Some answer)) (Ok None) next again p q = absurd (taken_or_waits t a next.0 (rows_of answer) again.1 next.1)
intake_next_once t a b (Ok (Some answer)) (Ok (Some other)) (m, takes, says) (n, takes', says') p q =
    let same : m ≡ n = one_message t a b m n (rows_of answer) (rows_of other) takes takes' in
    let takes_too : Takes t m (rows_of other) b = subst (λ (k : Message). Takes t k (rows_of other) b) (sym same) takes' in
    let tells_too : Answers m other = subst (λ (k : Message). Answers k other) (sym same) says' in
    let both = one_taking t a b m (rows_of answer) (rows_of other) takes takes_too in
    (ap (λ (x : Taken). Ok (Some x)) (one_answer m answer other both.0 says tells_too), both.1)
intake_next_once t a b (Ok (Some answer)) (Err fault) next again p q = absurd (goes_on t a b next.0 (rows_of answer) fault next.1 again (not_wanted fault q))
intake_next_once t a b (Err fault) (Ok None) next again p q = absurd (waits_on t a fault (again.0, again.1) next (not_wanted fault p))
intake_next_once t a b (Err fault) (Ok (Some answer)) next again p q = absurd (goes_on t b a again.0 (rows_of answer) fault again.1 next (not_wanted fault p))
intake_next_once t a b (Err fault) (Err other) next again p q =
    let both = stops_once t a b fault other next again (not_wanted fault p) (not_wanted other q) in
    (ap (λ (f : Fault). Err f) both.0, both.1)

-- ---- a learner

-- messages are learned, and then this fault stops the learner
abbrev pub Runs : ℕ → Learning → Fault → Learning → Type 0
Runs now l fault e =
    (ms : List Message) × (us : List Update) × (mid : Learning) × AreLearned now l ms us mid × Stops mid.intake fault e.intake × (e.rows ≡ mid.rows)

-- from one state, only one list of messages is learned up to a fault
pub runs_once : (now : ℕ) (l m n : Learning) (x y : Taking) (ms ns : List Message) (us vs : List Update) (fault other : Fault) → AreLearned now l ms us m → AreLearned now l ns vs n → Stops m.intake fault x → Stops n.intake other y → fault ≢ faults.Memory → other ≢ faults.Memory → (fault ≡ other) × (x ≡ y) × (m ≡ n)
runs_once now l m n x y [] [] us vs fault other one again stops stops' p q =
    let both = stops_once l.intake x y fault other (subst (λ (k : Learning). Stops k.intake fault x) one.1 stops) (subst (λ (k : Learning). Stops k.intake other y) again.1 stops') p q in
    (both.0, both.1, one.1 ∙ sym again.1)
runs_once now l m n x y [] (k ∷ ns) us vs fault other one (first, rest, next, all, begins, later) stops stops' p q =
    absurd (goes_on l.intake next.intake x k first fault begins.0 (subst (λ (z : Learning). Stops z.intake fault x) one.1 stops) p)
runs_once now l m n x y (k ∷ ms) [] us vs fault other (first, rest, next, all, begins, later) again stops stops' p q =
    absurd (goes_on l.intake next.intake y k first other begins.0 (subst (λ (z : Learning). Stops z.intake other y) again.1 stops') q)
runs_once now l m n x y (j ∷ ms) (k ∷ ns) us vs fault other (first, rest, next, all, begins, later) (first', rest', next', all', begins', later') stops stops' p q =
    let step = one_learned now l next next' j k first first' begins begins' in
    let goes : AreLearned now next ns rest' n = subst (λ (z : Learning). AreLearned now z ns rest' n) (sym step.1) later' in
    runs_once now next m n x y ms ns rest rest' fault other later goes stops stops' p q

one_learning : (a b : Learning) → a.intake ≡ b.intake → a.rows ≡ b.rows → a ≡ b
one_learning a b intakes rows =
    ap (λ (t : Taking). record { intake = t; rows = a.rows }) intakes ∙ ap (λ (r : List (List (Key × StoredRow))). record { intake = b.intake; rows = r }) rows

pub same_run : (now : ℕ) (l a b : Learning) (fault other : Fault) → Runs now l fault a → Runs now l other b → fault ≢ faults.Memory → other ≢ faults.Memory → (fault ≡ other) × (a ≡ b)
same_run now l a b fault other (ms, us, m, learned, stops, rows) (ns, vs, n, learned', stops', rows') p q =
    let all = runs_once now l m n a.intake b.intake ms ns us vs fault other learned learned' stops stops' p q in
    (all.0, one_learning a b all.1 (rows ∙ ap (λ (z : Learning). z.rows) all.2 ∙ sym rows'))

-- a fault of feeding other than out of memory: the learner was closed before, or messages were learned up to the fault
abbrev pub IsFaulty : ℕ → Learning → List ℕ → Fault → Learning → Type 0
IsFaulty now l piece fault e = ((l.intake.closed ≡ true) × (fault ≡ faults.Closed) × (e ≡ l)) ⊎ ((l.intake.closed ≡ false) × Runs now (with_piece l piece) fault e)

pub faulty : (now : ℕ) (l e : Learning) (piece : List ℕ) (fault : Fault) → LearnerFeeds now l piece (Err fault) e → fault ≢ faults.Memory → IsFaulty now l piece fault e
faulty now l e piece faults.Memory fed wanted = absurd (wanted refl)
faulty now l e piece faults.Closed (shut, is) wanted = inl (shut, refl, is)
faulty now l e piece faults.NoNumber fed wanted = inr fed
faulty now l e piece faults.EmptySlot fed wanted = inr fed
faulty now l e piece (faults.Breach breach) fed wanted = inr fed

no_ok : (now : ℕ) (l a b : Learning) (piece : List ℕ) (count : ℕ) (fault : Fault) → LearnerFeeds now l piece (Ok count) a → LearnerFeeds now l piece (Err fault) b → fault ≢ faults.Memory → ⊥
no_ok now l a b piece count fault (is_open, (ms, us, learned, waits, is)) fed wanted = elim (faulty now l b piece fault fed wanted) [
  | inl shut ↦ apart (sym shut.0 ∙ is_open)
  | inr runs ↦ no_fault now (with_piece l piece) a runs.1.2 b.intake ms runs.1.0 us runs.1.1 fault learned waits runs.1.3 runs.1.4 wanted
]

no_memory : (fault : Fault) → ◌≢◌ {A = Result ℕ Fault} (Err fault) (Err faults.Memory) → fault ≢ faults.Memory
no_memory fault wanted same = wanted (ap (λ (f : Fault). Err f) same)

one_fault : (now : ℕ) (l a b : Learning) (piece : List ℕ) (fault other : Fault) → IsFaulty now l piece fault a → IsFaulty now l piece other b → fault ≢ faults.Memory → other ≢ faults.Memory → (fault ≡ other) × (a ≡ b)
one_fault now l a b piece fault other (inl shut) (inl shut') p q = (shut.1 ∙ sym shut'.1, shut.2 ∙ sym shut'.2)
one_fault now l a b piece fault other (inl shut) (inr runs) p q = absurd (apart (sym shut.0 ∙ runs.0))
one_fault now l a b piece fault other (inr runs) (inl shut) p q = absurd (apart (sym shut.0 ∙ runs.0))
one_fault now l a b piece fault other (inr runs) (inr runs') p q = same_run now (with_piece l piece) a b fault other runs.1 runs'.1 p q

pub learner_fed_once : (now : ℕ) (l a b : Learning) (piece : List ℕ) (one other : Result ℕ Fault) → LearnerFeeds now l piece one a → LearnerFeeds now l piece other b → one ≢ Err faults.Memory → other ≢ Err faults.Memory → (one ≡ other) × (a ≡ b)
learner_fed_once now l a b piece (Ok one) (Ok other) fed again p q =
    let both = same_fed now l a b piece one other fed again in
    (ap (λ (n : ℕ). Ok n) both.0, both.1)
learner_fed_once now l a b piece (Ok one) (Err fault) fed again p q = absurd (no_ok now l a b piece one fault fed again (no_memory fault q))
learner_fed_once now l a b piece (Err fault) (Ok one) fed again p q = absurd (no_ok now l b a piece one fault again fed (no_memory fault p))
learner_fed_once now l a b piece (Err fault) (Err other) fed again p q =
    let both = one_fault now l a b piece fault other (faulty now l a piece fault fed (no_memory fault p)) (faulty now l b piece other again (no_memory other q)) (no_memory fault p) (no_memory other q) in
    (ap (λ (f : Fault). Err f) both.0, both.1)
