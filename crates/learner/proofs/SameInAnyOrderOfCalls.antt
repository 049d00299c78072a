-- In whatever order an intake is fed and asked for messages, it gives the same.
use Rattle.std.proofs.Common.{◌≡◌, ◌≢◌, ℕ, true, false, List, [], ◌∷◌, ◌++◌, Option, Some, None, Result, Ok, Err, refl, sym, ap, subst, ◌∙◌, inl, inr, append_assoc}
use Rattle.std.proofs.lemmas.Bool.{cases_Bool}
use Rattle.std.proofs.lemmas.List.{append-nil}
use Rattle.peers_msg.specs.Integers.{IsBytes}
use Rattle.peers_msg.proofs.CuttingIndependence.{front_good}
use Rattle.learner.specs.declared.fault.Fault.{Fault}
use Rattle.learner.specs.declared.fault.Fault.TheVariants as faults
use Rattle.learner.specs.declared.taken.Taken.{Taken}
use Rattle.learner.specs.Intake.{Taking, Gives, IntakeFeeds, IntakeNext, rows_of, fed}
use Rattle.learner.specs.Calls.{AreIntakeCalls, IsEndOf, IsFaultless, bytes_of, answers_given}
use Rattle.learner.proofs.SameHoweverCut.{takes_on, left_good}
use Rattle.learner.proofs.SameFaultHoweverCut.{stops_on}
use Rattle.learner.proofs.LegalStreamIsTaught.{apart}
use Rattle.learner.proofs.OneOutcome.{intake_next_once}

-- messages are taken one after another, with these answers
abbrev AreTaken : Taking → List Taken → Taking → Type 0
AreTaken t [] e = e ≡ t
AreTaken t (answer ∷ others) e = (mid : Taking) × Gives t (Ok answer) mid × AreTaken mid others e

-- ---- calls one after another, and taking what they fed

-- the bytes fed, as one list
pub regrouped : (t : Taking) (piece others more : List ℕ) → fed (fed t piece) (others ++ more) ≡ fed t ((piece ++ others) ++ more)
regrouped t piece others more =
    let grouped : (t.unread ++ piece) ++ (others ++ more) ≡ t.unread ++ ((piece ++ others) ++ more) = simp append_assoc in
    ap (λ (bytes : List ℕ). record t { unread = bytes }) grouped

-- taking continues after a call that fed some bytes
after_feeding : (t mid e : Taking) (piece others more : List ℕ) (answers : List Taken) (answer : Result (Unit {0}) Fault) → IsFaultless answer → IntakeFeeds t piece answer mid → AreTaken (fed mid (others ++ more)) answers (fed e more) → AreTaken (fed t ((bytes_of piece answer ++ others) ++ more)) answers (fed e more)
after_feeding t mid e piece others more answers (Ok done) fine (is_open, is) taken =
    subst (λ (x : Taking). AreTaken x answers (fed e more)) (ap (λ (x : Taking). fed x (others ++ more)) is ∙ regrouped t piece others more) taken
after_feeding t mid e piece others more answers (Err fault) fine feeds taken =
    subst (λ (x : Taking). AreTaken (fed x (others ++ more)) answers (fed e more)) (unfed fault (fine fault refl) feeds) taken
  where
    unfed : (f : Fault) → f ≡ faults.Memory → IntakeFeeds t piece (Err f) mid → mid ≡ t
    unfed f memory feeds = (subst (λ (g : Fault). IntakeFeeds t piece (Err g) mid) memory feeds).2

-- and after one that asked for a message
asked : (t mid e : Taking) (bytes : List ℕ) (others : List Taken) (answer : Result (Option Taken) Fault) → IsBytes t.unread → IsFaultless answer → IntakeNext t answer mid → AreTaken (fed mid bytes) others e → AreTaken (fed t bytes) (answers_given answer ++ others) e
asked t mid e bytes others (Ok None) good fine (is_open, none, is) taken = subst (λ (x : Taking). AreTaken (fed x bytes) others e) is taken
asked t mid e bytes others (Ok (Some answer)) good fine (m, takes, says) taken =
    (fed mid bytes, (m, takes_on t mid m (rows_of answer) bytes good takes, says), taken)
asked t mid e bytes others (Err fault) good fine next taken =
    subst (λ (x : Taking). AreTaken (fed x bytes) others e) (untaken fault (fine fault refl) next) taken
  where
    untaken : (f : Fault) → f ≡ faults.Memory → IntakeNext t (Err f) mid → mid ≡ t
    untaken f memory next = (subst (λ (g : Fault). IntakeNext t (Err g) mid) memory next).2

-- what is left after a call is bytes
fed_good : (t mid : Taking) (piece others more : List ℕ) (answer : Result (Unit {0}) Fault) → IsBytes (t.unread ++ ((bytes_of piece answer ++ others) ++ more)) → IsFaultless answer → IntakeFeeds t piece answer mid → IsBytes (mid.unread ++ (others ++ more))
fed_good t mid piece others more (Ok done) good fine (is_open, is) =
    let grouped : t.unread ++ ((piece ++ others) ++ more) ≡ (t.unread ++ piece) ++ (others ++ more) = simp append_assoc in
    subst (λ (x : Taking). IsBytes (x.unread ++ (others ++ more))) (sym is) (subst IsBytes grouped good)
fed_good t mid piece others more (Err fault) good fine feeds =
    subst (λ (x : Taking). IsBytes (x.unread ++ (others ++ more))) (sym (unfed fault (fine fault refl) feeds)) good
  where
    unfed : (f : Fault) → f ≡ faults.Memory → IntakeFeeds t piece (Err f) mid → mid ≡ t
    unfed f memory feeds = (subst (λ (g : Fault). IntakeFeeds t piece (Err g) mid) memory feeds).2

asked_good : (t mid : Taking) (bytes : List ℕ) (answer : Result (Option Taken) Fault) → IsBytes (t.unread ++ bytes) → IsFaultless answer → IntakeNext t answer mid → IsBytes (mid.unread ++ bytes)
asked_good t mid bytes (Ok None) good fine (is_open, none, is) = subst (λ (x : Taking). IsBytes (x.unread ++ bytes)) (sym is) good
asked_good t mid bytes (Ok (Some answer)) good fine (m, takes, says) =
    left_good (fed t bytes) (fed mid bytes) m (rows_of answer) good (takes_on t mid m (rows_of answer) bytes (front_good t.unread bytes good) takes)
asked_good t mid bytes (Err fault) good fine next =
    subst (λ (x : Taking). IsBytes (x.unread ++ bytes)) (sym (untaken fault (fine fault refl) next)) good
  where
    untaken : (f : Fault) → f ≡ faults.Memory → IntakeNext t (Err f) mid → mid ≡ t
    untaken f memory next = (subst (λ (g : Fault). IntakeNext t (Err g) mid) memory next).2

-- what calls give is taken from all that they feed
called_taken : (calls : List (Option (List ℕ))) (t e : Taking) (bytes more : List ℕ) (answers : List Taken) → IsBytes (t.unread ++ (bytes ++ more)) → AreIntakeCalls t calls bytes answers e → AreTaken (fed t (bytes ++ more)) answers (fed e more) × IsBytes (e.unread ++ more)
called_taken [] t e bytes more answers good (nothing, none, here) =
    let end : AreTaken (fed t more) [] (fed e more) = ap (λ (x : Taking). fed x more) here in
    let answered : AreTaken (fed t more) answers (fed e more) = subst (λ (xs : List Taken). AreTaken (fed t more) xs (fed e more)) (sym none) end in (
      subst (λ (xs : List ℕ). AreTaken (fed t (xs ++ more)) answers (fed e more)) (sym nothing) answered,
      subst (λ (x : Taking). IsBytes (x.unread ++ more)) (sym here) (subst (λ (xs : List ℕ). IsBytes (t.unread ++ (xs ++ more))) nothing good),
    )
called_taken (Some piece ∷ calls) t e bytes more answers good (answer, others, mid, all, fine, feeds, later) =
    let good_all : IsBytes (t.unread ++ ((bytes_of piece answer ++ others) ++ more)) = subst (λ (xs : List ℕ). IsBytes (t.unread ++ (xs ++ more))) all good in
    let rest = called_taken calls mid e others more answers (fed_good t mid piece others more answer good_all fine feeds) later in
    (subst (λ (xs : List ℕ). AreTaken (fed t (xs ++ more)) answers (fed e more)) (sym all) (after_feeding t mid e piece others more answers answer fine feeds rest.0), rest.1)
called_taken (None ∷ calls) t e bytes more answers good (answer, others, mid, all, fine, next, later) =
    let rest = called_taken calls mid e bytes more others (asked_good t mid (bytes ++ more) answer good fine next) later in
    (subst (λ (xs : List Taken). AreTaken (fed t (bytes ++ more)) xs (fed e more)) (sym all) (asked t mid (fed e more) (bytes ++ more) others answer (front_good t.unread (bytes ++ more) good) fine next rest.0), rest.1)

-- ---- a closed intake

-- a call without a fault other than out of memory is made to an open intake, and leaves it open
fed_open : (t mid : Taking) (piece : List ℕ) (answer : Result (Unit {0}) Fault) → IsFaultless answer → IntakeFeeds t piece answer mid → (t.closed ≡ false) × (mid.closed ≡ false)
fed_open t mid piece (Ok done) fine (is_open, is) = (is_open, ap (λ (x : Taking). x.closed) is ∙ is_open)
fed_open t mid piece (Err fault) fine feeds = unfed fault (fine fault refl) feeds
  where
    unfed : (f : Fault) → f ≡ faults.Memory → IntakeFeeds t piece (Err f) mid → (t.closed ≡ false) × (mid.closed ≡ false)
    unfed f memory feeds =
        let stays : IntakeFeeds t piece (Err faults.Memory) mid = subst (λ (g : Fault). IntakeFeeds t piece (Err g) mid) memory feeds in
        (stays.0, ap (λ (x : Taking). x.closed) stays.2 ∙ stays.0)

asked_open : (t mid : Taking) (answer : Result (Option Taken) Fault) → IsFaultless answer → IntakeNext t answer mid → (t.closed ≡ false) × (mid.closed ≡ false)
asked_open t mid (Ok None) fine (is_open, none, is) = (is_open, ap (λ (x : Taking). x.closed) is ∙ is_open)
asked_open t mid (Ok (Some answer)) fine (m, takes, says) = (takes.0, ap (λ (x : Taking). x.closed) takes.6)
asked_open t mid (Err fault) fine next = untaken fault (fine fault refl) next
  where
    untaken : (f : Fault) → f ≡ faults.Memory → IntakeNext t (Err f) mid → (t.closed ≡ false) × (mid.closed ≡ false)
    untaken f memory next =
        let stays : IntakeNext t (Err faults.Memory) mid = subst (λ (g : Fault). IntakeNext t (Err g) mid) memory next in
        (stays.0, ap (λ (x : Taking). x.closed) stays.2 ∙ stays.0)

called_open : (calls : List (Option (List ℕ))) (t e : Taking) (bytes : List ℕ) (answers : List Taken) → t.closed ≡ false → AreIntakeCalls t calls bytes answers e → e.closed ≡ false
called_open [] t e bytes answers is_open (nothing, none, here) = ap (λ (x : Taking). x.closed) here ∙ is_open
called_open (Some piece ∷ calls) t e bytes answers is_open (answer, others, mid, all, fine, feeds, later) =
    called_open calls mid e others answers (fed_open t mid piece answer fine feeds).1 later
called_open (None ∷ calls) t e bytes answers is_open (answer, others, mid, all, fine, next, later) =
    called_open calls mid e bytes others (asked_open t mid answer fine next).1 later

-- a closed intake takes and gives nothing, and doesn't change
called_shut : (calls : List (Option (List ℕ))) (t e : Taking) (bytes : List ℕ) (answers : List Taken) → t.closed ≡ true → AreIntakeCalls t calls bytes answers e → (answers ≡ []) × (e ≡ t) × (bytes ≡ [])
called_shut [] t e bytes answers shut (nothing, none, here) = (none, here, nothing)
called_shut (Some piece ∷ calls) t e bytes answers shut (answer, others, mid, all, fine, feeds, later) =
    absurd (apart (sym shut ∙ (fed_open t mid piece answer fine feeds).0))
called_shut (None ∷ calls) t e bytes answers shut (answer, others, mid, all, fine, next, later) =
    absurd (apart (sym shut ∙ (asked_open t mid answer fine next).0))

-- ---- where a stream ends

not_memory : (end : Result (Option Taken) Fault) (more : List ℕ) → IsEndOf end more → end ≢ Err faults.Memory
not_memory end more ends same = subst (λ (x : Result (Option Taken) Fault). IsEndOf x more) same ends

-- the end of an open intake's stream stays with the bytes that are still to come
end_on : (t e : Taking) (end : Result (Option Taken) Fault) (more : List ℕ) → IsBytes t.unread → t.closed ≡ false → IntakeNext t end e → IsEndOf end more → IntakeNext (fed t more) end e
end_on t e (Ok None) more good going next ends =
    subst (λ (xs : List ℕ). IntakeNext (fed t xs) (Ok None) e) (sym ends) (subst (λ (x : Taking). IntakeNext x (Ok None) e) (sym (as_was t)) next)
  where
    as_was : (x : Taking) → fed x [] ≡ x
    as_was x = ap (λ (bytes : List ℕ). record x { unread = bytes }) (append-nil x.unread)
end_on t e (Ok (Some answer)) more good going next ends = absurd ends
end_on t e (Err fault) more good going next ends =
    stops_on t e more fault good going next (λ same. not_memory (Err fault) more ends (ap (λ (f : Fault). Err f) same))

goes_past : (end : Result (Option Taken) Fault) (more : List ℕ) (answer : Taken) → IsEndOf end more → end ≡ Ok (Some answer) → ⊥
goes_past end more answer ends same = subst (λ (x : Result (Option Taken) Fault). IsEndOf x more) same ends

given_not_memory : (answer : Taken) → ◌≢◌ {A = Result (Option Taken) Fault} (Ok (Some answer)) (Err faults.Memory)
given_not_memory answer same = cc

-- from one state, taking up to an end has only one outcome
same_taken : (t a b x y : Taking) (answers others : List Taken) (end last : Result (Option Taken) Fault) (more rest : List ℕ) → AreTaken t answers a → AreTaken t others b → IntakeNext a end x → IntakeNext b last y → IsEndOf end more → IsEndOf last rest → (answers ≡ others) × (end ≡ last) × (x ≡ y) × (a ≡ b)
same_taken t a b x y [] [] end last more rest one other next again ends stops =
    let both = intake_next_once t x y end last (subst (λ (q : Taking). IntakeNext q end x) one next) (subst (λ (q : Taking). IntakeNext q last y) other again) (not_memory end more ends) (not_memory last rest stops) in
    (refl, both.0, both.1, one ∙ sym other)
same_taken t a b x y [] (other ∷ others) end last more rest one (mid, gives, later) next again ends stops =
    let both = intake_next_once t x mid end (Ok (Some other)) (subst (λ (q : Taking). IntakeNext q end x) one next) gives (not_memory end more ends) (given_not_memory other) in
    absurd (goes_past end more other ends both.0)
same_taken t a b x y (answer ∷ answers) [] end last more rest (mid, gives, later) other next again ends stops =
    let both = intake_next_once t y mid last (Ok (Some answer)) (subst (λ (q : Taking). IntakeNext q last y) other again) gives (not_memory last rest stops) (given_not_memory answer) in
    absurd (goes_past last rest answer stops both.0)
same_taken t a b x y (answer ∷ answers) (other ∷ others) end last more rest (mid, gives, later) (mid', gives', later') next again ends stops =
    let step = intake_next_once t mid mid' (Ok (Some answer)) (Ok (Some other)) gives gives' (given_not_memory answer) (given_not_memory other) in
    let goes : AreTaken mid others b = subst (λ (q : Taking). AreTaken q others b) (sym step.1) later' in
    let rest_same = same_taken mid a b x y answers others end last more rest later goes next again ends stops in
    (ap (λ (z : Taken). z ∷ answers) (one_given answer other step.0) ∙ ap (λ (zs : List Taken). other ∷ zs) rest_same.0, rest_same.1, rest_same.2, rest_same.3)
  where
    one_given : (p q : Taken) → ◌≡◌ {A = Result (Option Taken) Fault} (Ok (Some p)) (Ok (Some q)) → p ≡ q
    one_given p q same = cc

-- in whatever order one stream is fed and messages are asked for, the outcome is the same
pub same_called : (t a b x y : Taking) (one other : List (Option (List ℕ))) (bytes others more rest : List ℕ) (answers given : List Taken) (end last : Result (Option Taken) Fault) → IsBytes (t.unread ++ (bytes ++ more)) → bytes ++ more ≡ others ++ rest → AreIntakeCalls t one bytes answers a → AreIntakeCalls t other others given b → IntakeNext a end x → IntakeNext b last y → IsEndOf end more → IsEndOf last rest
    → (answers ≡ given) × (end ≡ last) × (x ≡ y) × (a.unread ++ more ≡ b.unread ++ rest)
same_called t a b x y one other bytes others more rest answers given end last good cut called again next then ends stops = elim (cases_Bool t.closed) [
  | inl shut ↦
      let first = called_shut one t a bytes answers shut called in
      let second = called_shut other t b others given shut again in
      let both = intake_next_once t x y end last (subst (λ (q : Taking). IntakeNext q end x) first.1 next) (subst (λ (q : Taking). IntakeNext q last y) second.1 then) (not_memory end more ends) (not_memory last rest stops) in
      let to_come : more ≡ rest = sym (ap (λ (xs : List ℕ). xs ++ more) first.2) ∙ cut ∙ ap (λ (xs : List ℕ). xs ++ rest) second.2 in
      let place : a.unread ++ more ≡ b.unread ++ rest = ap (λ (q : Taking). q.unread ++ more) (first.1 ∙ sym second.1) ∙ ap (λ (xs : List ℕ). b.unread ++ xs) to_come in
      (first.0 ∙ sym second.0, both.0, both.1, place)
  | inr going ↦
      let good_other : IsBytes (t.unread ++ (others ++ rest)) = subst (λ (xs : List ℕ). IsBytes (t.unread ++ xs)) cut good in
      let first = called_taken one t a bytes more answers good called in
      let second = called_taken other t b others rest given good_other again in
      let over : AreTaken (fed t (bytes ++ more)) given (fed b rest) = subst (λ (xs : List ℕ). AreTaken (fed t xs) given (fed b rest)) (sym cut) second.0 in
      let all =
      same_taken (fed t (bytes ++ more)) (fed a more) (fed b rest) x y answers given end last more rest first.0 over
      (end_on a x end more (front_good a.unread more first.1) (called_open one t a bytes answers going called) next ends)
      (end_on b y last rest (front_good b.unread rest second.1) (called_open other t b others given going again) then stops) ends stops in
      (all.0, all.1, all.2, ap (λ (q : Taking). q.unread) all.3)
]
