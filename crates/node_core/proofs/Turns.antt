-- A peer that was asked can be asked again, and from then on each other peer is asked once at most before it.
use Rattle.std.proofs.Common.{◌≡◌, ℕ, zero, suc, ◌+◌, ◌-◌, ◌≤◌, ◌<◌, Bool, true, false, not, ◌&&◌, ◌||◌, ◌==◌, cond, List, [], ◌∷◌, ◌++◌, length, Option, Some, None, inl, inr, refl, sym, ap, ◌∙◌, subst, arith}
use Rattle.std.specs.Prelude.{◌||◌, is_none, nat_le, slice_get}
use Rattle.std.specs.List.{list_all, list_any}
use Rattle.std.proofs.lemmas.Bool.{cases_eq, eq-eqb, false≢true, le-leb, leb-true}
use Rattle.std.proofs.lemmas.Bool.Decides.{nat_tests}
use Rattle.node_core.specs.declared.asking.Standing.{Standing}
use Rattle.node_core.specs.declared.asking.Standing.TheVariants as standings
use Rattle.node_core.specs.declared.asking.Candidate.{Candidate}
use Rattle.node_core.specs.CatchingUp.{AskingState, asked, brought, can_be_asked, changed, is_asked, is_due, is_next, is_no_later, is_out, is_overdue, is_rested, is_settled, lapsed, owes, stood}
use Rattle.node_core.specs.AskingRuns.{Happening, Begins, Ends, Asks, Brings, Finishes, FinishesPartly, FinishesIncompletely, Passes, CanBeAsked, WasLastAsked, after, after_all, asked_by, asked_by_all, asks_none_before, is_end_of, was_before}
use Rattle.node_core.proofs.Waiting.{another, first_false, second_false}
use Rattle.node_core.proofs.Rounds.{ahead, ahead_fits, and_true, fewer_ahead, is_later, it_changes, itself, made_asked, next_given, no_later_than, one_ahead, others_stay}

-- ---- a session that stands

-- the peer has a session, and was last asked then
abbrev pub Stands : ℕ → Option ℕ → List Candidate → Type 0
Stands peer asked cs = (c : Candidate) × (slice_get cs peer ≡ Some c) × (is_out c.standing ≡ false) × (c.asked_at ≡ asked)

-- whoever else is changed, it stands
pub other_stands : (f : Candidate → Candidate) (cs : List Candidate) (peer other : ℕ) (t : Option ℕ) → (other ≡ peer → ⊥) → Stands peer t cs → Stands peer t (changed f other cs)
other_stands f cs peer other t apart (c, found, there, then) = (c, others_stay f cs other peer apart ∙ found, there, then)

-- a change that leaves a peer its session, and when it was asked
abbrev pub Keeps : (Candidate → Candidate) → Type 0
Keeps f = (c : Candidate) → is_out c.standing ≡ false → (is_out (Candidate.standing (f c)) ≡ false) × (Candidate.asked_at (f c) ≡ c.asked_at)

stands_still : (f : Candidate → Candidate) (cs : List Candidate) (peer other : ℕ) (t : Option ℕ) → Keeps f → Stands peer t cs → Stands peer t (changed f other cs)
stands_still f cs peer other t keeps (c, found, there, then) = elim (cases_eq other peer) [
  | inl same ↦ let kept = keeps c there in (f c, subst (λ (i : ℕ). slice_get (changed f i cs) peer ≡ Some (f c)) (sym same) (it_changes f cs peer c found), kept.0, kept.1 ∙ then)
  | inr apart ↦ other_stands f cs peer other t apart (c, found, there, then)
]

keeps_brought : (now : ℕ) → Keeps (brought now)
keeps_brought now c there = by (is_asked c.standing)
  where
    by : (b : Bool) → (is_out (Candidate.standing (cond b (record c { since = Some now }) c)) ≡ false) × (Candidate.asked_at (cond b (record c { since = Some now }) c) ≡ c.asked_at)
    by true = (there, refl)
    by false = (there, refl)

pub step_stands : (peer : ℕ) (t : Option ℕ) (h : Happening) (a : AskingState) → is_end_of peer h ≡ false → list_any (λ other. other == peer) (asked_by h a) ≡ false → Stands peer t a.peers → Stands peer t (after h a).peers
step_stands peer t (Begins other) a stays none stands = stands_still (λ p. record p { standing = standings.Unasked }) a.peers peer other t (λ c there. (refl, refl)) stands
step_stands peer t (Ends other) a stays none stands = other_stands (λ p. record p { standing = standings.Away }) a.peers peer other t (another other peer stays) stands
step_stands peer t (Asks other now) a stays none stands = by (is_next other now a) none
  where
    by : (b : Bool) → list_any (λ q. q == peer) (cond b (other ∷ []) []) ≡ false → Stands peer t (AskingState.peers (cond b (asked other now a) a))
    by true none = other_stands (made_asked now) a.peers peer other t (another other peer (first_false (other == peer) false none)) stands
    by false none = stands
step_stands peer t (Brings other now) a stays none stands = stands_still (brought now) a.peers peer other t (keeps_brought now) stands
step_stands peer t (Finishes other) a stays none stands = by (owes (slice_get a.peers other))
  where
    by : (b : Bool) → Stands peer t (AskingState.peers (cond b (record a { taught = true; awaited = None }) a))
    by true = stands
    by false = stands
step_stands peer t (FinishesPartly other lacks) a stays none stands = by (owes (slice_get a.peers other))
  where
    by : (b : Bool) → Stands peer t (AskingState.peers (cond b (record (stood standings.Partial other a) { incomplete = a.incomplete || lacks }) a))
    by true = stands_still (λ p. record p { standing = standings.Partial }) a.peers peer other t (λ c there. (refl, refl)) stands
    by false = stands
step_stands peer t (FinishesIncompletely other) a stays none stands = by (owes (slice_get a.peers other))
  where
    by : (b : Bool) → Stands peer t (AskingState.peers (cond b (record (stood standings.Incomplete other a) { incomplete = true }) a))
    by true = other_stands (λ p. record p { standing = standings.Incomplete }) a.peers peer other t (another other peer stays) stands
    by false = stands
step_stands peer t (Passes now) a stays none stands = by (is_settled now (lapsed now a))
  where
    by : (b : Bool) → Stands peer t (AskingState.peers (cond b (record (lapsed now a) { settled = true }) (lapsed now a)))
    by true = stands
    by false = stands

any_joined : (p : ℕ → Bool) (xs ys : List ℕ) → list_any p (xs ++ ys) ≡ false → (list_any p xs ≡ false) × (list_any p ys ≡ false)
any_joined p [] ys none = (refl, none)
any_joined p (x ∷ xs) ys none =
    let rest = any_joined p xs ys (second_false (p x) (list_any p (xs ++ ys)) none) in
    (both (p x) (list_any p xs) (first_false (p x) (list_any p (xs ++ ys)) none) rest.0, rest.1)
  where
    both : (a b : Bool) → a ≡ false → b ≡ false → (a || b) ≡ false
    both true b one other = cc
    both false b one other = other

pub run_stands : (peer : ℕ) (t : Option ℕ) (hs : List Happening) (a : AskingState) → list_any (is_end_of peer) hs ≡ false → list_any (λ other. other == peer) (asked_by_all hs a) ≡ false → Stands peer t a.peers → Stands peer t (after_all hs a).peers
run_stands peer t [] a stays none stands = stands
run_stands peer t (h ∷ hs) a stays none stands =
    let apart = any_joined (λ other. other == peer) (asked_by h a) (asked_by_all hs (after h a)) none in
    run_stands peer t hs (after h a) (second_false (is_end_of peer h) (list_any (is_end_of peer) hs) stays) apart.1 (step_stands peer t h a (first_false (is_end_of peer h) (list_any (is_end_of peer) hs) stays) apart.0 stands)

-- ---- asked again

due_if_there : (s : Standing) → is_out s ≡ false → is_due s true ≡ true
due_if_there standings.Away there = cc
due_if_there standings.Unasked there = refl
due_if_there standings.Asked there = refl
due_if_there standings.Partial there = refl
due_if_there standings.Incomplete there = cc

or_other : (a b : Bool) → b ≡ true → (a || b) ≡ true
or_other true b h = refl
or_other false b h = h

pub overdue_can : (now : ℕ) (c : Candidate) → is_out c.standing ≡ false → is_overdue now c.asked_at ≡ true → can_be_asked now c ≡ true
overdue_can now c there due = ap (is_due c.standing) (or_other (is_rested now c.since) (is_overdue now c.asked_at) due) ∙ due_if_there c.standing there

pub overdue_before : (now later : ℕ) (t : Option ℕ) → is_overdue now t ≡ true → now ≤ later → was_before later t ≡ true
overdue_before now later None due after = refl
overdue_before now later (Some n) due after = grind (arith, nat_tests)

pub overdue_later : (now later : ℕ) (t : Option ℕ) → is_overdue now t ≡ true → now ≤ later → is_overdue later t ≡ true
overdue_later now later None due after = refl
overdue_later now later (Some n) due after = grind (arith, nat_tests)

asked_stands : (a : AskingState) (peer asked : ℕ) → is_next peer asked a ≡ true → Stands peer (Some asked) (after (Asks peer asked) a).peers
asked_stands a peer then next =
    let given = next_given peer then a next in
    subst (λ (b : Bool). Stands peer (Some then) (AskingState.peers (cond b (asked peer then a) a))) (sym next) (made_asked then given.1, it_changes (made_asked then) a.peers peer given.1 given.2, refl, refl)

pub again : (a : AskingState) (peer asked now : ℕ) (hs : List Happening) → is_next peer asked a ≡ true → list_any (is_end_of peer) hs ≡ false → list_any (λ other. other == peer) (asked_by_all hs (after (Asks peer asked) a)) ≡ false → asked + 660000 ≤ now → CanBeAsked peer now (after_all hs (after (Asks peer asked) a))
again a peer then now hs next stays none late =
    let stood = run_stands peer (Some then) hs (after (Asks peer then) a) stays none (asked_stands a peer then next) in
    let due : is_overdue now (Some then) ≡ true = le-leb 660000 (now - then) (omega (arith, late)) in
    let overdue : is_overdue now (Candidate.asked_at stood.0) ≡ true = ap (is_overdue now) stood.3 ∙ due in
    (stood.0, stood.1, overdue_can now stood.0 stood.2 overdue, overdue_before now now (Candidate.asked_at stood.0) overdue (omega arith))

-- ---- in turn

-- a change that leaves each peer when it was asked
abbrev pub KeepsTime : (Candidate → Candidate) → Type 0
KeepsTime f = (c : Candidate) → Candidate.asked_at (f c) ≡ c.asked_at

pub as_many : (t : Option ℕ) (f : Candidate → Candidate) (cs : List Candidate) (i : ℕ) → KeepsTime f → ahead t (changed f i cs) ≡ ahead t cs
as_many t f [] i keeps = refl
as_many t f (d ∷ cs) zero keeps = rw (keeps d) refl
as_many t f (d ∷ cs) (suc i) keeps = rw (as_many t f cs i keeps) refl

pub time_brought : (now : ℕ) → KeepsTime (brought now)
time_brought now c = by (is_asked c.standing)
  where
    by : (b : Bool) → Candidate.asked_at (cond b (record c { since = Some now }) c) ≡ c.asked_at
    by true = refl
    by false = refl

none_more : (n m : ℕ) → n ≡ m → 0 + n ≡ m
none_more n m same = omega (arith, same)

one_more : (n m : ℕ) → m ≡ suc n → 1 + n ≡ m
one_more n m same = omega (arith, same)

-- each that is asked is one less that was asked no later than this peer
pub step_ahead : (peer now : ℕ) (t : Option ℕ) (h : Happening) (a : AskingState) → is_overdue now t ≡ true → asks_none_before now h ≡ true → Stands peer t a.peers → length (asked_by h a) + ahead t (after h a).peers ≡ ahead t a.peers
step_ahead peer now t (Begins other) a due times stands = none_more _ _ (as_many t (λ p. record p { standing = standings.Unasked }) a.peers other (λ c. refl))
step_ahead peer now t (Ends other) a due times stands = none_more _ _ (as_many t (λ p. record p { standing = standings.Away }) a.peers other (λ c. refl))
step_ahead peer now t (Asks other then) a due times (c, found, there, was) = by (is_next other then a) refl
  where
    later : now ≤ then
    later = leb-true now then times

    by : (b : Bool) → is_next other then a ≡ b → length (cond b (other ∷ []) []) + ahead t (AskingState.peers (cond b (asked other then a) a)) ≡ ahead t a.peers
    by false next = none_more _ _ refl
    by true next =
        let given = next_given other then a next in
        let can = overdue_can then c there (ap (is_overdue then) was ∙ overdue_later now then t due later) in
        let before = subst (λ (s : Option ℕ). is_no_later (Candidate.asked_at given.1) s ≡ true) was (no_later_than then peer a.peers c given.1 given.3 found can) in
        one_more _ _ (fewer_ahead t (made_asked then) a.peers other given.1 given.2 before (is_later then t (overdue_before now then t due later)))
step_ahead peer now t (Brings other then) a due times stands = none_more _ _ (as_many t (brought then) a.peers other (time_brought then))
step_ahead peer now t (Finishes other) a due times stands = none_more _ _ (by (owes (slice_get a.peers other)))
  where
    by : (b : Bool) → ahead t (AskingState.peers (cond b (record a { taught = true; awaited = None }) a)) ≡ ahead t a.peers
    by true = refl
    by false = refl
step_ahead peer now t (FinishesPartly other lacks) a due times stands = none_more _ _ (by (owes (slice_get a.peers other)))
  where
    by : (b : Bool) → ahead t (AskingState.peers (cond b (record (stood standings.Partial other a) { incomplete = a.incomplete || lacks }) a)) ≡ ahead t a.peers
    by true = as_many t (λ p. record p { standing = standings.Partial }) a.peers other (λ c. refl)
    by false = refl
step_ahead peer now t (FinishesIncompletely other) a due times stands = none_more _ _ (by (owes (slice_get a.peers other)))
  where
    by : (b : Bool) → ahead t (AskingState.peers (cond b (record (stood standings.Incomplete other a) { incomplete = true }) a)) ≡ ahead t a.peers
    by true = as_many t (λ p. record p { standing = standings.Incomplete }) a.peers other (λ c. refl)
    by false = refl
step_ahead peer now t (Passes then) a due times stands = none_more _ _ (by (is_settled then (lapsed then a)))
  where
    by : (b : Bool) → ahead t (AskingState.peers (cond b (record (lapsed then a) { settled = true }) (lapsed then a))) ≡ ahead t a.peers
    by true = refl
    by false = refl

joined_length : (xs ys : List ℕ) → length (xs ++ ys) ≡ length xs + length ys
joined_length [] ys = sym (none_more (length ys) (length ys) refl)
joined_length (x ∷ xs) ys = omega (arith, joined_length xs ys)

run_ahead : (peer now : ℕ) (t : Option ℕ) (hs : List Happening) (a : AskingState) → is_overdue now t ≡ true → list_all (asks_none_before now) hs ≡ true → list_any (is_end_of peer) hs ≡ false → list_any (λ other. other == peer) (asked_by_all hs a) ≡ false → Stands peer t a.peers → length (asked_by_all hs a) < ahead t a.peers
run_ahead peer now t [] a due times stays none (c, found, there, was) = omega (arith, one_ahead t a.peers peer c found (subst (λ (s : Option ℕ). is_no_later s t ≡ true) (sym was) (itself t)))
run_ahead peer now t (h ∷ hs) a due times stays none stands =
    let apart = any_joined (λ other. other == peer) (asked_by h a) (asked_by_all hs (after h a)) none in
    let both = and_true (asks_none_before now h) (list_all (asks_none_before now) hs) times in
    let next = step_stands peer t h a (first_false (is_end_of peer h) (list_any (is_end_of peer) hs) stays) apart.0 stands in
    let rest = run_ahead peer now t hs (after h a) due both.1 (second_false (is_end_of peer h) (list_any (is_end_of peer) hs) stays) apart.1 next in
    omega (arith, rest, step_ahead peer now t h a due both.0 stands, joined_length (asked_by h a) (asked_by_all hs (after h a)))

pub in_turn : (a : AskingState) (peer now : ℕ) (asked : Option ℕ) (hs : List Happening) → WasLastAsked peer asked a → is_overdue now asked ≡ true → list_all (asks_none_before now) hs ≡ true → list_any (is_end_of peer) hs ≡ false → list_any (λ other. other == peer) (asked_by_all hs a) ≡ false → length (asked_by_all hs a) < length a.peers
in_turn a peer now t hs stands due times stays none = omega (arith, run_ahead peer now t hs a due times stays none stands, ahead_fits t a.peers)
