-- Rounds end: each of them leaves one peer less that was asked no later than the one that finishes.
use Rattle.std.proofs.Common.{◌≡◌, ℕ, zero, suc, ◌+◌, ◌-◌, ◌*◌, ◌≤◌, ◌<◌, Bool, true, false, not, ◌&&◌, ◌||◌, cond, List, [], ◌∷◌, length, Option, Some, None, ◌⊎◌, inl, inr, refl, sym, ap, ◌∙◌, subst, arith}
use Rattle.std.specs.Prelude.{◌||◌, is_none, nat_le, slice_get}
use Rattle.std.specs.List.{list_all}
use Rattle.std.proofs.lemmas.Bool.{cases_eq, eq-eqb, false≢true, le-leb}
use Rattle.std.proofs.lemmas.Bool.Decides.{nat_tests}
use Rattle.node_core.specs.declared.asking.Standing.{Standing}
use Rattle.node_core.specs.declared.asking.Standing.TheVariants as standings
use Rattle.node_core.specs.declared.asking.Candidate.{Candidate}
use Rattle.node_core.specs.CatchingUp.{AskingState, asked, brought, can_be_asked, changed, heard, is_asked, is_due, is_first, is_no_later, is_next, is_overdue, is_rested, owes, stood}
use Rattle.node_core.specs.AskingRuns.{Answer, Finished, Partial, Incomplete, Nothing, CanBeAsked, Rounds, answered, was_before}

-- ---- tests

pub and_true : (a b : Bool) → (a && b) ≡ true → (a ≡ true) × (b ≡ true)
and_true true b h = (refl, h)
and_true false b h = cc

and_both : (a b : Bool) → a ≡ true → b ≡ true → (a && b) ≡ true
and_both true b one two = two
and_both false b one two = cc

-- what all pass, each passes
passes : (p : Candidate → Bool) (cs : List Candidate) (i : ℕ) (c : Candidate) → list_all p cs ≡ true → slice_get cs i ≡ Some c → p c ≡ true
passes p [] i c all found = cc
passes p (d ∷ cs) zero c all found = subst (λ (x : Candidate). p x ≡ true) (some_same found) (and_true (p d) (list_all p cs) all).0
  where
    some_same : Some d ≡ Some c → d ≡ c
    some_same found = cc
passes p (d ∷ cs) (suc i) c all found = passes p cs i c (and_true (p d) (list_all p cs) all).1 found

-- ---- which peer was asked longest ago

pub itself : (t : Option ℕ) → is_no_later t t ≡ true
itself None = refl
itself (Some n) = le-leb n n (omega arith)

one_of_both : (s t : Option ℕ) → is_no_later s t ≡ false → is_no_later t s ≡ true
one_of_both None t h = cc
one_of_both (Some m) None h = refl
one_of_both (Some m) (Some n) h = grind (arith, nat_tests)

through : (s t u : Option ℕ) → is_no_later s t ≡ true → is_no_later t u ≡ true → is_no_later s u ≡ true
through None t u one two = refl
through (Some m) None u one two = cc
through (Some m) (Some n) None one two = cc
through (Some m) (Some n) (Some k) one two = grind (arith, nat_tests)

-- that can't be asked, or was asked no earlier than then
abbrev pub is_behind : ℕ → Option ℕ → Candidate → Bool
is_behind now t q = not (can_be_asked now q) || is_no_later t q.asked_at

behind_earlier : (now : ℕ) (s t : Option ℕ) (cs : List Candidate) → is_no_later s t ≡ true → list_all (is_behind now t) cs ≡ true → list_all (is_behind now s) cs ≡ true
behind_earlier now s t [] one all = refl
behind_earlier now s t (q ∷ cs) one all =
    let both = and_true (is_behind now t q) (list_all (is_behind now t) cs) all in
    and_both (is_behind now s q) (list_all (is_behind now s) cs) (by (can_be_asked now q) both.0) (behind_earlier now s t cs one both.1)
  where
    by : (b : Bool) → (not b || is_no_later t q.asked_at) ≡ true → (not b || is_no_later s q.asked_at) ≡ true
    by false h = refl
    by true h = through s t q.asked_at one h

-- none of them can be asked
abbrev none_can : ℕ → List Candidate → Bool
none_can now cs = list_all (λ q. not (can_be_asked now q)) cs

none_behind : (now : ℕ) (t : Option ℕ) (cs : List Candidate) → none_can now cs ≡ true → list_all (is_behind now t) cs ≡ true
none_behind now t [] none = refl
none_behind now t (q ∷ cs) none =
    let both = and_true (not (can_be_asked now q)) (none_can now cs) none in
    and_both (is_behind now t q) (list_all (is_behind now t) cs) (by (can_be_asked now q) both.0) (none_behind now t cs both.1)
  where
    by : (b : Bool) → not b ≡ true → (not b || is_no_later t q.asked_at) ≡ true
    by false h = refl
    by true h = cc

-- the peer at this place is first
abbrev HasFirst : ℕ → List Candidate → Type 0
HasFirst now cs = (i : ℕ) × (d : Candidate) × (slice_get cs i ≡ Some d) × (can_be_asked now d ≡ true) × (list_all (is_behind now d.asked_at) cs ≡ true)

first_or_none : (now : ℕ) (cs : List Candidate) → (none_can now cs ≡ true) ⊎ HasFirst now cs
first_or_none now [] = inl refl
first_or_none now (x ∷ cs) = by (can_be_asked now x) refl (first_or_none now cs)
  where
    behind : (t : Option ℕ) (b : Bool) → can_be_asked now x ≡ b → (not b || is_no_later t x.asked_at) ≡ true → is_behind now t x ≡ true
    behind t b is h = ap (λ (v : Bool). not v || is_no_later t x.asked_at) is ∙ h

    by : (b : Bool) → can_be_asked now x ≡ b → (none_can now cs ≡ true) ⊎ HasFirst now cs → (none_can now (x ∷ cs) ≡ true) ⊎ HasFirst now (x ∷ cs)
    by false cannot (inl none) = inl (and_both (not (can_be_asked now x)) (none_can now cs) (ap not cannot) none)
    by false cannot (inr (i, d, found, can, all)) = inr (suc i, d, found, can, and_both (is_behind now d.asked_at x) (list_all (is_behind now d.asked_at) cs) (behind d.asked_at false cannot refl) all)
    by true can (inl none) = inr (zero, x, refl, can, and_both (is_behind now x.asked_at x) (list_all (is_behind now x.asked_at) cs) (behind x.asked_at true can (itself x.asked_at)) (none_behind now x.asked_at cs none))
    by true can (inr (i, d, found, can_too, all)) = earlier (is_no_later x.asked_at d.asked_at) refl
      where
        earlier : (b : Bool) → is_no_later x.asked_at d.asked_at ≡ b → (none_can now (x ∷ cs) ≡ true) ⊎ HasFirst now (x ∷ cs)
        earlier true is = inr (zero, x, refl, can, and_both (is_behind now x.asked_at x) (list_all (is_behind now x.asked_at) cs) (behind x.asked_at true can (itself x.asked_at)) (behind_earlier now x.asked_at d.asked_at cs is all))
        earlier false is = inr (suc i, d, found, can_too, and_both (is_behind now d.asked_at x) (list_all (is_behind now d.asked_at) cs) (behind d.asked_at true can (one_of_both x.asked_at d.asked_at is)) all)

pub exists_next : (now peer : ℕ) (a : AskingState) (c : Candidate) → a.taught ≡ false → a.awaited ≡ None → slice_get a.peers peer ≡ Some c → can_be_asked now c ≡ true → (next : ℕ) × (is_next next now a ≡ true)
exists_next now peer a c behind none found can = by (first_or_none now a.peers)
  where
    by : (none_can now a.peers ≡ true) ⊎ HasFirst now a.peers → (next : ℕ) × (is_next next now a ≡ true)
    by (inl nobody) = absurd (false≢true (ap not (sym can) ∙ passes (λ q. not (can_be_asked now q)) a.peers peer c nobody found))
    by (inr (i, d, there, can_too, all)) = (i, and_both (not a.taught) (is_none a.awaited && is_first now a.peers (slice_get a.peers i)) (ap not behind) (and_both (is_none a.awaited) (is_first now a.peers (slice_get a.peers i)) (ap is_none none) (ap (is_first now a.peers) there ∙ and_both (can_be_asked now d) (list_all (is_behind now d.asked_at) a.peers) can_too all)))

-- ---- a peer is changed

pub it_changes : (f : Candidate → Candidate) (cs : List Candidate) (i : ℕ) (c : Candidate) → slice_get cs i ≡ Some c → slice_get (changed f i cs) i ≡ Some (f c)
it_changes f [] i c found = cc
it_changes f (d ∷ cs) zero c found = cc
it_changes f (d ∷ cs) (suc i) c found = it_changes f cs i c found

pub others_stay : (f : Candidate → Candidate) (cs : List Candidate) (i j : ℕ) → (i ≡ j → ⊥) → slice_get (changed f i cs) j ≡ slice_get cs j
others_stay f [] i j apart = refl
others_stay f (d ∷ cs) zero zero apart = absurd (apart refl)
others_stay f (d ∷ cs) zero (suc j) apart = refl
others_stay f (d ∷ cs) (suc i) zero apart = refl
others_stay f (d ∷ cs) (suc i) (suc j) apart = others_stay f cs i j (λ same. apart (ap suc same))

-- how many were asked no later than then
abbrev pub ahead : Option ℕ → List Candidate → ℕ
ahead t [] = zero
ahead t (c ∷ cs) = cond (is_no_later c.asked_at t) (suc (ahead t cs)) (ahead t cs)

pub ahead_fits : (t : Option ℕ) (cs : List Candidate) → ahead t cs ≤ length cs
ahead_fits t [] = omega arith
ahead_fits t (c ∷ cs) = by (is_no_later c.asked_at t) (ahead_fits t cs)
  where
    by : (b : Bool) → ahead t cs ≤ length cs → cond b (suc (ahead t cs)) (ahead t cs) ≤ suc (length cs)
    by true h = omega (arith, h)
    by false h = omega (arith, h)

pub one_ahead : (t : Option ℕ) (cs : List Candidate) (i : ℕ) (c : Candidate) → slice_get cs i ≡ Some c → is_no_later c.asked_at t ≡ true → 1 ≤ ahead t cs
one_ahead t [] i c found is = cc
one_ahead t (d ∷ cs) zero c found is = subst (λ (b : Bool). 1 ≤ cond b (suc (ahead t cs)) (ahead t cs)) (sym (subst (λ (x : Candidate). is_no_later x.asked_at t ≡ true) (sym (some_same found)) is)) (omega arith)
  where
    some_same : Some d ≡ Some c → d ≡ c
    some_same found = cc
one_ahead t (d ∷ cs) (suc i) c found is = by (is_no_later d.asked_at t) (one_ahead t cs i c found is)
  where
    by : (b : Bool) → 1 ≤ ahead t cs → 1 ≤ cond b (suc (ahead t cs)) (ahead t cs)
    by true h = omega (arith, h)
    by false h = h

pub fewer_ahead : (t : Option ℕ) (f : Candidate → Candidate) (cs : List Candidate) (i : ℕ) (c : Candidate) → slice_get cs i ≡ Some c → is_no_later c.asked_at t ≡ true → is_no_later (Candidate.asked_at (f c)) t ≡ false → ahead t cs ≡ suc (ahead t (changed f i cs))
fewer_ahead t f [] i c found before later = cc
fewer_ahead t f (d ∷ cs) zero c found before later =
    ap (λ (b : Bool). cond b (suc (ahead t cs)) (ahead t cs)) (subst (λ (x : Candidate). is_no_later x.asked_at t ≡ true) (sym (some_same found)) before)
    ∙ ap suc (sym (ap (λ (b : Bool). cond b (suc (ahead t cs)) (ahead t cs)) (subst (λ (x : Candidate). is_no_later (Candidate.asked_at (f x)) t ≡ false) (sym (some_same found)) later)))
  where
    some_same : Some d ≡ Some c → d ≡ c
    some_same found = cc
fewer_ahead t f (d ∷ cs) (suc i) c found before later = by (is_no_later d.asked_at t) (fewer_ahead t f cs i c found before later)
  where
    by : (b : Bool) → ahead t cs ≡ suc (ahead t (changed f i cs)) → cond b (suc (ahead t cs)) (ahead t cs) ≡ suc (cond b (suc (ahead t (changed f i cs))) (ahead t (changed f i cs)))
    by true h = ap suc h
    by false h = h

as_many_ahead : (t : Option ℕ) (s : Standing) (cs : List Candidate) (i : ℕ) → ahead t (changed (λ p. record p { standing = s }) i cs) ≡ ahead t cs
as_many_ahead t s [] i = refl
as_many_ahead t s (d ∷ cs) zero = refl
as_many_ahead t s (d ∷ cs) (suc i) = by (is_no_later d.asked_at t) (as_many_ahead t s cs i)
  where
    by : (b : Bool) → ahead t (changed (λ p. record p { standing = s }) i cs) ≡ ahead t cs → cond b (suc (ahead t (changed (λ p. record p { standing = s }) i cs))) (ahead t (changed (λ p. record p { standing = s }) i cs)) ≡ cond b (suc (ahead t cs)) (ahead t cs)
    by true h = ap suc h
    by false h = h

-- ---- a round

-- a peer that is asked
abbrev pub made_asked : ℕ → Candidate → Candidate
made_asked now p = record { standing = standings.Asked; asked_at = Some now; since = Some now }

pub next_given : (q now : ℕ) (a : AskingState) → is_next q now a ≡ true → (a.taught ≡ false) × (d : Candidate) × (slice_get a.peers q ≡ Some d) × (list_all (is_behind now d.asked_at) a.peers ≡ true)
next_given q now a next =
    let both = and_true (not a.taught) (is_none a.awaited && is_first now a.peers (slice_get a.peers q)) next in
    let given = first (slice_get a.peers q) (and_true (is_none a.awaited) (is_first now a.peers (slice_get a.peers q)) both.1).1 in
    (by a.taught both.0, given.0, given.1, given.2)
  where
    by : (b : Bool) → not b ≡ true → b ≡ false
    by true h = cc
    by false h = refl

    first : (o : Option Candidate) → is_first now a.peers o ≡ true → (d : Candidate) × (o ≡ Some d) × (list_all (is_behind now d.asked_at) a.peers ≡ true)
    first None h = cc
    first (Some d) h = (d, refl, (and_true (can_be_asked now d) (list_all (is_behind now d.asked_at) a.peers) h).1)

-- a peer that was asked owes an answer
owes_then : (q now : ℕ) (a : AskingState) (d : Candidate) → slice_get a.peers q ≡ Some d → owes (slice_get (asked q now a).peers q) ≡ true
owes_then q now a d found = ap owes (it_changes (made_asked now) a.peers q d found)

answered_get : (answer : Answer) (q later j : ℕ) (a : AskingState) → (q ≡ j → ⊥) → slice_get (answered answer q later a).peers j ≡ slice_get a.peers j
answered_get Finished q later j a apart = by (owes (slice_get a.peers q))
  where
    by : (b : Bool) → slice_get (AskingState.peers (cond b (record a { taught = true; awaited = None }) a)) j ≡ slice_get a.peers j
    by true = refl
    by false = refl
answered_get (Partial lacks) q later j a apart = by (owes (slice_get a.peers q))
  where
    by : (b : Bool) → slice_get (AskingState.peers (cond b (record (stood standings.Partial q a) { incomplete = a.incomplete || lacks }) a)) j ≡ slice_get a.peers j
    by true = others_stay (λ p. record p { standing = standings.Partial }) a.peers q j apart
    by false = refl
answered_get Incomplete q later j a apart = by (owes (slice_get a.peers q))
  where
    by : (b : Bool) → slice_get (AskingState.peers (cond b (record (stood standings.Incomplete q a) { incomplete = true }) a)) j ≡ slice_get a.peers j
    by true = others_stay (λ p. record p { standing = standings.Incomplete }) a.peers q j apart
    by false = refl
answered_get Nothing q later j a apart = refl

answered_ahead : (answer : Answer) (q later : ℕ) (t : Option ℕ) (a : AskingState) → ahead t (answered answer q later a).peers ≡ ahead t a.peers
answered_ahead Finished q later t a = by (owes (slice_get a.peers q))
  where
    by : (b : Bool) → ahead t (AskingState.peers (cond b (record a { taught = true; awaited = None }) a)) ≡ ahead t a.peers
    by true = refl
    by false = refl
answered_ahead (Partial lacks) q later t a = by (owes (slice_get a.peers q))
  where
    by : (b : Bool) → ahead t (AskingState.peers (cond b (record (stood standings.Partial q a) { incomplete = a.incomplete || lacks }) a)) ≡ ahead t a.peers
    by true = as_many_ahead t standings.Partial a.peers q
    by false = refl
answered_ahead Incomplete q later t a = by (owes (slice_get a.peers q))
  where
    by : (b : Bool) → ahead t (AskingState.peers (cond b (record (stood standings.Incomplete q a) { incomplete = true }) a)) ≡ ahead t a.peers
    by true = as_many_ahead t standings.Incomplete a.peers q
    by false = refl
answered_ahead Nothing q later t a = refl

answered_none : (answer : Answer) (q now : ℕ) (a : AskingState) (d : Candidate) → slice_get a.peers q ≡ Some d → (answered answer q (now + 5000) (asked q now a)).awaited ≡ None
answered_none Finished q now a d found = ap (λ (b : Bool). AskingState.awaited (cond b (record (asked q now a) { taught = true; awaited = None }) (asked q now a))) (owes_then q now a d found)
answered_none (Partial lacks) q now a d found = ap (λ (b : Bool). AskingState.awaited (cond b (record (stood standings.Partial q (asked q now a)) { incomplete = a.incomplete || lacks }) (asked q now a))) (owes_then q now a d found)
    ∙ ap (λ (b : Bool). cond b None (Some (record { peer = q; asked_at = now; since = now }))) (eq-eqb q q refl)
answered_none Incomplete q now a d found = ap (λ (b : Bool). AskingState.awaited (cond b (record (stood standings.Incomplete q (asked q now a)) { incomplete = true }) (asked q now a))) (owes_then q now a d found)
    ∙ ap (λ (b : Bool). cond b None (Some (record { peer = q; asked_at = now; since = now }))) (eq-eqb q q refl)
answered_none Nothing q now a d found = ap (λ (b : Bool). cond (b || nat_le 600000 (now + 5000 - now)) None (Some (record { peer = q; asked_at = now; since = now }))) (le-leb 5000 (now + 5000 - now) (omega arith))

finishes : (answer : Answer) (q later now : ℕ) (a : AskingState) (d : Candidate) → answer ≡ Finished → slice_get a.peers q ≡ Some d → (answered answer q later (asked q now a)).taught ≡ true
finishes Finished q later now a d is found = ap (λ (b : Bool). AskingState.taught (cond b (record (asked q now a) { taught = true; awaited = None }) (asked q now a))) (owes_then q now a d found)
finishes (Partial lacks) q later now a d is found = cc
finishes Incomplete q later now a d is found = cc
finishes Nothing q later now a d is found = cc

over : (answers : ℕ → Answer) (now : ℕ) (ps : List ℕ) (a e : AskingState) → a.taught ≡ true → Rounds answers now ps a e → (length ps ≡ 0) × (e.taught ≡ true)
over answers now [] a e done is = (refl, ap AskingState.taught is ∙ done)
over answers now (q ∷ ps) a e done (next, rest) = absurd (false≢true (sym (next_given q now a next).0 ∙ done))

-- ---- later

rested_later : (now : ℕ) (t : Option ℕ) → is_rested now t ≡ true → is_rested (now + 5000) t ≡ true
rested_later now None h = refl
rested_later now (Some n) h = grind (arith, nat_tests)

overdue_later : (now : ℕ) (t : Option ℕ) → is_overdue now t ≡ true → is_overdue (now + 5000) t ≡ true
overdue_later now None h = refl
overdue_later now (Some n) h = grind (arith, nat_tests)

one_of_two : (a b c d : Bool) → (a ≡ true → c ≡ true) → (b ≡ true → d ≡ true) → (a || b) ≡ true → (c || d) ≡ true
one_of_two true b true d one other h = refl
one_of_two true b false d one other h = absurd (false≢true (one refl))
one_of_two false b true d one other h = refl
one_of_two false b false d one other h = other h

ready_later : (now : ℕ) (s t : Option ℕ) → (is_rested now s || is_overdue now t) ≡ true → (is_rested (now + 5000) s || is_overdue (now + 5000) t) ≡ true
ready_later now s t h = one_of_two (is_rested now s) (is_overdue now t) (is_rested (now + 5000) s) (is_overdue (now + 5000) t) (rested_later now s) (overdue_later now t) h

due_later : (s : Standing) (now : ℕ) (since t : Option ℕ) → is_due s (is_rested now since || is_overdue now t) ≡ true → is_due s (is_rested (now + 5000) since || is_overdue (now + 5000) t) ≡ true
due_later standings.Away now since t h = cc
due_later standings.Unasked now since t h = refl
due_later standings.Asked now since t h = ready_later now since t h
due_later standings.Partial now since t h = ready_later now since t h
due_later standings.Incomplete now since t h = cc

before_later : (now : ℕ) (t : Option ℕ) → was_before now t ≡ true → was_before (now + 5000) t ≡ true
before_later now None h = refl
before_later now (Some n) h = grind (arith, nat_tests)

pub is_later : (now : ℕ) (t : Option ℕ) → was_before now t ≡ true → is_no_later (Some now) t ≡ false
is_later now None h = refl
is_later now (Some n) h = grind (arith, nat_tests)

-- ---- rounds

-- a peer that isn't asked in a round can still be asked after it
can_still : (answers : ℕ → Answer) (peer q now : ℕ) (a : AskingState) (c : Candidate) → (q ≡ peer → ⊥) → slice_get a.peers peer ≡ Some c → can_be_asked now c ≡ true → was_before now c.asked_at ≡ true → (slice_get (answered (answers q) q (now + 5000) (asked q now a)).peers peer ≡ Some c) × (can_be_asked (now + 5000) c ≡ true) × (was_before (now + 5000) c.asked_at ≡ true)
can_still answers peer q now a c apart found can before =
    (answered_get (answers q) q (now + 5000) peer (asked q now a) apart ∙ others_stay (made_asked now) a.peers q peer apart ∙ found, due_later c.standing now c.since c.asked_at can, before_later now c.asked_at before)

-- a peer that is next was asked no later than one that can be asked
pub no_later_than : (now peer : ℕ) (cs : List Candidate) (c d : Candidate) → list_all (is_behind now d.asked_at) cs ≡ true → slice_get cs peer ≡ Some c → can_be_asked now c ≡ true → is_no_later d.asked_at c.asked_at ≡ true
no_later_than now peer cs c d all found can = by (can_be_asked now c) can (passes (is_behind now d.asked_at) cs peer c all found)
  where
    by : (b : Bool) → b ≡ true → (not b || is_no_later d.asked_at c.asked_at) ≡ true → is_no_later d.asked_at c.asked_at ≡ true
    by true is h = h
    by false is h = cc

rounds_ahead : (answers : ℕ → Answer) (peer now : ℕ) (ps : List ℕ) (a e : AskingState) (c : Candidate) → slice_get a.peers peer ≡ Some c → can_be_asked now c ≡ true → was_before now c.asked_at ≡ true → answers peer ≡ Finished → Rounds answers now ps a e → length ps ≤ ahead c.asked_at a.peers
rounds_ahead answers peer now [] a e c found can before finish rounds = omega arith
rounds_ahead answers peer now (q ∷ ps) a e c found can before finish (next, rest) =
    let given = next_given q now a next in
    elim (cases_eq q peer) [
      | inl same ↦
          let done = finishes (answers q) q (now + 5000) now a given.1 (ap answers same ∙ finish) given.2 in
          let none = (over answers (now + 5000) ps (answered (answers q) q (now + 5000) (asked q now a)) e done rest).0 in
          omega (arith, none, one_ahead c.asked_at a.peers peer c found (itself c.asked_at))
      | inr apart ↦
          let still = can_still answers peer q now a c apart found can before in
          let later = rounds_ahead answers peer (now + 5000) ps (answered (answers q) q (now + 5000) (asked q now a)) e c still.0 still.1 still.2 finish rest in
          let less = fewer_ahead c.asked_at (made_asked now) a.peers q given.1 given.2 (no_later_than now peer a.peers c given.1 given.3 found can) (is_later now c.asked_at before) in
          omega (arith, later, less, answered_ahead (answers q) q (now + 5000) c.asked_at (asked q now a))
    ]

pub rounds_fit : (answers : ℕ → Answer) (peer now : ℕ) (ps : List ℕ) (a e : AskingState) → CanBeAsked peer now a → answers peer ≡ Finished → Rounds answers now ps a e → length ps ≤ length a.peers
rounds_fit answers peer now ps a e (c, found, can, before) finish rounds = omega (arith, rounds_ahead answers peer now ps a e c found can before finish rounds, ahead_fits c.asked_at a.peers)

next_time : (now n : ℕ) → now + 5000 + 5000 * n ≡ now + 5000 * suc n
next_time now n = omega arith

pub goes_on : (answers : ℕ → Answer) (peer now : ℕ) (ps : List ℕ) (a e : AskingState) → a.awaited ≡ None → CanBeAsked peer now a → answers peer ≡ Finished → Rounds answers now ps a e → (e.taught ≡ true) ⊎ ((next : ℕ) × (is_next next (now + 5000 * length ps) e ≡ true))
goes_on answers peer now [] a e none (c, found, can, before) finish rounds = by a.taught refl
  where
    by : (b : Bool) → a.taught ≡ b → (e.taught ≡ true) ⊎ ((next : ℕ) × (is_next next (now + 5000 * 0) e ≡ true))
    by true done = inl (ap AskingState.taught rounds ∙ done)
    by false behind =
        let next = exists_next now peer a c behind none found can in
        inr (next.0, subst (λ (s : AskingState). is_next next.0 (now + 5000 * 0) s ≡ true) (sym rounds) (subst (λ (m : ℕ). is_next next.0 m a ≡ true) (same_time now) next.1))
      where
        same_time : (now : ℕ) → now ≡ now + 5000 * 0
        same_time now = omega arith
goes_on answers peer now (q ∷ ps) a e none (c, found, can, before) finish (next, rest) =
    let given = next_given q now a next in
    let still : (q ≡ peer → ⊥) → CanBeAsked peer (now + 5000) (answered (answers q) q (now + 5000) (asked q now a)) = λ apart.
    let kept = can_still answers peer q now a c apart found can before in (c, kept.0, kept.1, kept.2) in
    elim (cases_eq q peer) [
      | inl same ↦ inl (over answers (now + 5000) ps (answered (answers q) q (now + 5000) (asked q now a)) e (finishes (answers q) q (now + 5000) now a given.1 (ap answers same ∙ finish) given.2) rest).1
      | inr apart ↦ elim (goes_on answers peer (now + 5000) ps (answered (answers q) q (now + 5000) (asked q now a)) e (answered_none (answers q) q now a given.1 given.2) (still apart) finish rest) [
        | inl done ↦ inl done
        | inr (x, is) ↦ inr (x, subst (λ (m : ℕ). is_next x m e ≡ true) (next_time now (length ps)) is)
      ]
    ]

-- ---- a peer that brings rows

not_rested : (now later : ℕ) → later < now + 60000 → is_rested later (Some now) ≡ false
not_rested now later soon = grind (arith, nat_tests)

asked_due : (s : Standing) (rested : Bool) → is_asked s ≡ true → rested ≡ false → is_due s rested ≡ false
asked_due standings.Asked rested owes h = h
asked_due standings.Away rested owes h = cc
asked_due standings.Unasked rested owes h = cc
asked_due standings.Partial rested owes h = cc
asked_due standings.Incomplete rested owes h = cc

neither : (a b : Bool) → a ≡ false → b ≡ false → (a || b) ≡ false
neither true b one other = cc
neither false b one other = other

not_due : (c : Candidate) (now later : ℕ) → is_asked c.standing ≡ true → is_overdue later c.asked_at ≡ false → later < now + 60000 → can_be_asked later (brought now c) ≡ false
not_due c now later owes due soon = rw owes (asked_due c.standing (is_rested later (Some now) || is_overdue later c.asked_at) owes (neither (is_rested later (Some now)) (is_overdue later c.asked_at) (not_rested now later soon) due))

nobody_first : (now : ℕ) (peers : List Candidate) (o : Option Candidate) (p : Candidate) → o ≡ Some p → can_be_asked now p ≡ false → is_first now peers o ≡ false
nobody_first now peers None p is away = cc
nobody_first now peers (Some q) p is away = by (can_be_asked now q) (ap (can_be_asked now) (some_same is) ∙ away)
  where
    some_same : Some q ≡ Some p → q ≡ p
    some_same is = cc

    by : (b : Bool) → b ≡ false → (b && list_all (λ r. not (can_be_asked now r) || is_no_later q.asked_at r.asked_at) peers) ≡ false
    by true h = cc
    by false h = refl

none_is_next : (up none first : Bool) → first ≡ false → (not up && (none && first)) ≡ false
none_is_next true none first h = refl
none_is_next false true first h = h
none_is_next false false first h = refl

pub not_asked_meanwhile : (a : AskingState) (c : Candidate) (peer now later : ℕ) → slice_get a.peers peer ≡ Some c → is_asked c.standing ≡ true → is_overdue later c.asked_at ≡ false → later < now + 60000 → is_next peer later (heard peer now a) ≡ false
not_asked_meanwhile a c peer now later found asked due soon =
    let peers = changed (brought now) peer a.peers in
    none_is_next a.taught (is_none (heard peer now a).awaited) (is_first later peers (slice_get peers peer))
    (nobody_first later peers (slice_get peers peer) (brought now c) (it_changes (brought now) a.peers peer c found) (not_due c now later asked due soon))
