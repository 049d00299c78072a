-- A peer whose session stands is asked in time, whatever happens.
use Rattle.std.proofs.Common.{◌≡◌, ℕ, zero, suc, ◌+◌, ◌-◌, ◌*◌, ◌≤◌, ◌<◌, Bool, true, false, not, ◌&&◌, ◌==◌, cond, List, [], ◌∷◌, length, Option, Some, None, ◌⊎◌, inl, inr, refl, sym, ap, ◌∙◌, subst, arith}
use Rattle.std.specs.Prelude.{◌||◌, max, nat_le, option_map, slice_get}
use Rattle.std.specs.List.{list_all, list_any}
use Rattle.std.proofs.lemmas.Bool.{cases_Bool, cases_eq, cases_lt, eq-eqb, false≢true, le-leb, leb-true, leb-false, ltb-true, ne_eqb}
use Rattle.std.proofs.Math.Nat.{le-max_left, le-max_right, max-le}
use Rattle.node_core.specs.declared.asking.Standing.{Standing}
use Rattle.node_core.specs.declared.asking.Standing.TheVariants as standings
use Rattle.node_core.specs.declared.asking.Candidate.{Candidate}
use Rattle.node_core.specs.declared.asking.Awaited.{Awaited}
use Rattle.node_core.specs.CatchingUp.{AskingState, asked, brought, changed, heard_from, is_mute, is_next, is_no_later, is_over, is_overdue, is_settled, lapsed, owes, still_awaited, stood, unless_it}
use Rattle.node_core.specs.AskingRuns.{Happening, Begins, Ends, Asks, Brings, Finishes, FinishesPartly, FinishesIncompletely, Passes, WasAskedSince, WasLastAsked, after, after_all, after_seconds, are_timely, asked_by, asks_none_after, asks_none_before, is_asked_before, is_end_of, is_timely, looked, was_before}
use Rattle.node_core.proofs.Waiting.{Are, Leaves, nobody_next, passes_fresh, second_false, step_are}
use Rattle.node_core.proofs.Rounds.{ahead, ahead_fits, and_true, exists_next, fewer_ahead, is_later, it_changes, itself, made_asked, next_given, no_later_than, one_ahead, others_stay}
use Rattle.node_core.proofs.Turns.{KeepsTime, Stands, as_many, other_stands, overdue_before, overdue_can, overdue_later, step_stands, time_brought}

-- ---- what stays so

keep_up : (h : Happening) (a : AskingState) → a.taught ≡ true → (after h a).taught ≡ true
keep_up (Begins peer) a up = up
keep_up (Ends peer) a up = up
keep_up (Asks peer now) a up = by (is_next peer now a)
  where
    by : (b : Bool) → AskingState.taught (cond b (asked peer now a) a) ≡ true
    by true = up
    by false = up
keep_up (Brings peer now) a up = up
keep_up (Finishes peer) a up = by (owes (slice_get a.peers peer))
  where
    by : (b : Bool) → AskingState.taught (cond b (record a { taught = true; awaited = None }) a) ≡ true
    by true = refl
    by false = up
keep_up (FinishesPartly peer lacks) a up = by (owes (slice_get a.peers peer))
  where
    by : (b : Bool) → AskingState.taught (cond b (record (stood standings.Partial peer a) { incomplete = a.incomplete || lacks }) a) ≡ true
    by true = up
    by false = up
keep_up (FinishesIncompletely peer) a up = by (owes (slice_get a.peers peer))
  where
    by : (b : Bool) → AskingState.taught (cond b (record (stood standings.Incomplete peer a) { incomplete = true }) a) ≡ true
    by true = up
    by false = up
keep_up (Passes now) a up = by (is_settled now (lapsed now a))
  where
    by : (b : Bool) → AskingState.taught (cond b (record (lapsed now a) { settled = true }) (lapsed now a)) ≡ true
    by true = up
    by false = up

-- the peer was asked at this moment or later
abbrev Since : ℕ → ℕ → List Candidate → Type 0
Since peer now cs = (c : Candidate) × (when : ℕ) × (slice_get cs peer ≡ Some c) × (c.asked_at ≡ Some when) × (now ≤ when)

since_still : (f : Candidate → Candidate) (cs : List Candidate) (peer other now : ℕ) → KeepsTime f → Since peer now cs → Since peer now (changed f other cs)
since_still f cs peer other now keeps (c, when, found, is, late) = elim (cases_eq other peer) [
  | inl same ↦ (f c, when, subst (λ (i : ℕ). slice_get (changed f i cs) peer ≡ Some (f c)) (sym same) (it_changes f cs peer c found), keeps c ∙ is, late)
  | inr apart ↦ (c, when, others_stay f cs other peer apart ∙ found, is, late)
]

step_since : (peer now : ℕ) (h : Happening) (a : AskingState) → asks_none_before now h ≡ true → Since peer now a.peers → Since peer now (after h a).peers
step_since peer now (Begins other) a times since = since_still (λ p. record p { standing = standings.Unasked }) a.peers peer other now (λ c. refl) since
step_since peer now (Ends other) a times since = since_still (λ p. record p { standing = standings.Away }) a.peers peer other now (λ c. refl) since
step_since peer now (Asks other when) a times (c, before, found, is, late) = by (is_next other when a)
  where
    by : (b : Bool) → Since peer now (AskingState.peers (cond b (asked other when a) a))
    by false = (c, before, found, is, late)
    by true = elim (cases_eq other peer) [
      | inl same ↦ (made_asked when c, when, subst (λ (i : ℕ). slice_get (changed (made_asked when) i a.peers) peer ≡ Some (made_asked when c)) (sym same) (it_changes (made_asked when) a.peers peer c found), refl, leb-true now when times)
      | inr apart ↦ (c, before, others_stay (made_asked when) a.peers other peer apart ∙ found, is, late)
    ]
step_since peer now (Brings other when) a times since = since_still (brought when) a.peers peer other now (time_brought when) since
step_since peer now (Finishes other) a times since = by (owes (slice_get a.peers other))
  where
    by : (b : Bool) → Since peer now (AskingState.peers (cond b (record a { taught = true; awaited = None }) a))
    by true = since
    by false = since
step_since peer now (FinishesPartly other lacks) a times since = by (owes (slice_get a.peers other))
  where
    by : (b : Bool) → Since peer now (AskingState.peers (cond b (record (stood standings.Partial other a) { incomplete = a.incomplete || lacks }) a))
    by true = since_still (λ p. record p { standing = standings.Partial }) a.peers peer other now (λ c. refl) since
    by false = since
step_since peer now (FinishesIncompletely other) a times since = by (owes (slice_get a.peers other))
  where
    by : (b : Bool) → Since peer now (AskingState.peers (cond b (record (stood standings.Incomplete other a) { incomplete = true }) a))
    by true = since_still (λ p. record p { standing = standings.Incomplete }) a.peers peer other now (λ c. refl) since
    by false = since
step_since peer now (Passes when) a times since = by (is_settled when (lapsed when a))
  where
    by : (b : Bool) → Since peer now (AskingState.peers (cond b (record (lapsed when a) { settled = true }) (lapsed when a)))
    by true = since
    by false = since

-- the node is up to date, or the peer was asked
abbrev Done : ℕ → ℕ → AskingState → Type 0
Done peer now a = (a.taught ≡ true) ⊎ Since peer now a.peers

step_done : (peer now : ℕ) (h : Happening) (a : AskingState) → asks_none_before now h ≡ true → Done peer now a → Done peer now (after h a)
step_done peer now h a times (inl up) = inl (keep_up h a up)
step_done peer now h a times (inr since) = inr (step_since peer now h a times since)

earlier : (now t : ℕ) (h : Happening) → now ≤ t → asks_none_before t h ≡ true → asks_none_before now h ≡ true
earlier now t (Begins peer) order times = refl
earlier now t (Ends peer) order times = refl
earlier now t (Asks peer when) order times = le-leb now when (omega (arith, order, leb-true t when times))
earlier now t (Brings peer when) order times = refl
earlier now t (Finishes peer) order times = refl
earlier now t (FinishesPartly peer lacks) order times = refl
earlier now t (FinishesIncompletely peer) order times = refl
earlier now t (Passes when) order times = refl

not_true : (b : Bool) → not b ≡ true → b ≡ false
not_true true h = cc
not_true false h = refl

timely_parts : (peer t : ℕ) (h : Happening) → is_timely peer t h ≡ true → (is_end_of peer h ≡ false) × (asks_none_before t h ≡ true) × (asks_none_after (t + 1000) h ≡ true)
timely_parts peer t h is =
    let one = and_true (not (is_end_of peer h)) (asks_none_before t h && asks_none_after (t + 1000) h) is in
    let two = and_true (asks_none_before t h) (asks_none_after (t + 1000) h) one.1 in
    (not_true (is_end_of peer h) one.0, two.0, two.1)

run_done : (peer now t : ℕ) (hs : List Happening) (a : AskingState) → now ≤ t → list_all (is_timely peer t) hs ≡ true → Done peer now a → Done peer now (after_all hs a)
run_done peer now t [] a order times done = done
run_done peer now t (h ∷ hs) a order times done =
    let both = and_true (is_timely peer t h) (list_all (is_timely peer t) hs) times in
    run_done peer now t hs (after h a) order both.1 (step_done peer now h a (earlier now t h order (timely_parts peer t h both.0).1) done)

asks_done : (peer now t n : ℕ) (a : AskingState) → now ≤ t → Done peer now (after (Passes t) a) → Done peer now (looked t n a)
asks_done peer now t zero a order done = done
asks_done peer now t (suc n) a order done = step_done peer now (Asks n t) (looked t n a) (le-leb now t order) (asks_done peer now t n a order done)

looked_done : (peer now t n : ℕ) (a : AskingState) → now ≤ t → Done peer now a → Done peer now (looked t n a)
looked_done peer now t n a order done = asks_done peer now t n a order (step_done peer now (Passes t) a refl done)

later_still : (now t : ℕ) → now ≤ t → now ≤ t + 1000
later_still now t order = omega (arith, order)

seconds_done : (peer now t : ℕ) (seconds : List (List Happening)) (a : AskingState) → now ≤ t → are_timely peer t seconds ≡ true → Done peer now a → Done peer now (after_seconds t seconds a)
seconds_done peer now t [] a order times done = done
seconds_done peer now t (hs ∷ more) a order times done =
    let both = and_true (list_all (is_timely peer t) hs) (are_timely peer (t + 1000) more) times in
    seconds_done peer now (t + 1000) more (looked (t + 1000) (length a.peers) (after_all hs a)) (later_still now t order) both.1
    (looked_done peer now (t + 1000) (length a.peers) (after_all hs a) (later_still now t order) (run_done peer now t hs a order both.0 done))

-- ---- whether it is asked

alone : (other peer : ℕ) → (other ≡ peer → ⊥) → list_any (λ q. q == peer) (other ∷ []) ≡ false
alone other peer apart = rw (ne_eqb other peer apart) refl

made_since : (peer now when : ℕ) (a : AskingState) → is_next peer when a ≡ true → now ≤ when → Since peer now (changed (made_asked when) peer a.peers)
made_since peer now when a next order =
    let given = next_given peer when a next in
    (made_asked when given.1, when, it_changes (made_asked when) a.peers peer given.1 given.2, refl, order)

asked_or_not : (peer now : ℕ) (h : Happening) (a : AskingState) → asks_none_before now h ≡ true → Since peer now (after h a).peers ⊎ (list_any (λ q. q == peer) (asked_by h a) ≡ false)
asked_or_not peer now (Begins other) a times = inr refl
asked_or_not peer now (Ends other) a times = inr refl
asked_or_not peer now (Asks other when) a times = by (is_next other when a) refl
  where
    by : (b : Bool) → is_next other when a ≡ b → Since peer now (AskingState.peers (cond b (asked other when a) a)) ⊎ (list_any (λ q. q == peer) (cond b (other ∷ []) []) ≡ false)
    by false next = inr refl
    by true next = elim (cases_eq other peer) [
      | inl same ↦ inl (subst (λ (i : ℕ). Since i now (changed (made_asked when) other a.peers)) same (made_since other now when a next (leb-true now when times)))
      | inr apart ↦ inr (alone other peer apart)
    ]
asked_or_not peer now (Brings other when) a times = inr refl
asked_or_not peer now (Finishes other) a times = inr refl
asked_or_not peer now (FinishesPartly other lacks) a times = inr refl
asked_or_not peer now (FinishesIncompletely other) a times = inr refl
asked_or_not peer now (Passes when) a times = inr refl

-- ---- how many peers there are

changed_length : (f : Candidate → Candidate) (i : ℕ) (cs : List Candidate) → length (changed f i cs) ≡ length cs
changed_length f i [] = refl
changed_length f zero (c ∷ cs) = refl
changed_length f (suc i) (c ∷ cs) = ap suc (changed_length f i cs)

step_length : (h : Happening) (a : AskingState) → length (after h a).peers ≡ length a.peers
step_length (Begins other) a = changed_length (λ p. record p { standing = standings.Unasked }) other a.peers
step_length (Ends other) a = changed_length (λ p. record p { standing = standings.Away }) other a.peers
step_length (Asks other when) a = by (is_next other when a)
  where
    by : (b : Bool) → length (AskingState.peers (cond b (asked other when a) a)) ≡ length a.peers
    by true = changed_length (made_asked when) other a.peers
    by false = refl
step_length (Brings other when) a = changed_length (brought when) other a.peers
step_length (Finishes other) a = by (owes (slice_get a.peers other))
  where
    by : (b : Bool) → length (AskingState.peers (cond b (record a { taught = true; awaited = None }) a)) ≡ length a.peers
    by true = refl
    by false = refl
step_length (FinishesPartly other lacks) a = by (owes (slice_get a.peers other))
  where
    by : (b : Bool) → length (AskingState.peers (cond b (record (stood standings.Partial other a) { incomplete = a.incomplete || lacks }) a)) ≡ length a.peers
    by true = changed_length (λ p. record p { standing = standings.Partial }) other a.peers
    by false = refl
step_length (FinishesIncompletely other) a = by (owes (slice_get a.peers other))
  where
    by : (b : Bool) → length (AskingState.peers (cond b (record (stood standings.Incomplete other a) { incomplete = true }) a)) ≡ length a.peers
    by true = changed_length (λ p. record p { standing = standings.Incomplete }) other a.peers
    by false = refl
step_length (Passes when) a = by (is_settled when (lapsed when a))
  where
    by : (b : Bool) → length (AskingState.peers (cond b (record (lapsed when a) { settled = true }) (lapsed when a))) ≡ length a.peers
    by true = refl
    by false = refl

run_length : (hs : List Happening) (a : AskingState) → length (after_all hs a).peers ≡ length a.peers
run_length [] a = refl
run_length (h ∷ hs) a = run_length hs (after h a) ∙ step_length h a

looked_length : (t n : ℕ) (a : AskingState) → length (looked t n a).peers ≡ length a.peers
looked_length t zero a = step_length (Passes t) a
looked_length t (suc n) a = step_length (Asks n t) (looked t n a) ∙ looked_length t n a

get_within : (cs : List Candidate) (i : ℕ) (c : Candidate) → slice_get cs i ≡ Some c → i < length cs
get_within [] i c found = cc
get_within (d ∷ cs) zero c found = omega arith
get_within (d ∷ cs) (suc i) c found = omega (arith, get_within cs i c found)

-- ---- what is left until it is asked

-- until when whoever is waited for is waited for at most, from this moment on
abbrev deadline : ℕ → Option Awaited → ℕ
deadline t None = t
deadline t (Some w) = max t (w.asked_at + 600000)

-- the time by which the peer is asked at the latest, and 601 s: for each peer that is asked no later than it, and for the one that is waited for
abbrev limit : ℕ → Option ℕ → AskingState → ℕ
limit t then a = 601000 * ahead then a.peers + deadline t a.awaited

same_le : (n : ℕ) → n ≤ n
same_le n = omega arith

through : (a b c : ℕ) → a ≤ b → b ≤ c → a ≤ c
through a b c one two = omega (arith, one, two)

at_least : (t : ℕ) (o : Option Awaited) → t ≤ deadline t o
at_least t None = same_le t
at_least t (Some w) = le-max_left t (w.asked_at + 600000)

unless_less : (t other : ℕ) (o : Option Awaited) → deadline t (unless_it other o) ≤ deadline t o
unless_less t other None = same_le t
unless_less t other (Some w) = by (w.peer == other)
  where
    by : (b : Bool) → deadline t (cond b None (Some w)) ≤ deadline t (Some w)
    by true = le-max_left t (w.asked_at + 600000)
    by false = same_le (max t (w.asked_at + 600000))

heard_less : (t other when : ℕ) (o : Option Awaited) → deadline t (option_map (heard_from other when) o) ≤ deadline t o
heard_less t other when None = same_le t
heard_less t other when (Some w) = by (w.peer == other)
  where
    by : (b : Bool) → deadline t (Some (cond b (record w { since = when }) w)) ≤ deadline t (Some w)
    by true = same_le (max t (w.asked_at + 600000))
    by false = same_le (max t (w.asked_at + 600000))

still_less : (t when : ℕ) (o : Option Awaited) → deadline t (still_awaited when o) ≤ deadline t o
still_less t when None = same_le t
still_less t when (Some w) = by (is_over when w)
  where
    by : (b : Bool) → deadline t (cond b None (Some w)) ≤ deadline t (Some w)
    by true = le-max_left t (w.asked_at + 600000)
    by false = same_le (max t (w.asked_at + 600000))

no_more : (k n d e : ℕ) → k ≡ n → d ≤ e → 601000 * k + d ≤ 601000 * n + e
no_more k n d e same less = omega (arith, same, less)

one_less : (k n d e t : ℕ) → n ≡ suc k → d ≤ t + 601000 → t ≤ e → 601000 * k + d ≤ 601000 * n + e
one_less k n d e t same late least = omega (arith, same, late, least)

asked_ahead : (peer t other when : ℕ) (then : Option ℕ) (a : AskingState) → is_next other when a ≡ true → is_overdue t then ≡ true → t ≤ when → Stands peer then a.peers → ahead then a.peers ≡ suc (ahead then (changed (made_asked when) other a.peers))
asked_ahead peer t other when then a next due order (c, found, there, was) =
    let given = next_given other when a next in
    let can = overdue_can when c there (ap (is_overdue when) was ∙ overdue_later t when then due order) in
    let before = subst (λ (s : Option ℕ). is_no_later (Candidate.asked_at given.1) s ≡ true) was (no_later_than when peer a.peers c given.1 given.3 found can) in
    fewer_ahead then (made_asked when) a.peers other given.1 given.2 before (is_later when then (overdue_before t when then due order))

step_limit : (peer t : ℕ) (then : Option ℕ) (h : Happening) (a : AskingState) → is_overdue t then ≡ true → asks_none_before t h ≡ true → asks_none_after (t + 1000) h ≡ true → Stands peer then a.peers → limit t then (after h a) ≤ limit t then a
step_limit peer t then (Begins other) a due from until stands = no_more _ _ _ _ (as_many then (λ p. record p { standing = standings.Unasked }) a.peers other (λ c. refl)) (unless_less t other a.awaited)
step_limit peer t then (Ends other) a due from until stands = no_more _ _ _ _ (as_many then (λ p. record p { standing = standings.Away }) a.peers other (λ c. refl)) (unless_less t other a.awaited)
step_limit peer t then (Asks other when) a due from until stands = by (is_next other when a) refl
  where
    late : max t (when + 600000) ≤ t + 601000
    late = max-le (omega arith) (omega (arith, leb-true when (t + 1000) until))

    by : (b : Bool) → is_next other when a ≡ b → limit t then (cond b (asked other when a) a) ≤ limit t then a
    by false next = same_le (limit t then a)
    by true next = one_less _ _ _ _ t (asked_ahead peer t other when then a next due (leb-true t when from) stands) late (at_least t a.awaited)
step_limit peer t then (Brings other when) a due from until stands = no_more _ _ _ _ (as_many then (brought when) a.peers other (time_brought when)) (heard_less t other when a.awaited)
step_limit peer t then (Finishes other) a due from until stands = by (owes (slice_get a.peers other))
  where
    by : (b : Bool) → limit t then (cond b (record a { taught = true; awaited = None }) a) ≤ limit t then a
    by true = no_more (ahead then a.peers) (ahead then a.peers) t (deadline t a.awaited) refl (at_least t a.awaited)
    by false = same_le (limit t then a)
step_limit peer t then (FinishesPartly other lacks) a due from until stands = by (owes (slice_get a.peers other))
  where
    by : (b : Bool) → limit t then (cond b (record (stood standings.Partial other a) { incomplete = a.incomplete || lacks }) a) ≤ limit t then a
    by true = no_more _ _ _ _ (as_many then (λ p. record p { standing = standings.Partial }) a.peers other (λ c. refl)) (unless_less t other a.awaited)
    by false = same_le (limit t then a)
step_limit peer t then (FinishesIncompletely other) a due from until stands = by (owes (slice_get a.peers other))
  where
    by : (b : Bool) → limit t then (cond b (record (stood standings.Incomplete other a) { incomplete = true }) a) ≤ limit t then a
    by true = no_more _ _ _ _ (as_many then (λ p. record p { standing = standings.Incomplete }) a.peers other (λ c. refl)) (unless_less t other a.awaited)
    by false = same_le (limit t then a)
step_limit peer t then (Passes when) a due from until stands = by (is_settled when (lapsed when a))
  where
    by : (b : Bool) → limit t then (cond b (record (lapsed when a) { settled = true }) (lapsed when a)) ≤ limit t then a
    by true = no_more (ahead then a.peers) (ahead then a.peers) (deadline t (still_awaited when a.awaited)) (deadline t a.awaited) refl (still_less t when a.awaited)
    by false = no_more (ahead then a.peers) (ahead then a.peers) (deadline t (still_awaited when a.awaited)) (deadline t a.awaited) refl (still_less t when a.awaited)

run_limit : (peer now t : ℕ) (then : Option ℕ) (hs : List Happening) (a : AskingState) → now ≤ t → is_overdue t then ≡ true → list_all (is_timely peer t) hs ≡ true → Stands peer then a.peers → Done peer now (after_all hs a) ⊎ (Stands peer then (after_all hs a).peers × (limit t then (after_all hs a) ≤ limit t then a))
run_limit peer now t then [] a order due times stands = inr (stands, same_le (limit t then a))
run_limit peer now t then (h ∷ hs) a order due times stands =
    let both = and_true (is_timely peer t h) (list_all (is_timely peer t) hs) times in
    let parts = timely_parts peer t h both.0 in
    elim (asked_or_not peer now h a (earlier now t h order parts.1)) [
      | inl since ↦ inl (run_done peer now t hs (after h a) order both.1 (inr since))
      | inr none ↦
          let less = step_limit peer t then h a due parts.1 parts.2 stands in
          elim (run_limit peer now t then hs (after h a) order due both.1 (step_stands peer then h a parts.0 none stands)) [
            | inl done ↦ inl done
            | inr (stood, more) ↦ inr (stood, through (limit t then (after_all hs (after h a))) (limit t then (after h a)) (limit t then a) more less)
          ]
    ]

-- ---- a look

abbrev Nobody : ℕ → ℕ → AskingState → AskingState → Type 0
Nobody t n p s = (s ≡ p) × ((i : ℕ) → i < n → is_next i t p ≡ false)

abbrev Someone : ℕ → Option ℕ → ℕ → AskingState → AskingState → Type 0
Someone peer then t p s = Stands peer then s.peers × (w : Awaited) × (s.awaited ≡ Some w) × (w.asked_at ≡ t) × (ahead then p.peers ≡ suc (ahead then s.peers))

-- Unless the node is done with the peer, it asked none of the first `n` peers, or one of them.
abbrev Offered : ℕ → ℕ → Option ℕ → ℕ → ℕ → AskingState → AskingState → Type 0
Offered peer now then t n p s = Done peer now s ⊎ (Nobody t n p s ⊎ Someone peer then t p s)

one_offered : (peer now t n : ℕ) (then : Option ℕ) (p s : AskingState) → now ≤ t → is_overdue t then ≡ true → Stands peer then p.peers → Offered peer now then t n p s → Offered peer now then t (suc n) p (after (Asks n t) s)
one_offered peer now t n then p s order due stands (inl done) = inl (step_done peer now (Asks n t) s (le-leb now t order) done)
one_offered peer now t n then p s order due stands (inr (inl (same, none))) = subst (λ (q : AskingState). Offered peer now then t (suc n) p (after (Asks n t) q)) (sym same) (by (is_next n t p) refl)
  where
    below : is_next n t p ≡ false → (i : ℕ) → i < suc n → is_next i t p ≡ false
    below isnt i less = elim (cases_lt i n) [
      | inl under ↦ none i under
      | inr over ↦ subst (λ (j : ℕ). is_next j t p ≡ false) (omega (arith, less, over)) isnt
    ]

    by : (b : Bool) → is_next n t p ≡ b → Offered peer now then t (suc n) p (cond b (asked n t p) p)
    by false isnt = inr (inl (refl, below isnt))
    by true next = elim (cases_eq n peer) [
      | inl it ↦ inl (inr (subst (λ (i : ℕ). Since i now (changed (made_asked t) n p.peers)) it (made_since n now t p next order)))
      | inr apart ↦ inr (inr (other_stands (made_asked t) p.peers peer n then apart stands, record { peer = n; asked_at = t; since = t }, refl, refl, asked_ahead peer t n t then p next due (same_le t) stands))
    ]
one_offered peer now t n then p s order due stands (inr (inr (there, w, is, at, less))) = subst (λ (q : AskingState). Offered peer now then t (suc n) p q) (sym stay) (inr (inr (there, w, is, at, less)))
  where
    stay : after (Asks n t) s ≡ s
    stay = ap (λ (b : Bool). cond b (asked n t s) s) (nobody_next s w n t is)

offered : (peer now t n : ℕ) (then : Option ℕ) (a : AskingState) → now ≤ t → is_overdue t then ≡ true → Stands peer then (after (Passes t) a).peers → Offered peer now then t n (after (Passes t) a) (looked t n a)
offered peer now t zero then a order due stands = inr (inl (refl, λ i less. absurd (omega (arith, less))))
offered peer now t (suc n) then a order due stands = one_offered peer now t n then (after (Passes t) a) (looked t n a) order due stands (offered peer now t n then a order due stands)

passes_peers : (t : ℕ) (a : AskingState) → (after (Passes t) a).peers ≡ a.peers
passes_peers t a = by (is_settled t (lapsed t a))
  where
    by : (b : Bool) → AskingState.peers (cond b (record (lapsed t a) { settled = true }) (lapsed t a)) ≡ a.peers
    by true = refl
    by false = refl

waits_less : (t : ℕ) (w : Awaited) → is_over (t + 1000) w ≡ false → deadline (t + 1000) (Some w) ≤ deadline t (Some w)
waits_less t w on = through (max (t + 1000) (w.asked_at + 600000)) (w.asked_at + 600000) (max t (w.asked_at + 600000)) (max-le (omega (arith, leb-false 600000 (t + 1000 - w.asked_at) (second_false (is_mute (t + 1000) w) (nat_le 600000 (t + 1000 - w.asked_at)) on))) (same_le (w.asked_at + 600000))) (le-max_right t (w.asked_at + 600000))

look_limit : (peer now t n : ℕ) (then : Option ℕ) (a : AskingState) → now ≤ t → is_overdue t then ≡ true → Stands peer then a.peers → n ≡ length a.peers → Done peer now (looked (t + 1000) n a) ⊎ (Stands peer then (looked (t + 1000) n a).peers × (limit (t + 1000) then (looked (t + 1000) n a) ≤ limit t then a))
look_limit peer now t n then a order due stands count = elim (cases_Bool (after (Passes (t + 1000)) a).taught) [
  | inl up ↦ inl (asks_done peer now (t + 1000) n a (later_still now t order) (inl up))
  | inr behind ↦ elim (offered peer now (t + 1000) n then a (later_still now t order) due_then stands_then) [
    | inl done ↦ inl done
    | inr (inl (same, none)) ↦ inr (subst (λ (q : AskingState). Stands peer then q.peers × (limit (t + 1000) then q ≤ limit t then a)) (sym same) (stands_then, waits behind none p.awaited refl))
    | inr (inr (stood, w, is, at, less)) ↦ inr (stood, one_less (ahead then (looked (t + 1000) n a).peers) (ahead then a.peers) (deadline (t + 1000) (looked (t + 1000) n a).awaited) (deadline t a.awaited) t (ap (ahead then) (sym (passes_peers (t + 1000) a)) ∙ less) (subst (λ (o : Option Awaited). deadline (t + 1000) o ≤ t + 601000) (sym is) (max-le (omega arith) (omega (arith, at)))) (at_least t a.awaited))
  ]
]
  where
    p : AskingState
    p = after (Passes (t + 1000)) a

    due_then : is_overdue (t + 1000) then ≡ true
    due_then = overdue_later t (t + 1000) then due (omega arith)

    stands_then : Stands peer then p.peers
    stands_then = step_stands peer then (Passes (t + 1000)) a refl refl stands

    waits : p.taught ≡ false → ((i : ℕ) → i < n → is_next i (t + 1000) p ≡ false) → (o : Option Awaited) → p.awaited ≡ o → limit (t + 1000) then p ≤ limit t then a
    waits behind none None is =
        let next = exists_next (t + 1000) peer p stands_then.0 behind is stands_then.1 (overdue_can (t + 1000) stands_then.0 stands_then.2 (ap (is_overdue (t + 1000)) stands_then.3 ∙ due_then)) in
        let given = next_given next.0 (t + 1000) p next.1 in
        let within : next.0 < n = omega (arith, get_within p.peers next.0 given.1 given.2, count, ap length (passes_peers (t + 1000) a)) in
        absurd (false≢true (sym (none next.0 within) ∙ next.1))
    waits behind none (Some w) is =
        let fresh = passes_fresh (t + 1000) (is_settled (t + 1000) (lapsed (t + 1000) a)) a w is in
        no_more (ahead then p.peers) (ahead then a.peers) (deadline (t + 1000) p.awaited) (deadline t a.awaited) (ap (ahead then) (passes_peers (t + 1000) a))
        (subst (λ (o : Option Awaited). deadline (t + 1000) o ≤ deadline t a.awaited) (sym is) (subst (λ (o : Option Awaited). deadline (t + 1000) (Some w) ≤ deadline t o) (sym fresh.0) (waits_less t w fresh.1)))

second_limit : (peer now t : ℕ) (then : Option ℕ) (hs : List Happening) (a : AskingState) → now ≤ t → is_overdue t then ≡ true → list_all (is_timely peer t) hs ≡ true → Stands peer then a.peers →
    Done peer now (looked (t + 1000) (length a.peers) (after_all hs a)) ⊎ (Stands peer then (looked (t + 1000) (length a.peers) (after_all hs a)).peers × (limit (t + 1000) then (looked (t + 1000) (length a.peers) (after_all hs a)) ≤ limit t then a))
second_limit peer now t then hs a order due times stands = elim (run_limit peer now t then hs a order due times stands) [
  | inl done ↦ inl (looked_done peer now (t + 1000) (length a.peers) (after_all hs a) (later_still now t order) done)
  | inr (stood, less) ↦ elim (look_limit peer now t (length a.peers) then (after_all hs a) order due stood (sym (run_length hs a))) [
    | inl done ↦ inl done
    | inr (there, fewer) ↦ inr (there, through (limit (t + 1000) then (looked (t + 1000) (length a.peers) (after_all hs a))) (limit t then (after_all hs a)) (limit t then a) fewer less)
  ]
]

-- ---- seconds, once it can be asked

start : (k d t : ℕ) → 1 ≤ k → t ≤ d → 1000 * 0 + t + 601000 ≤ 601000 * k + d
start k d t one least = omega (arith, one, least)

longer : (n t p q : ℕ) → 1000 * n + (t + 1000) + 601000 ≤ q → q ≤ p → 1000 * suc n + t + 601000 ≤ p
longer n t p q far less = omega (arith, far, less)

due_seconds : (peer now t : ℕ) (then : Option ℕ) (seconds : List (List Happening)) (a : AskingState) → now ≤ t → is_overdue t then ≡ true → are_timely peer t seconds ≡ true → Stands peer then a.peers → Done peer now (after_seconds t seconds a) ⊎ (1000 * length seconds + t + 601000 ≤ limit t then a)
due_seconds peer now t then [] a order due times (c, found, there, was) = inr (start (ahead then a.peers) (deadline t a.awaited) t (one_ahead then a.peers peer c found (subst (λ (s : Option ℕ). is_no_later s then ≡ true) (sym was) (itself then))) (at_least t a.awaited))
due_seconds peer now t then (hs ∷ more) a order due times stands =
    let both = and_true (list_all (is_timely peer t) hs) (are_timely peer (t + 1000) more) times in
    let e : AskingState = looked (t + 1000) (length a.peers) (after_all hs a) in
    elim (second_limit peer now t then hs a order due both.0 stands) [
      | inl done ↦ inl (seconds_done peer now (t + 1000) more e (later_still now t order) both.1 done)
      | inr (stood, less) ↦ elim (due_seconds peer now (t + 1000) then more e (later_still now t order) (overdue_later t (t + 1000) then due (omega arith)) both.1 stood) [
        | inl done ↦ inl done
        | inr far ↦ inr (longer (length more) t (limit t then a) (limit (t + 1000) then e) far less)
      ]
    ]

-- ---- seconds before

-- whoever is waited for was asked no later than then
abbrev IsBefore : ℕ → Awaited → Type 0
IsBefore last w = w.asked_at ≤ last

leaves_before : (last : ℕ) (h : Happening) → asks_none_after last h ≡ true → Leaves (IsBefore last) h
leaves_before last (Begins other) until = tt
leaves_before last (Ends other) until = tt
leaves_before last (Asks other when) until = leb-true when last until
leaves_before last (Brings other when) until = λ v holds. by v holds (v.peer == other)
  where
    by : (v : Awaited) → IsBefore last v → (b : Bool) → IsBefore last (cond b (record v { since = when }) v)
    by v holds true = holds
    by v holds false = holds
leaves_before last (Finishes other) until = tt
leaves_before last (FinishesPartly other lacks) until = tt
leaves_before last (FinishesIncompletely other) until = tt
leaves_before last (Passes when) until = tt

weaken : (one other : ℕ) (o : Option Awaited) → one ≤ other → Are (IsBefore one) o → Are (IsBefore other) o
weaken one other o order are = λ w is. through w.asked_at one other (are w is) order

calm_run : (peer now t : ℕ) (then : Option ℕ) (hs : List Happening) (a : AskingState) → now ≤ t → list_all (is_timely peer t) hs ≡ true → Stands peer then a.peers → Are (IsBefore (t + 1000)) a.awaited → Done peer now (after_all hs a) ⊎ (Stands peer then (after_all hs a).peers × Are (IsBefore (t + 1000)) (after_all hs a).awaited)
calm_run peer now t then [] a order times stands are = inr (stands, are)
calm_run peer now t then (h ∷ hs) a order times stands are =
    let both = and_true (is_timely peer t h) (list_all (is_timely peer t) hs) times in
    let parts = timely_parts peer t h both.0 in
    elim (asked_or_not peer now h a (earlier now t h order parts.1)) [
      | inl since ↦ inl (run_done peer now t hs (after h a) order both.1 (inr since))
      | inr none ↦ calm_run peer now t then hs (after h a) order both.1 (step_stands peer then h a parts.0 none stands) (step_are (IsBefore (t + 1000)) a h (leaves_before (t + 1000) h parts.2) are)
    ]

calm_look : (peer now t n : ℕ) (then : Option ℕ) (a : AskingState) → now ≤ t → Stands peer then a.peers → Are (IsBefore t) a.awaited → Done peer now (looked t n a) ⊎ (Stands peer then (looked t n a).peers × Are (IsBefore t) (looked t n a).awaited)
calm_look peer now t zero then a order stands are = inr (step_stands peer then (Passes t) a refl refl stands, step_are (IsBefore t) a (Passes t) tt are)
calm_look peer now t (suc n) then a order stands are = elim (calm_look peer now t n then a order stands are) [
  | inl done ↦ inl (step_done peer now (Asks n t) (looked t n a) (le-leb now t order) done)
  | inr (stood, before) ↦ elim (asked_or_not peer now (Asks n t) (looked t n a) (le-leb now t order)) [
    | inl since ↦ inl (inr since)
    | inr none ↦ inr (step_stands peer then (Asks n t) (looked t n a) refl none stood, step_are (IsBefore t) (looked t n a) (Asks n t) (same_le t) before)
  ]
]

calm_second : (peer now t : ℕ) (then : Option ℕ) (hs : List Happening) (a : AskingState) → now ≤ t → list_all (is_timely peer t) hs ≡ true → Stands peer then a.peers → Are (IsBefore t) a.awaited →
    Done peer now (looked (t + 1000) (length a.peers) (after_all hs a)) ⊎ (Stands peer then (looked (t + 1000) (length a.peers) (after_all hs a)).peers × Are (IsBefore (t + 1000)) (looked (t + 1000) (length a.peers) (after_all hs a)).awaited)
calm_second peer now t then hs a order times stands are = elim (calm_run peer now t then hs a order times stands (weaken t (t + 1000) a.awaited (omega arith) are)) [
  | inl done ↦ inl (looked_done peer now (t + 1000) (length a.peers) (after_all hs a) (later_still now t order) done)
  | inr (stood, before) ↦ calm_look peer now (t + 1000) (length a.peers) then (after_all hs a) (later_still now t order) stood before
]

-- ---- all of them

most_deadline : (t : ℕ) (o : Option Awaited) → Are (IsBefore t) o → deadline t o ≤ t + 600000
most_deadline t None are = omega arith
most_deadline t (Some w) are = max-le (omega arith) (omega (arith, are w refl))

few : (len k n d t : ℕ) → 1000 * len + t + 601000 ≤ 601000 * k + d → k ≤ n → d ≤ t + 600000 → len < 0 + 601 * n
few len k n d t far fits most = omega (arith, far, fits, most)

no_time : (t : ℕ) → t + 1000 * 0 ≡ t
no_time t = omega arith

next_time : (t j : ℕ) → t + 1000 * suc j ≡ t + 1000 + 1000 * j
next_time t j = omega arith

one_more : (len j n m : ℕ) → len < j + 601 * m → m ≡ n → suc len < suc j + 601 * n
one_more len j n m less same = omega (arith, less, same)

none_yet : (j n : ℕ) → 0 < suc j + 601 * n
none_yet j n = omega arith

-- `k` seconds pass until the node may ask the peer again
all_seconds : (peer now k t : ℕ) (then : Option ℕ) (seconds : List (List Happening)) (a : AskingState) → now ≤ t → is_overdue (t + 1000 * k) then ≡ true → are_timely peer t seconds ≡ true → Stands peer then a.peers → Are (IsBefore t) a.awaited → Done peer now (after_seconds t seconds a) ⊎ (length seconds < k + 601 * length a.peers)
all_seconds peer now zero t then seconds a order due times stands are = elim (due_seconds peer now t then seconds a order (subst (λ (m : ℕ). is_overdue m then ≡ true) (no_time t) due) times stands) [
  | inl done ↦ inl done
  | inr far ↦ inr (few (length seconds) (ahead then a.peers) (length a.peers) (deadline t a.awaited) t far (ahead_fits then a.peers) (most_deadline t a.awaited are))
]
all_seconds peer now (suc j) t then [] a order due times stands are = inr (none_yet j (length a.peers))
all_seconds peer now (suc j) t then (hs ∷ more) a order due times stands are =
    let both = and_true (list_all (is_timely peer t) hs) (are_timely peer (t + 1000) more) times in
    let e : AskingState = looked (t + 1000) (length a.peers) (after_all hs a) in
    elim (calm_second peer now t then hs a order both.0 stands are) [
      | inl done ↦ inl (seconds_done peer now (t + 1000) more e (later_still now t order) both.1 done)
      | inr (stood, before) ↦ elim (all_seconds peer now j (t + 1000) then more e (later_still now t order) (subst (λ (m : ℕ). is_overdue m then ≡ true) (next_time t j) due) both.1 stood before) [
        | inl done ↦ inl done
        | inr less ↦ inr (one_more (length more) j (length a.peers) (length e.peers) less (looked_length (t + 1000) (length a.peers) (after_all hs a) ∙ run_length hs a))
      ]
    ]

due_by_then : (now : ℕ) (then : Option ℕ) → was_before now then ≡ true → is_overdue (now + 1000 * 660) then ≡ true
due_by_then now None before = refl
due_by_then now (Some n) before = le-leb 660000 (now + 1000 * 660 - n) (omega (arith, ltb-true n now before))

some_same : (v w : Awaited) → Some v ≡ Some w → v ≡ w
some_same v w is = cc

are_before : (now : ℕ) (o : Option Awaited) → is_asked_before now o ≡ true → Are (IsBefore now) o
are_before now None before = λ w is. cc
are_before now (Some v) before = λ w is. subst (IsBefore now) (some_same v w is) (leb-true v.asked_at now before)

pub asked_in_time : (a : AskingState) (peer now : ℕ) (then : Option ℕ) (seconds : List (List Happening)) → WasLastAsked peer then a → was_before now then ≡ true → is_asked_before now a.awaited ≡ true → are_timely peer now seconds ≡ true → 660 + 601 * length a.peers ≤ length seconds → ((after_seconds now seconds a).taught ≡ true) ⊎ WasAskedSince peer now (after_seconds now seconds a)
asked_in_time a peer now then seconds stands before waited times enough = elim (all_seconds peer now 660 now then seconds a (same_le now) (due_by_then now then before) times stands (are_before now a.awaited waited)) [
  | inl done ↦ done
  | inr less ↦ absurd (omega (arith, less, enough))
]

pub finished_then : (a : AskingState) (peer : ℕ) → owes (slice_get a.peers peer) ≡ true → (after (Finishes peer) a).taught ≡ true
finished_then a peer owing = ap (λ (b : Bool). AskingState.taught (cond b (record a { taught = true; awaited = None }) a)) owing
