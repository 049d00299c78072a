-- Who is waited for, and how long.
use Rattle.std.proofs.Common.{◌≡◌, ℕ, ◌+◌, ◌-◌, ◌≤◌, ◌<◌, Bool, true, false, not, ◌&&◌, ◌||◌, ◌==◌, cond, List, [], ◌∷◌, Option, Some, None, refl, sym, ap, ◌∙◌, subst, arith}
use Rattle.std.specs.Prelude.{◌||◌, is_none, nat_le, option_map, slice_get}
use Rattle.std.specs.List.{list_any}
use Rattle.std.proofs.lemmas.Bool.{eq-eqb, eqb-true, false≢true, le-leb}
use Rattle.std.proofs.lemmas.Bool.Decides.{nat_tests}
use Rattle.node_core.specs.declared.asking.Standing.TheVariants as standings
use Rattle.node_core.specs.declared.asking.Awaited.{Awaited}
use Rattle.node_core.specs.CatchingUp.{AskingState, asked, heard, heard_from, is_first, is_mute, is_next, is_over, is_settled, lapsed, owes, still_awaited, stood, unless_it}
use Rattle.node_core.specs.AskingRuns.{Happening, Begins, Ends, Asks, Brings, Finishes, FinishesPartly, FinishesIncompletely, Passes, IsAwaited, after, after_all, is_asking, is_from, may_end}

-- ---- nobody else is asked

none_next : (up : Bool) (o : Option Awaited) (w : Awaited) (first : Bool) → o ≡ Some w → (not up && (is_none o && first)) ≡ false
none_next true o w first is = refl
none_next false None w first is = cc
none_next false (Some v) w first is = refl

pub nobody_next : (a : AskingState) (w : Awaited) (peer now : ℕ) → a.awaited ≡ Some w → is_next peer now a ≡ false
nobody_next a w peer now is = none_next a.taught a.awaited w (is_first now a.peers (slice_get a.peers peer)) is

-- ---- who is waited for still is

kept_unless : (o : Option Awaited) (w : Awaited) (peer : ℕ) → o ≡ Some w → (w.peer == peer) ≡ false → unless_it peer o ≡ Some w
kept_unless o w peer is other = rw is (rw other refl)

heard_peer : (w : Awaited) (peer now : ℕ) → (heard_from peer now w).peer ≡ w.peer
heard_peer w peer now = by (w.peer == peer)
  where
    by : (b : Bool) → Awaited.peer (cond b (record w { since = now }) w) ≡ w.peer
    by true = refl
    by false = refl

pub second_false : (a b : Bool) → (a || b) ≡ false → b ≡ false
second_false true b h = cc
second_false false b h = h

pub first_false : (a b : Bool) → (a || b) ≡ false → a ≡ false
first_false true b h = cc
first_false false b h = refl

pub waits_on : (a : AskingState) (w : Awaited) (h : Happening) → a.awaited ≡ Some w → may_end a w h ≡ false → IsAwaited w.peer (after h a)
waits_on a w (Begins peer) is may = (w, kept_unless a.awaited w peer is may, refl)
waits_on a w (Ends peer) is may = (w, kept_unless a.awaited w peer is may, refl)
waits_on a w (Asks peer now) is may = (w, ap (λ (b : Bool). AskingState.awaited (cond b (asked peer now a) a)) (nobody_next a w peer now is) ∙ is, refl)
waits_on a w (Brings peer now) is may = (heard_from peer now w, ap (λ (o : Option Awaited). option_map (heard_from peer now) o) is, heard_peer w peer now)
waits_on a w (Finishes peer) is may = cc
waits_on a w (FinishesPartly peer lacks) is may = (w, by (owes (slice_get a.peers peer)), refl)
  where
    by : (b : Bool) → AskingState.awaited (cond b (record (stood standings.Partial peer a) { incomplete = a.incomplete || lacks }) a) ≡ Some w
    by true = kept_unless a.awaited w peer is may
    by false = is
waits_on a w (FinishesIncompletely peer) is may = (w, by (owes (slice_get a.peers peer)), refl)
  where
    by : (b : Bool) → AskingState.awaited (cond b (record (stood standings.Incomplete peer a) { incomplete = true }) a) ≡ Some w
    by true = kept_unless a.awaited w peer is may
    by false = is
waits_on a w (Passes now) is may = (w, still, refl)
  where
    waited : still_awaited now a.awaited ≡ Some w
    waited = rw is (rw may refl)

    by : (b : Bool) → AskingState.awaited (cond b (record (lapsed now a) { settled = true }) (lapsed now a)) ≡ Some w
    by true = waited
    by false = waited

    still : (after (Passes now) a).awaited ≡ Some w
    still = by (is_settled now (lapsed now a))

-- ---- what stays of who is waited for

-- such is the peer that is waited for, if there is one
abbrev pub Are : (Awaited → Type 0) → Option Awaited → Type 0
Are P o = (w : Awaited) → o ≡ Some w → P w

-- what happens leaves whoever is waited for such
abbrev pub Leaves : (Awaited → Type 0) → Happening → Type 0
Leaves P (Begins other) = Unit {0}
Leaves P (Ends other) = Unit {0}
Leaves P (Asks other now) = P (record { peer = other; asked_at = now; since = now })
Leaves P (Brings other now) = (v : Awaited) → P v → P (heard_from other now v)
Leaves P (Finishes other) = Unit {0}
Leaves P (FinishesPartly other lacks) = Unit {0}
Leaves P (FinishesIncompletely other) = Unit {0}
Leaves P (Passes now) = Unit {0}

some_same : (v w : Awaited) → Some v ≡ Some w → v ≡ w
some_same v w is = cc

unless_are : (P : Awaited → Type 0) (other : ℕ) (o : Option Awaited) → Are P o → Are P (unless_it other o)
unless_are P other None are w is = cc
unless_are P other (Some v) are w is = by (v.peer == other) is
  where
    by : (b : Bool) → cond b None (Some v) ≡ Some w → P w
    by true is = cc
    by false is = are w is

heard_are : (P : Awaited → Type 0) (other now : ℕ) (o : Option Awaited) → ((v : Awaited) → P v → P (heard_from other now v)) → Are P o → Are P (option_map (heard_from other now) o)
heard_are P other now None leaves are w is = cc
heard_are P other now (Some v) leaves are w is = subst P (some_same (heard_from other now v) w is) (leaves v (are v refl))

still_are : (P : Awaited → Type 0) (now : ℕ) (o : Option Awaited) → Are P o → Are P (still_awaited now o)
still_are P now None are w is = cc
still_are P now (Some v) are w is = by (is_over now v) is
  where
    by : (b : Bool) → cond b None (Some v) ≡ Some w → P w
    by true is = cc
    by false is = are w is

passes_are : (P : Awaited → Type 0) (now : ℕ) (b : Bool) (a : AskingState) → Are P a.awaited → Are P (AskingState.awaited (cond b (record (lapsed now a) { settled = true }) (lapsed now a)))
passes_are P now true a are w is = still_are P now a.awaited are w is
passes_are P now false a are w is = still_are P now a.awaited are w is

pub step_are : (P : Awaited → Type 0) (a : AskingState) (h : Happening) → Leaves P h → Are P a.awaited → Are P (after h a).awaited
step_are P a (Begins other) leaves are = unless_are P other a.awaited are
step_are P a (Ends other) leaves are = unless_are P other a.awaited are
step_are P a (Asks other now) leaves are = by (is_next other now a)
  where
    by : (b : Bool) → Are P (AskingState.awaited (cond b (asked other now a) a))
    by false = are
    by true = λ w is. subst P (some_same (record { peer = other; asked_at = now; since = now }) w is) leaves
step_are P a (Brings other now) leaves are = heard_are P other now a.awaited leaves are
step_are P a (Finishes other) leaves are = by (owes (slice_get a.peers other))
  where
    by : (b : Bool) → Are P (AskingState.awaited (cond b (record a { taught = true; awaited = None }) a))
    by true = λ w is. cc
    by false = are
step_are P a (FinishesPartly other lacks) leaves are = by (owes (slice_get a.peers other))
  where
    by : (b : Bool) → Are P (AskingState.awaited (cond b (record (stood standings.Partial other a) { incomplete = a.incomplete || lacks }) a))
    by true = unless_are P other a.awaited are
    by false = are
step_are P a (FinishesIncompletely other) leaves are = by (owes (slice_get a.peers other))
  where
    by : (b : Bool) → Are P (AskingState.awaited (cond b (record (stood standings.Incomplete other a) { incomplete = true }) a))
    by true = unless_are P other a.awaited are
    by false = are
step_are P a (Passes now) leaves are = passes_are P now (is_settled now a) a are

run_are : (P : Awaited → Type 0) (test : Happening → Bool) (hs : List Happening) (a : AskingState) → ((h : Happening) → test h ≡ false → Leaves P h) → list_any test hs ≡ false → Are P a.awaited → Are P (after_all hs a).awaited
run_are P test [] a leaves none are = are
run_are P test (h ∷ hs) a leaves none are = run_are P test hs (after h a) leaves (second_false (test h) (list_any test hs) none) (step_are P a h (leaves h (first_false (test h) (list_any test hs) none)) are)

-- ---- the end of the wait

-- whoever is waited for once the time is noted was so before, and the wait isn't over
lapsed_fresh : (now : ℕ) (o : Option Awaited) (w : Awaited) → still_awaited now o ≡ Some w → (o ≡ Some w) × (is_over now w ≡ false)
lapsed_fresh now None w is = cc
lapsed_fresh now (Some v) w is = by (is_over now v) refl is
  where
    by : (b : Bool) → is_over now v ≡ b → cond b None (Some v) ≡ Some w → (Some v ≡ Some w) × (is_over now w ≡ false)
    by true over is = cc
    by false over is = (is, subst (λ (x : Awaited). is_over now x ≡ false) (some_same v w is) over)

pub passes_fresh : (now : ℕ) (b : Bool) (a : AskingState) (w : Awaited) → AskingState.awaited (cond b (record (lapsed now a) { settled = true }) (lapsed now a)) ≡ Some w → (a.awaited ≡ Some w) × (is_over now w ≡ false)
passes_fresh now true a w is = lapsed_fresh now a.awaited w is
passes_fresh now false a w is = lapsed_fresh now a.awaited w is

-- the peer that is asked is waited for as it is then
asked_is : (P : Awaited → Type 0) (a : AskingState) (peer when : ℕ) → is_next peer when a ≡ true → P (record { peer = peer; asked_at = when; since = when }) → Are P (after (Asks peer when) a).awaited
asked_is P a peer when next such = subst (λ (b : Bool). Are P (AskingState.awaited (cond b (asked peer when a) a))) (sym next) (λ w is. subst P (some_same (record { peer = peer; asked_at = when; since = when }) w is) such)

-- the peer, if it is waited for, has been mute since this moment
abbrev IsSince : ℕ → ℕ → Awaited → Type 0
IsSince peer since w = w.peer ≡ peer → w.since ≡ since

-- the peer, if it is waited for, was asked at this moment
abbrev WasAsked : ℕ → ℕ → Awaited → Type 0
WasAsked peer when w = w.peer ≡ peer → w.asked_at ≡ when

pub another : (other peer : ℕ) → (other == peer) ≡ false → other ≡ peer → ⊥
another other peer apart same = false≢true (sym apart ∙ eq-eqb other peer same)

leaves_since : (peer since : ℕ) (h : Happening) → is_from peer h ≡ false → Leaves (IsSince peer since) h
leaves_since peer since (Begins other) apart = tt
leaves_since peer since (Ends other) apart = tt
leaves_since peer since (Asks other now) apart = λ same. absurd (another other peer apart same)
leaves_since peer since (Brings other now) apart = λ v holds. by v holds (v.peer == other) refl
  where
    by : (v : Awaited) → IsSince peer since v → (b : Bool) → (v.peer == other) ≡ b → IsSince peer since (cond b (record v { since = now }) v)
    by v holds true equal = λ same. absurd (another other peer apart (sym (eqb-true v.peer other equal) ∙ same))
    by v holds false equal = holds
leaves_since peer since (Finishes other) apart = tt
leaves_since peer since (FinishesPartly other lacks) apart = tt
leaves_since peer since (FinishesIncompletely other) apart = tt
leaves_since peer since (Passes now) apart = tt

leaves_asked : (peer when : ℕ) (h : Happening) → is_asking peer h ≡ false → Leaves (WasAsked peer when) h
leaves_asked peer when (Begins other) apart = tt
leaves_asked peer when (Ends other) apart = tt
leaves_asked peer when (Asks other now) apart = λ same. absurd (another other peer apart same)
leaves_asked peer when (Brings other now) apart = λ v holds. by v holds (v.peer == other)
  where
    by : (v : Awaited) → WasAsked peer when v → (b : Bool) → WasAsked peer when (cond b (record v { since = now }) v)
    by v holds true = holds
    by v holds false = holds
leaves_asked peer when (Finishes other) apart = tt
leaves_asked peer when (FinishesPartly other lacks) apart = tt
leaves_asked peer when (FinishesIncompletely other) apart = tt
leaves_asked peer when (Passes now) apart = tt

pub mute_ends : (a : AskingState) (peer since now : ℕ) (hs : List Happening) → is_next peer since a ≡ true → list_any (is_from peer) hs ≡ false → since + 5000 ≤ now → IsAwaited peer (after (Passes now) (after_all hs (after (Asks peer since) a))) → ⊥
mute_ends a peer since now hs next apart late (w, is, same) =
    let end : AskingState = after_all hs (after (Asks peer since) a) in
    let fresh = passes_fresh now (is_settled now end) end w is in
    let began = asked_is (IsSince peer since) a peer since next (λ same. refl) in
    let when : w.since ≡ since = run_are (IsSince peer since) (is_from peer) hs (after (Asks peer since) a) (leaves_since peer since) apart began w fresh.0 same in
    false≢true (sym (first_false (is_mute now w) (nat_le 600000 (now - w.asked_at)) fresh.1) ∙ le-leb 5000 (now - w.since) (omega (arith, when, late)))

pub wait_ends : (a : AskingState) (peer when now : ℕ) (hs : List Happening) → is_next peer when a ≡ true → list_any (is_asking peer) hs ≡ false → when + 600000 ≤ now → IsAwaited peer (after (Passes now) (after_all hs (after (Asks peer when) a))) → ⊥
wait_ends a peer when now hs next apart late (w, is, same) =
    let end : AskingState = after_all hs (after (Asks peer when) a) in
    let fresh = passes_fresh now (is_settled now end) end w is in
    let began = asked_is (WasAsked peer when) a peer when next (λ same. refl) in
    let then : w.asked_at ≡ when = run_are (WasAsked peer when) (is_asking peer) hs (after (Asks peer when) a) (leaves_asked peer when) apart began w fresh.0 same in
    false≢true (sym (second_false (is_mute now w) (nat_le 600000 (now - w.asked_at)) fresh.1) ∙ le-leb 600000 (now - w.asked_at) (omega (arith, then, late)))

-- ---- a peer that brings rows

still_on : (asked now later : ℕ) → later < now + 5000 → later < asked + 600000 → (nat_le 5000 (later - now) || nat_le 600000 (later - asked)) ≡ false
still_on asked now later soon within = grind (arith, nat_tests)

pub rows_keep_the_wait : (a : AskingState) (w : Awaited) (now later : ℕ) → a.awaited ≡ Some w → later < now + 5000 → later < w.asked_at + 600000 → IsAwaited w.peer (lapsed later (heard w.peer now a))
rows_keep_the_wait a w now later is soon within = (record w { since = now }, waited, refl)
  where
    waited : still_awaited later (option_map (heard_from w.peer now) a.awaited) ≡ Some (record w { since = now })
    waited = rw is (rw (eq-eqb w.peer w.peer refl) (rw (still_on w.asked_at now later soon within) refl))
