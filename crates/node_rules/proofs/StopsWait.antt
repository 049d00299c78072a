-- A stop that was seen stays seen, and the turns that are counted came since then.
use Rattle.std.proofs.Common.{◌≡◌, ℕ, suc, ◌+◌, ◌-◌, ◌≤◌, ◌^◌, Bool, true, false, not, ◌&&◌, ◌||◌, cond, List, [], ◌∷◌, ◌++◌, Some, None, refl, sym, ap, subst, arith}
use Rattle.std.specs.Prelude.{min, nat_le}
use Rattle.std.proofs.lemmas.Bool.{cond_both, false≢true, leb-true}
use Rattle.node_core.specs.declared.session_ends.SessionEnd.TheVariants as ends
use Rattle.node_rules.specs.declared.ending.Ending.{Ending}
use Rattle.node_rules.specs.declared.ending.Outside.{Outside}
use Rattle.node_rules.specs.Endings.{has_taught_all, interruption, is_young, looked, sees_stop}
use Rattle.node_rules.specs.EndingRuns.{Happening, Begins, Idles, Works, Rests, Looks, IdledSinceStop, after_all, has_seen_stop, idle_turns}

-- ---- tests

or_left : (a b : Bool) → a ≡ true → (a || b) ≡ true
or_left true b first = refl
or_left false b first = absurd (false≢true first)

or_right : (a b : Bool) → b ≡ true → (a || b) ≡ true
or_right true b second = refl
or_right false b second = second

and_left : (a b : Bool) → (a && b) ≡ true → a ≡ true
and_left true b both = refl
and_left false b both = both

and_right : (a b : Bool) → (a && b) ≡ true → b ≡ true
and_right true b both = both
and_right false b both = absurd (false≢true both)

not_false : (b : Bool) → not b ≡ false → b ≡ true
not_false true h = refl
not_false false h = sym h

-- ---- the stop stays seen

seen_before : (since before : List Happening) → has_seen_stop before ≡ true → has_seen_stop (since ++ before) ≡ true
seen_before [] before seen = seen
seen_before (Begins now ∷ since) before seen = seen_before since before seen
seen_before (Idles ∷ since) before seen = seen_before since before seen
seen_before (Works ∷ since) before seen = seen_before since before seen
seen_before (Rests ∷ since) before seen = seen_before since before seen
seen_before (Looks now stops ∷ since) before seen = or_right (sees_stop now stops (after_all (since ++ before))) (has_seen_stop (since ++ before)) (seen_before since before seen)

seen_in : (turns : ℕ) (hs : List Happening) → IdledSinceStop turns hs → has_seen_stop hs ≡ true
seen_in turns hs (since, before, is, seen, quiet, few) = subst (λ (xs : List Happening). has_seen_stop xs ≡ true) (sym is) (seen_before since before seen)

anew : (hs : List Happening) → has_seen_stop hs ≡ true → IdledSinceStop 0 hs
anew hs seen = ([], hs, refl, seen, refl, omega arith)

-- ---- what is counted

one_more : (i n : ℕ) → i ≤ n → min (i + 1) (2 ^ 64 - 1) ≤ suc n
one_more i n few = omega (arith, few)

begins_more : (now turns : ℕ) (hs : List Happening) → IdledSinceStop turns hs → IdledSinceStop turns (Begins now ∷ hs)
begins_more now turns hs (since, before, is, seen, quiet, few) = (Begins now ∷ since, before, ap (λ (xs : List Happening). Begins now ∷ xs) is, seen, quiet, few)

looks_more : (now : ℕ) (stops : Bool) (turns : ℕ) (hs : List Happening) → IdledSinceStop turns hs → IdledSinceStop turns (Looks now stops ∷ hs)
looks_more now stops turns hs (since, before, is, seen, quiet, few) = (Looks now stops ∷ since, before, ap (λ (xs : List Happening). Looks now stops ∷ xs) is, seen, quiet, few)

idles_more : (turns : ℕ) (hs : List Happening) → IdledSinceStop turns hs → IdledSinceStop (min (turns + 1) (2 ^ 64 - 1)) (Idles ∷ hs)
idles_more turns hs (since, before, is, seen, quiet, few) = (Idles ∷ since, before, ap (λ (xs : List Happening). Idles ∷ xs) is, seen, quiet, one_more turns (idle_turns since) few)

fewer : (less turns : ℕ) (hs : List Happening) → less ≤ turns → IdledSinceStop turns hs → IdledSinceStop less hs
fewer less turns hs less_than (since, before, is, seen, quiet, few) = (since, before, is, seen, quiet, omega (arith, less_than, few))

at_look : (now : ℕ) (stops : Bool) (hs : List Happening) → ((after_all hs).stopping ≡ true → IdledSinceStop (after_all hs).idle hs) →
    (b : Bool) → (sees_stop now stops (after_all hs) && not (after_all hs).stopping) ≡ b →
    Ending.stopping (cond b (record (after_all hs) { stopping = true; idle = 0 }) (after_all hs)) ≡ true →
    IdledSinceStop (Ending.idle (cond b (record (after_all hs) { stopping = true; idle = 0 }) (after_all hs))) (Looks now stops ∷ hs)
at_look now stops hs before true first stopping = anew (Looks now stops ∷ hs) (or_left (sees_stop now stops (after_all hs)) (has_seen_stop hs) (and_left (sees_stop now stops (after_all hs)) (not (after_all hs).stopping) first))
at_look now stops hs before false other stopping = looks_more now stops (after_all hs).idle hs (before stopping)

so_far : (hs : List Happening) → (after_all hs).stopping ≡ true → IdledSinceStop (after_all hs).idle hs
so_far [] stopping = absurd (false≢true stopping)
so_far (Begins now ∷ hs) stopping = begins_more now (after_all hs).idle hs (so_far hs stopping)
so_far (Idles ∷ hs) stopping = idles_more (after_all hs).idle hs (so_far hs stopping)
so_far (Works ∷ hs) stopping = anew (Works ∷ hs) (seen_in (after_all hs).idle hs (so_far hs stopping))
so_far (Rests ∷ hs) stopping = anew (Rests ∷ hs) (seen_in (after_all hs).idle hs (so_far hs stopping))
so_far (Looks now stops ∷ hs) stopping = at_look now stops hs (so_far hs) (sees_stop now stops (after_all hs) && not (after_all hs).stopping) refl stopping

-- ---- the end for a stop

stops_then : (e : Ending) (sees : Bool) → sees ≡ true → Ending.stopping (cond (sees && not e.stopping) (record e { stopping = true; idle = 0 }) e) ≡ true
stops_then e false sees = absurd (false≢true sees)
stops_then e true sees = cond_both (not e.stopping) (record e { stopping = true; idle = 0 }) e (λ (x : Ending). x.stopping ≡ true) (λ _. refl) (λ kept. not_false e.stopping kept)

for_stop : (replaced paused taught : Bool) → cond replaced (Some ends.Replaced) (cond (paused || taught) (Some ends.End) None) ≡ Some ends.End → paused ≡ false → taught ≡ true
for_stop true paused taught is awake = cc
for_stop false true taught is awake = absurd (false≢true (sym awake))
for_stop false false true is awake = refl
for_stop false false false is awake = cc

pub stops_late : (hs : List Happening) (now : ℕ) (o : Outside) (tables : ℕ) (acknowledged : Bool) → o.paused ≡ false → interruption now o tables acknowledged (after_all hs) ≡ Some ends.End →
    (o.stops ≡ true) × (acknowledged ≡ true) × IdledSinceStop tables (Looks now o.stops ∷ hs)
stops_late hs now o tables acknowledged awake is =
    let e : Ending = after_all hs in
    let all = for_stop o.replaced o.paused (has_taught_all now o.stops tables acknowledged e) is awake in
    let sees = and_left (sees_stop now o.stops e) (nat_le tables (looked now o.stops e).idle && acknowledged) all in
    let rest = and_right (sees_stop now o.stops e) (nat_le tables (looked now o.stops e).idle && acknowledged) all in
    let idled = so_far (Looks now o.stops ∷ hs) (stops_then e (sees_stop now o.stops e) sees) in
    let enough = leb-true tables (looked now o.stops e).idle (and_left (nat_le tables (looked now o.stops e).idle) acknowledged rest) in
    (and_left o.stops (not (is_young now e.begun)) sees, and_right (nat_le tables (looked now o.stops e).idle) acknowledged rest, fewer tables (looked now o.stops e).idle (Looks now o.stops ∷ hs) enough idled)
