-- Ticks, whatever is noted between them.
use Rattle.std.proofs.Common.{◌≡◌, ℕ, ◌+◌, ◌-◌, ◌≤◌, ◌^◌, Bool, true, false, not, ◌&&◌, cond, List, [], ◌∷◌, refl, sym, ap, ◌∙◌, subst, arith}
use Rattle.std.specs.Prelude.{max, min, nat_le, nat_lt}
use Rattle.std.specs.List.{list_all}
use Rattle.std.proofs.lemmas.Bool.{leb-true}
use Rattle.std.proofs.lemmas.Bool.Decides.{nat_tests}
use Rattle.std.proofs.Math.Nat.{le-max_left, le-max_right, le-min, max-le, min-le_left, min-le_right}
use Rattle.node_core.specs.declared.ticks.Busy.{Busy}
use Rattle.node_core.specs.declared.ticks.Ticks.{Ticks}
use Rattle.node_core.specs.declared.ticks.Traffic.{Traffic}
use Rattle.node_core.specs.Ticks.{Note, after_tick, has_moved, is_due, is_lively, is_own_time, is_put_off, is_tick, later, noted, noted_all, ticked}
use Rattle.node_core.proofs.Rounds.{and_true}

-- ---- put off once

stays_put_off : (ns : List Note) (t : Ticks) → t.put_off ≡ true → (noted_all ns t).put_off ≡ true
stays_put_off [] t off = off
stays_put_off (n ∷ ns) t off = stays_put_off ns (noted n.at n.busy n.traffic t) off

put_off_by : (due off : Bool) → due ≡ true → (due && not off) ≡ false → off ≡ true
put_off_by true true is isnt = refl
put_off_by true false is isnt = cc
put_off_by false off is isnt = cc

due_and : (due off late : Bool) → due ≡ true → off ≡ true → (due && not (not off && late)) ≡ true
due_and true true late is put = refl
due_and true false late is put = cc
due_and false off late is put = cc

made_off : (now arrived : ℕ) (t : Ticks) → is_due now arrived t ≡ true → is_tick now arrived t ≡ false → (ticked now arrived t).put_off ≡ true
made_off now arrived t due isnt =
    ap (λ (b : Bool). Ticks.put_off (cond b (record t { due = after_tick now t; next = after_tick now t; put_off = is_put_off now t }) t)) due
    ∙ put_off_by (is_due now arrived t) (is_put_off now t) due isnt

pub comes_between : (t : Ticks) (now later arrived more : ℕ) (notes : List Note) → is_due now arrived t ≡ true → is_tick now arrived t ≡ false → is_due later more (noted_all notes (ticked now arrived t)) ≡ true → is_tick later more (noted_all notes (ticked now arrived t)) ≡ true
comes_between t now then arrived more notes due isnt is =
    let u : Ticks = noted_all notes (ticked now arrived t) in
    due_and (is_due then more u) u.put_off (nat_lt 1000 (then - max u.due u.free)) is (stays_put_off notes (ticked now arrived t) (made_off now arrived t due isnt))

-- ---- when it is due

capped : (m time a b : ℕ) → a ≤ b → min (a + time) m ≤ min (b + time) m
capped m time a b order = le-min (omega (arith, min-le_left (a + time) m, order)) (min-le_right (a + time) m)

longer : (m short long a : ℕ) → short ≤ long → min (a + short) m ≤ min (a + long) m
longer m short long a order = le-min (omega (arith, min-le_left (a + short) m, order)) (min-le_right (a + short) m)

through : (a b c : ℕ) → a ≤ b → b ≤ c → a ≤ c
through a b c one two = omega (arith, one, two)

next_stays : (ns : List Note) (t : Ticks) (last bound : ℕ) → t.next ≤ bound → later 100 last ≤ bound → list_all (λ n. nat_le n.at last) ns ≡ true → (noted_all ns t).next ≤ bound
next_stays [] t last bound within early times = within
next_stays (n ∷ ns) t last bound within early times =
    let both = and_true (nat_le n.at last) (list_all (λ m. nat_le m.at last) ns) times in
    next_stays ns (noted n.at n.busy n.traffic t) last bound (by (has_moved n.traffic t && (not (is_lively n.at t) && nat_lt n.at t.due)) (leb-true n.at last both.0)) early both.1
  where
    by : (b : Bool) → n.at ≤ last → cond b (max t.next (later 100 n.at)) t.next ≤ bound
    by true order = max-le within (through (later 100 n.at) (later 100 last) bound (capped (2 ^ 64 - 1) 100 n.at last order) early)
    by false order = within

pub soon_due : (t : Ticks) (now last arrived : ℕ) (notes : List Note) → is_due now arrived t ≡ true → list_all (λ n. nat_le n.at last) notes ≡ true → (noted_all notes (ticked now arrived t)).next ≤ max (later 1000 now) (later 100 last)
soon_due t now last arrived notes due times = next_stays notes (ticked now arrived t) last (max (later 1000 now) (later 100 last)) (subst (λ (b : Bool). Ticks.next (cond b (record t { due = after_tick now t; next = after_tick now t; put_off = is_put_off now t }) t) ≤ max (later 1000 now) (later 100 last)) (sym due) (by (is_put_off now t))) (le-max_right (later 1000 now) (later 100 last)) times
  where
    by : (b : Bool) → later (cond b 1000 100) now ≤ max (later 1000 now) (later 100 last)
    by true = le-max_left (later 1000 now) (later 100 last)
    by false = through (later 100 now) (later 1000 now) (max (later 1000 now) (later 100 last)) (longer (2 ^ 64 - 1) 100 1000 now (omega arith)) (le-max_left (later 1000 now) (later 100 last))

-- ---- the session's own writes

not_late : (now at due free : ℕ) → free ≡ at → now ≤ at + 1000 → nat_lt 1000 (now - max due free) ≡ false
not_late now at due free is soon = in_time (now - max due free) (omega (arith, is, soon, le-max_right due free))
  where
    in_time : (late : ℕ) → late ≤ 1000 → nat_lt 1000 late ≡ false
    in_time late within = grind (arith, nat_tests)

due_in_time : (due off late : Bool) → due ≡ true → late ≡ false → (due && not (not off && late)) ≡ true
due_in_time true true late is isnt = refl
due_in_time true false true is isnt = cc
due_in_time true false false is isnt = refl
due_in_time false off late is isnt = cc

pub own_time : (t : Ticks) (at now arrived : ℕ) (busy : Busy) (traffic : Traffic) → is_own_time at busy ≡ true → now ≤ at + 1000 → is_due now arrived (noted at busy traffic t) ≡ true → is_tick now arrived (noted at busy traffic t) ≡ true
own_time t at now arrived busy traffic own soon due =
    let u : Ticks = noted at busy traffic t in
    due_in_time (is_due now arrived u) u.put_off (nat_lt 1000 (now - max u.due u.free)) due (not_late now at u.due u.free (ap (λ (b : Bool). cond b at t.free) own) soon)

-- ---- what is due already

first_false : (a b c : Bool) → c ≡ false → (a && (b && c)) ≡ false
first_false true true c isnt = isnt
first_false true false c isnt = refl
first_false false b c isnt = refl

not_before : (now due : ℕ) → due ≤ now → nat_lt now due ≡ false
not_before now due order = grind (arith, nat_tests)

pub overdue_stays : (t : Ticks) (now : ℕ) (busy : Busy) (traffic : Traffic) → t.due ≤ now → (noted now busy traffic t).next ≡ t.next
overdue_stays t now busy traffic order =
    ap (λ (b : Bool). cond b (max t.next (later 100 now)) t.next) (first_false (has_moved traffic t) (not (is_lively now t)) (nat_lt now t.due) (not_before now t.due order))
