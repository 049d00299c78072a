-- Standing resyncs: no row enters what is left to them, and they end.
use Rattle.std.proofs.Common.{◌≡◌, ℕ, ◌-◌, ◌<◌, ◌≤◌, Bool, true, false, not, ◌&&◌, List, [], ◌∷◌, ◌++◌, length, Option, Some, refl, sym, ap, subst, ◌∙◌, arith, inl, inr, ◌⊎◌, true≢false}
use Rattle.std.specs.Prelude.{filter, nat_lt, nat_le, nat_eq, is_some, MatchBool, option_map}
use Rattle.std.specs.List.{AllByRecursion, list_any}
use Rattle.std.specs.Ordering.{is_eq}
use Rattle.std.proofs.lemmas.Bool.{cases_eq, ne_eqb, cond_both, ltb-true, ltb-false, leb-true, leb-false, le-leb, lt-ltb, and_from, and_parts, or_parts}
use Rattle.table_types.specs.declared.key.Key.{Key}
use Rattle.table_types.specs.declared.update.Update.{Update}
use Rattle.table_types.specs.declared.copies.CopyKind.{CopyKind}
use Rattle.table_types.specs.declared.copies.CopyKind.TheVariants as kinds
use Rattle.table_types.specs.Keys.{key_cmp}
use Rattle.table_types.specs.Rows.{StoredRow}
use Rattle.table_rows.specs.Rows.{IsFirstToEnd, is_live}
use Rattle.table_cell.specs.declared.events.CellEvent.{CellEvent}
use Rattle.table_cell.specs.declared.events.CellEvent.TheVariants as events
use Rattle.table_cell.specs.declared.events.CellReply.{CellReply}
use Rattle.table_cell.specs.declared.progress.Progress.{Progress}
use Rattle.table_cell.specs.Machine.{TableState, Leaves, Replays, Step, acknowledged_by, acknowledging, bound_by, has_room, is_out, is_unacked, last_number, learned, progress_of, tracked, unacked, without, version_by}
use Rattle.table_cell.specs.Soundness.{AreTimely, IsSound}
use Rattle.table_cell.specs.Handing.{is_about}
use Rattle.table_cell.specs.Standing.{AreAmong, IsAmong, is_close_of, is_standing_of, left_standing, standing_batches}
use Rattle.table_cell.proofs.ReachLaws.{is_up_to}
use Rattle.table_cell.proofs.StepLaws.{acknowledging_bound, copied_between, copy_granted, last_of_some, passes, step_sound}
use Rattle.table_cell.proofs.HandingSessions.{bound_next, own_with, same_progress, same_progress_of}
use Rattle.table_cell.proofs.HandingRows.{IsIn, each_in, from_filter, in_filter, passing, still_live}
use Rattle.table_cell.proofs.HandingSteps.{copy_of, last_most, standing_within}

-- ---- the progress of a session that stays open

-- its bound stays, its numbers don't fall, and a standing resync raises the number taught, up to the bound
record Goes (n : ℕ) (event : CellEvent) (p q : Progress) : Type 0 where
  pub bound : q.bound ≡ p.bound
  pub acknowledged : p.acknowledged ≤ q.acknowledged
  pub taught : p.taught ≤ q.taught
  pub up : is_standing_of n event ≡ true → (p.taught < q.taught) × (q.taught ≤ q.bound)

no_standing : (n : ℕ) (event : CellEvent) → is_about n event ≡ false → is_standing_of n event ≡ false
no_standing n (events.Copy id kinds.Standing limit now) other = other
no_standing n (events.Copy id kinds.Push limit now) other = refl
no_standing n (events.Copy id kinds.Resync limit now) other = refl
no_standing n (events.Track seat key change now) other = refl
no_standing n (events.Learn session u now) other = refl
no_standing n (events.Ack session number) other = refl
no_standing n (events.Open session version) other = refl
no_standing n (events.Close session) other = refl
no_standing n (events.Purge now) other = refl

-- an event that isn't about the session
other_goes : (n : ℕ) (s e : TableState) (event : CellEvent) (reply : CellReply) (p : Progress) → is_about n event ≡ false → Step s event reply e → progress_of n s ≡ Some p
    → (q : Progress) × (progress_of n e ≡ Some q) × Goes n event p q
other_goes n s e event reply p other step at = (
  p,
  same_progress_of n s e event reply other step ∙ at,
  record {
    bound = refl;
    acknowledged = omega arith;
    taught = omega arith;
    up = λ standing. absurd (true≢false (sym standing ∙ no_standing n event other));
  },
)

-- the last number of a batch within a bound
last_bounded : (bound least : ℕ) (us : List Update) → AllByRecursion (λ (u : Update). u.number ≤ bound) us → nat_eq (length us) 0 ≡ false → last_number least us ≤ bound
last_bounded bound least [] all some = absurd (true≢false some)
last_bounded bound least (u ∷ us) (first, rest) some = last_most bound u.number us rest first

standing_last : (n : ℕ) (s : TableState) (kind : CopyKind) (limit now least : ℕ) → is_standing_of n (events.Copy n kind limit now) ≡ true → nat_eq (length (unacked s n kind now limit)) 0 ≡ false
    → last_number least (unacked s n kind now limit) ≤ bound_by (progress_of n s)
standing_last n s kinds.Push limit now least standing some = absurd (true≢false (sym standing))
standing_last n s kinds.Resync limit now least standing some = absurd (true≢false (sym standing))
standing_last n s kinds.Standing limit now least standing some =
    last_bounded (bound_by (progress_of n s)) least (unacked s n kinds.Standing now limit) (standing_within (version_by (progress_of n s)) s (bound_by (progress_of n s)) (acknowledged_by (progress_of n s)) now limit) some

copy_goes : (n : ℕ) (s e : TableState) (kind : CopyKind) (limit now : ℕ) (reply : CellReply) (p : Progress) → IsSound s → Step s (events.Copy n kind limit now) reply e → progress_of n s ≡ Some p
    → (q : Progress) × (progress_of n e ≡ Some q) × Goes n (events.Copy n kind limit now) p q
copy_goes n s e kind limit now reply p sound (granted, answer, is) at =
    let found = copy_of s n kind limit now granted in
    let some = copy_granted false s n kind limit now granted in
    let new = unacked s n kind now limit in
    let taught = λ (r : Progress). record r { taught = last_number r.taught new } in
    let next : progress_of n e ≡ Some (record p { taught = last_number p.taught new }) = ap (progress_of n) is ∙ own_with n taught s.sessions ∙ ap (option_map taught) at in
    let none_out : is_out p ≡ false = subst (λ (r : Progress). is_out r ≡ false) (same_progress found.0 p (sym found.1.found ∙ at)) found.1.none_out in
    let settled = ltb-false p.acknowledged p.taught none_out in
    let low : acknowledged_by (progress_of n s) ≡ p.acknowledged = ap acknowledged_by at in
    let last = last_of_some (acknowledged_by (progress_of n s)) s.next p.taught new (copied_between s n kind limit now sound) some.1.some in
    let higher : p.taught < last_number p.taught new = let above = last.0 in omega arith in (
      record p { taught = last_number p.taught new },
      next,
      record {
        bound = refl;
        acknowledged = omega arith;
        taught = omega arith;
        up = λ standing. (higher, subst (λ (o : Option Progress). last_number p.taught new ≤ bound_by o) at (standing_last n s kind limit now p.taught standing some.1.some));
      },
    )

ack_goes : (n : ℕ) (s e : TableState) (number : ℕ) (reply : CellReply) (p : Progress) → Step s (events.Ack n number) reply e → progress_of n s ≡ Some p
    → (q : Progress) × (progress_of n e ≡ Some q) × Goes n (events.Ack n number) p q
ack_goes n s e number reply p (granted, answer, is) at = (
  acknowledging number p,
  ap (progress_of n) is ∙ own_with n (acknowledging number) s.sessions ∙ ap (option_map (acknowledging number)) at,
  record {
    bound = acknowledging_bound number p;
    acknowledged = cond_both (nat_le number p.acknowledged) p (record p { acknowledged = number }) (λ (q : Progress). p.acknowledged ≤ q.acknowledged) (λ _. omega arith) (λ more. let over = leb-false number p.acknowledged more in omega arith);
    taught = cond_both (nat_le number p.acknowledged) p (record p { acknowledged = number }) (λ (q : Progress). p.taught ≤ q.taught) (λ _. omega arith) (λ _. omega arith);
    up = λ standing. absurd (true≢false (sym standing));
  },
)

step_goes : (n : ℕ) (s e : TableState) (event : CellEvent) (reply : CellReply) (p : Progress) → IsSound s → Step s event reply e → is_close_of n event ≡ false → progress_of n s ≡ Some p
    → (q : Progress) × (progress_of n e ≡ Some q) × Goes n event p q
step_goes n s e (events.Track seat key change now) reply p sound step stays at = other_goes n s e (events.Track seat key change now) reply p refl step at
step_goes n s e (events.Learn session u now) reply p sound step stays at = other_goes n s e (events.Learn session u now) reply p refl step at
step_goes n s e (events.Copy session kind limit now) reply p sound step stays at = elim (cases_eq session n) [
  | inl same ↦
      subst (λ (k : ℕ). progress_of k s ≡ Some p → (q : Progress) × (progress_of k e ≡ Some q) × Goes k (events.Copy session kind limit now) p q) same
      (copy_goes session s e kind limit now reply p sound step) at
  | inr differs ↦ other_goes n s e (events.Copy session kind limit now) reply p (ne_eqb session n differs) step at
]
step_goes n s e (events.Ack session number) reply p sound step stays at = elim (cases_eq session n) [
  | inl same ↦
      subst (λ (k : ℕ). progress_of k s ≡ Some p → (q : Progress) × (progress_of k e ≡ Some q) × Goes k (events.Ack session number) p q) same
      (ack_goes session s e number reply p step) at
  | inr differs ↦ other_goes n s e (events.Ack session number) reply p (ne_eqb session n differs) step at
]
step_goes n s e (events.Open session version) reply p sound (granted, answer, is) stays at = elim (cases_eq session n) [
  | inl same ↦
      let o = passes (is_some (progress_of session s)) _ _ granted in
      absurd (true≢false (sym (ap is_some at) ∙ sym (ap (λ (k : ℕ). is_some (progress_of k s)) same) ∙ o.0))
  | inr differs ↦ other_goes n s e (events.Open session version) reply p (ne_eqb session n differs) (granted, answer, is) at
]
step_goes n s e (events.Close session) reply p sound step stays at = other_goes n s e (events.Close session) reply p stays step at
step_goes n s e (events.Purge now) reply p sound step stays at = other_goes n s e (events.Purge now) reply p refl step at

pub stays_open : (s e : TableState) (event : CellEvent) (reply : CellReply) (session : ℕ) (p : Progress) → IsSound s → Step s event reply e → is_close_of session event ≡ false → progress_of session s ≡ Some p
    → (q : Progress) × (progress_of session e ≡ Some q) × (q.bound ≡ p.bound) × (p.acknowledged ≤ q.acknowledged) × (p.taught ≤ q.taught)
stays_open s e event reply n p sound step stays at =
    let after = step_goes n s e event reply p sound step stays at in
    (after.0, after.1, after.2.bound, after.2.acknowledged, after.2.taught)

-- ---- a run in which a session stays open

pub standings_end : (s e : TableState) (hs : List (CellEvent × CellReply)) (session : ℕ) (p : Progress) → AreTimely hs → IsSound s → Replays s hs e → list_any (λ h. is_close_of session h.0) hs ≡ false → progress_of session s ≡ Some p
    → standing_batches session hs ≤ p.bound - p.taught
standings_end s e [] n p timely sound run stays at = omega arith
standings_end s e (h ∷ hs) n p (now, later) sound (mid, step, rest) stays at =
    let parts = or_parts (is_close_of n h.0) (list_any (λ (x : CellEvent × CellReply). is_close_of n x.0) hs) stays in
    let after = step_goes n s mid h.0 h.1 p sound step parts.0 at in
    let q = after.0 in
    let goes = after.2 in
    let others = filter (λ (x : CellEvent × CellReply). is_standing_of n x.0) hs in
    let fewer : length others ≤ q.bound - q.taught = standings_end mid e hs n q later (step_sound s mid h.0 h.1 now sound step) rest parts.1 after.1 in
    let same : q.bound ≡ p.bound = goes.bound in
    let more : p.taught ≤ q.taught = goes.taught in
    cond_both (is_standing_of n h.0) (h ∷ others) others (λ (l : List (CellEvent × CellReply)). length l ≤ p.bound - p.taught)
    (λ standing. let up = goes.up standing in omega (arith, up.0, up.1, fewer, same))
    (λ _. omega (arith, fewer, same, more))

-- ---- what is left

in_end : {A : Type 0} (x y : A) (xs : List A) → IsIn x (xs ++ y ∷ []) → IsIn x xs ⊎ (x ≡ y)
in_end x y [] (inl is) = inr is
in_end x y [] (inr none) = absurd none
in_end x y (z ∷ zs) (inl is) = inl (inl is)
in_end x y (z ∷ zs) (inr later) = elim (in_end x y zs later) [
  | inl at ↦ inl (inr at)
  | inr is ↦ inr is
]

left_in : (s : TableState) (key : Key) (rest : List (Key × StoredRow)) (x : Key × StoredRow) → Leaves s key rest → IsIn x rest → IsIn x s.rows
left_in s key rest x leaves at = by (has_room s key) leaves
  where
    by : (room : Bool) → MatchBool room (rest ≡ s.rows) ((first : Key) × IsFirstToEnd s.rows first × (rest ≡ without first s.rows)) → IsIn x s.rows
    by true same = subst (IsIn x) same at
    by false (first, is_first, same) = from_filter (λ (e : Key × StoredRow). not (is_eq (key_cmp first e.0))) x s.rows (subst (IsIn x) same at)

-- a row that is stored comes after those that remain
stored_in : (s : TableState) (key : Key) (row : StoredRow) (rest : List (Key × StoredRow)) (x : Key × StoredRow) → row.number ≡ s.next → Leaves s key rest → IsIn x (without key rest ++ (key, row) ∷ []) → IsIn x s.rows ⊎ (x.1.number ≡ s.next)
stored_in s key row rest x number leaves at = elim (in_end x (key, row) (without key rest) at) [
  | inl before ↦ inl (left_in s key rest x leaves (from_filter (λ (e : Key × StoredRow). not (is_eq (key_cmp key e.0))) x rest before))
  | inr is ↦ inr (ap (λ (y : Key × StoredRow). y.1.number) is ∙ number)
]

-- a row was there before, or has the next number
rows_before : (s e : TableState) (event : CellEvent) (reply : CellReply) (x : Key × StoredRow) → Step s event reply e → IsIn x e.rows → IsIn x s.rows ⊎ (x.1.number ≡ s.next)
rows_before s e (events.Track seat key change now) reply x (granted, rest, leaves, answer, is) at =
    stored_in s key (tracked s key change now) rest x refl leaves (subst (λ (t : TableState). IsIn x t.rows) is at)
rows_before s e (events.Learn session u now) reply x (granted, rest, leaves, answer, is) at =
    stored_in s u.key (learned s u now) rest x refl leaves (subst (λ (t : TableState). IsIn x t.rows) is at)
rows_before s e (events.Copy session kind limit now) reply x (granted, answer, is) at = inl (subst (λ (t : TableState). IsIn x t.rows) is at)
rows_before s e (events.Ack session number) reply x (granted, answer, is) at = inl (subst (λ (t : TableState). IsIn x t.rows) is at)
rows_before s e (events.Open session version) reply x (granted, answer, is) at = inl (subst (λ (t : TableState). IsIn x t.rows) is at)
rows_before s e (events.Close session) reply x (granted, answer, is) at = inl (subst (λ (t : TableState). IsIn x t.rows) is at)
rows_before s e (events.Purge now) reply x (granted, answer, is) at =
    inl (from_filter (λ (row : Key × StoredRow). is_live now row.1) x s.rows (subst (λ (t : TableState). IsIn x t.rows) is at))

old_row : (s : TableState) (x : Key × StoredRow) → x.1.number < s.next → IsIn x s.rows ⊎ (x.1.number ≡ s.next) → IsIn x s.rows
old_row s x below (inl old) = old
old_row s x below (inr new) = absurd (omega arith)

is_among : (xs : List (Key × StoredRow)) (x : Key × StoredRow) → IsIn x xs → IsAmong xs x
is_among [] x at = at
is_among (y ∷ ys) x (inl is) = inl is
is_among (y ∷ ys) x (inr later) = inr (is_among ys x later)

pub left_shrinks : (s e : TableState) (event : CellEvent) (reply : CellReply) (session now later : ℕ) (p : Progress) → IsSound s → Step s event reply e → is_close_of session event ≡ false → progress_of session s ≡ Some p → now ≤ later
    → AreAmong (left_standing session now s) (left_standing session later e)
left_shrinks s e event reply n now later p sound step stays at order =
    each_in (IsAmong (left_standing n now s)) (left_standing n later e) (λ x there. is_among (left_standing n now s) x (still_left x there))
  where
    after : (q : Progress) × (progress_of n e ≡ Some q) × Goes n event p q
    after = step_goes n s e event reply p sound step stays at

    low : ℕ
    low = acknowledged_by (progress_of n s)

    low_after : ℕ
    low_after = acknowledged_by (progress_of n e)

    bound : ℕ
    bound = bound_by (progress_of n s)

    bound_after : ℕ
    bound_after = bound_by (progress_of n e)

    still_left : (x : Key × StoredRow) → IsIn x (left_standing n later e) → IsIn x (left_standing n now s)
    still_left x there =
        let near_rows = filter (is_up_to bound_after) e.rows in
        let due = passing (is_unacked kinds.Standing low_after later) x near_rows there in
        let inside = from_filter (is_unacked kinds.Standing low_after later) x near_rows there in
        let near = leb-true x.1.number bound_after (passing (is_up_to bound_after) x e.rows inside) in
        let parts = and_parts (nat_lt low_after x.1.number && true) (is_live later x.1) due in
        let above = ltb-true low_after x.1.number ((and_parts (nat_lt low_after x.1.number) true parts.0).0) in
        let was : low ≡ p.acknowledged = ap acknowledged_by at in
        let goes : low_after ≡ after.0.acknowledged = ap acknowledged_by after.1 in
        let bounded : bound ≡ p.bound = ap bound_by at in
        let kept : bound_after ≡ after.0.bound = ap bound_by after.1 in
        let up : p.acknowledged ≤ after.0.acknowledged = after.2.acknowledged in
        let same : after.0.bound ≡ p.bound = after.2.bound in
        let below : p.bound < s.next = bound_next n s.next p s.sessions sound.bounds at in
        let before : IsIn x s.rows = old_row s x (omega (arith, near, kept, same, below)) (rows_before s e event reply x step (from_filter (is_up_to bound_after) x e.rows inside)) in
        let within : is_up_to bound x ≡ true = le-leb x.1.number bound (omega (arith, near, kept, same, bounded)) in
        let higher : nat_lt low x.1.number ≡ true = lt-ltb low x.1.number (omega (arith, above, was, goes, up)) in
        in_filter (is_unacked kinds.Standing low now) x (filter (is_up_to bound) s.rows) (in_filter (is_up_to bound) x s.rows before within)
        (and_from (nat_lt low x.1.number && true) (is_live now x.1) (and_from (nat_lt low x.1.number) true higher refl) (still_live now later x.1 order parts.1))
