-- A session is tied to all tables when it is opened anew in each.
use Rattle.std.proofs.Common.{◌≡◌, ◌≢◌, ℕ, ◌≤◌, Bool, true, false, ◌||◌, List, [], ◌∷◌, ◌++◌, length, drop, Option, Some, None, refl, sym, ap, subst, ◌∙◌, arith, inl, inr}
use Rattle.std.specs.Prelude.{nat_eq, nat_lt, option_and_then, option_map}
use Rattle.std.specs.List.{AllByRecursion, list_any}
use Rattle.std.proofs.lemmas.Bool.{cases_Bool, cond-true, eq-eqb, ne_eqb, ltb-false}
use Rattle.table_types.specs.declared.update.Update.{Update}
use Rattle.table_types.specs.declared.version.Version.{Version}
use Rattle.table_types.specs.Tables.{Definition}
use Rattle.table_types.specs.Rosters.{has_id}
use Rattle.known_state.specs.Known.{is_in}
use Rattle.table_cell.specs.declared.events.CellEvent.TheVariants as events
use Rattle.table_cell.specs.declared.events.CellReply.TheVariants as replies
use Rattle.table_cell.specs.declared.progress.Progress.{Progress}
use Rattle.table_cell.specs.Machine.{has_out, no_progress, progress_of}
use Rattle.table_cell.specs.Histories.{CellState, Made}
use Rattle.table_cell.specs.Handing.{numbers}
use Rattle.interleave_core.specs.Moves.{closed, opened, reopened_all}
use Rattle.interleave_core.specs.Sound.{acked_numbers}
use Rattle.interleave_core.specs.Ties.{AreTied, IsJustOpened, IsTiedTo, Share, joined, of_table, opened_share, share_of}
use Rattle.interleave_core.specs.Worlds.{ConnectionState, cell_at, is_table, new_connection, roster_of}
use Rattle.interleave_core.proofs.TieCells.{at_here, at_there, none_there, same_one}
use Rattle.interleave_core.proofs.TieNumbers.{is_quiet, none_tied}
use Rattle.interleave_core.proofs.TiePairs.{all_still, closed_made, open_tied, opened_made, other_tied, same_id}
use Rattle.interleave_core.proofs.TieShares.{none_behind, of_append, same_share, split_handed}
use Rattle.interleave_core.proofs.TieSteps.{HasTie}

-- ---- each table, closed and opened

-- the table is what another is after the session was closed and opened
abbrev pub IsReopenedFrom : ℕ → Version → CellState → CellState → Type 0
IsReopenedFrom n v c e = (mid : CellState) × Made c (events.Close n) replies.Close mid × Made mid (events.Open n v) replies.Open e

pub same_cells : (a b : List CellState) → ◌≡◌ {A = Option (List CellState)} (Some a) (Some b) → a ≡ b
same_cells a b is = cc

-- the table between the two
pub between : (n : ℕ) (v : Version) (c e : CellState) → option_and_then (opened n v) (closed n c) ≡ Some e → (mid : CellState) × (closed n c ≡ Some mid) × (opened n v mid ≡ Some e)
between n v c e is = by (closed n c) refl is
  where
    by : (o : Option CellState) → closed n c ≡ o → option_and_then (opened n v) o ≡ Some e → (mid : CellState) × (closed n c ≡ Some mid) × (opened n v mid ≡ Some e)
    by None at then = absurd (none_there e then)
    by (Some mid) at then = (mid, at, then)

one_reopened : (n : ℕ) (v : Version) (c e : CellState) → option_and_then (opened n v) (closed n c) ≡ Some e → IsReopenedFrom n v c e
one_reopened n v c e is = let (mid, closing, opening) = between n v c e is in (mid, closed_made n c mid closing, opened_made n v mid e opening)

-- the first table and the others
pub parts : (n : ℕ) (v : Version) (c : CellState) (cs after : List CellState) → reopened_all n v (c ∷ cs) ≡ Some after
    → (first : CellState) × (rest : List CellState) × (option_and_then (opened n v) (closed n c) ≡ Some first) × (reopened_all n v cs ≡ Some rest) × (first ∷ rest ≡ after)
parts n v c cs after all = by (option_and_then (opened n v) (closed n c)) refl all
  where
    of_rest : (first : CellState) → option_and_then (opened n v) (closed n c) ≡ Some first → (o : Option (List CellState)) → reopened_all n v cs ≡ o → option_map (λ (rest : List CellState). first ∷ rest) o ≡ Some after
        → (first : CellState) × (rest : List CellState) × (option_and_then (opened n v) (closed n c) ≡ Some first) × (reopened_all n v cs ≡ Some rest) × (first ∷ rest ≡ after)
    of_rest first is None at joined = absurd (none_there after joined)
    of_rest first is (Some rest) at joined = (first, rest, is, at, same_cells (first ∷ rest) after joined)

    by : (o : Option CellState) → option_and_then (opened n v) (closed n c) ≡ o → option_and_then (λ (first : CellState). option_map (λ (rest : List CellState). first ∷ rest) (reopened_all n v cs)) o ≡ Some after
        → (first : CellState) × (rest : List CellState) × (option_and_then (opened n v) (closed n c) ≡ Some first) × (reopened_all n v cs ≡ Some rest) × (first ∷ rest ≡ after)
    by None is then = absurd (none_there after then)
    by (Some first) is then = of_rest first is (reopened_all n v cs) refl then

reopened_id : (n : ℕ) (v : Version) (c e : CellState) → IsReopenedFrom n v c e → e.state.definition.id ≡ c.state.definition.id
reopened_id n v c e (mid, closing, opening) = same_id mid e (events.Open n v) replies.Open opening ∙ same_id c mid (events.Close n) replies.Close closing

-- each table of `after` was opened anew from the table of `cells` with its id
pub each_reopened : (n : ℕ) (v : Version) (cells after : List CellState) → reopened_all n v cells ≡ Some after → (t : ℕ) (e : CellState) → cell_at t after ≡ Some e
    → (c : CellState) × (cell_at t cells ≡ Some c) × IsReopenedFrom n v c e
each_reopened n v [] after all t e at = absurd (none_there e (ap (cell_at t) (same_cells [] after all) ∙ at))
each_reopened n v (c ∷ cs) after all t e at =
    let (first, rest, at_first, others, is) = parts n v c cs after all in
    let from = one_reopened n v c first at_first in
    let found : cell_at t (first ∷ rest) ≡ Some e = ap (cell_at t) is ∙ at in
    let id = reopened_id n v c first from in
    elim (cases_Bool (is_table t first)) [
      | inl here ↦
          let same = same_one first e (sym (at_here t first rest here) ∙ found) in
          (c, at_here t c cs (ap (λ (k : ℕ). nat_eq k t) (sym id) ∙ here), subst (IsReopenedFrom n v c) same from)
      | inr past ↦
          let later = each_reopened n v cs rest others t e (sym (at_there t first rest past) ∙ found) in
          (later.0, at_there t c cs (ap (λ (k : ℕ). nat_eq k t) (sym id) ∙ past) ∙ later.1, later.2)
    ]

-- ---- another session

pub others_reopened : (n : ℕ) (v : Version) (m before : ℕ) (s : ConnectionState) (acks : List (ℕ × ℕ)) (cells after : List CellState) → m ≢ n → reopened_all n v cells ≡ Some after
    → AreTied m before s acks cells → AreTied m before s acks after
others_reopened n v m before s acks cells after other all ties = record { within = ties.within; each = each }
  where
    apart : nat_eq n m ≡ false
    apart = ne_eqb n m (λ same. other (sym same))

    each : (t : ℕ) (e : CellState) → cell_at t after ≡ Some e → HasTie m before s acks t e
    each t e at =
        let (c, found, (mid, closing, opening)) = each_reopened n v cells after all t e at in
        let old = ties.each t c found in
        (old.0, other_tied m (share_of t before s acks) mid e (events.Open n v) replies.Open old.0 apart opening (other_tied m (share_of t before s acks) c mid (events.Close n) replies.Close old.0 apart closing old.1))

-- ---- a new connection

pub fresh_ties : (n : ℕ) (v : Version) (roster : List Definition) (cells : List CellState)
    → ((t : ℕ) (c : CellState) → cell_at t cells ≡ Some c → IsJustOpened n c)
    → AreTied n 0 (new_connection v roster) [] cells
fresh_ties n v roster cells just = record {
  within = omega arith;
  each = λ t c at. (no_progress (just t c at).0 (just t c at).1, record { progress = (just t c at).2; same = sym (just t c at).3; tied = none_tied; from = tt });
}

pub new_ties : (n : ℕ) (v : Version) (roster : List Definition) (cells after : List CellState) → reopened_all n v cells ≡ Some after → AreTied n 0 (new_connection v roster) [] after
new_ties n v roster cells after all = record { within = omega arith; each = each }
  where
    each : (t : ℕ) (e : CellState) → cell_at t after ≡ Some e → HasTie n 0 (new_connection v roster) [] t e
    each t e at =
        let (c, found, (mid, closing, opening)) = each_reopened n v cells after all t e at in
        (no_progress v mid.state.next, open_tied n v [] mid e replies.Open opening tt)

-- ---- the same connection

none_any : (p : CellState → Bool) (t : ℕ) (c : CellState) (cells : List CellState) → list_any p cells ≡ false → cell_at t cells ≡ Some c → p c ≡ false
none_any p t c [] none at = absurd (none_there c at)
none_any p t c (x ∷ xs) none at = elim (cases_Bool (is_table t x)) [
  | inl here ↦ ap p (sym (same_one x c (sym (at_here t x xs here) ∙ at))) ∙ (either (p x) (list_any p xs) none).0
  | inr past ↦ none_any p t c xs (either (p x) (list_any p xs) none).1 (sym (at_there t x xs past) ∙ at)
]
  where
    either : (a b : Bool) → (a || b) ≡ false → (a ≡ false) × (b ≡ false)
    either false b none = (refl, none)
    either true b none = absurd (Rattle.std.proofs.Common.true≢false none)

-- a table with an id of the roster is found
pub found_of : (t : ℕ) (cells : List CellState) → has_id t (roster_of cells) ≡ true → (c : CellState) × (cell_at t cells ≡ Some c)
found_of t [] has = absurd (Rattle.std.proofs.Common.true≢false (sym has))
found_of t (c ∷ cs) has = elim (cases_Bool (is_table t c)) [
  | inl here ↦ (c, at_here t c cs here)
  | inr past ↦
      let later = found_of t cs (sym (ap (λ b. b || has_id t (roster_of cs)) past) ∙ has) in
      (later.0, at_there t c cs past ∙ later.1)
]

-- updates of which no table has any are none
none_at_all : (us : List Update) (cells : List CellState) → AllByRecursion (λ (u : Update). has_id u.table (roster_of cells) ≡ true) us
    → ((t : ℕ) (c : CellState) → cell_at t cells ≡ Some c → of_table t us ≡ []) → us ≡ []
none_at_all [] cells all none = refl
none_at_all (u ∷ us) cells (has, all) none =
    let found = found_of u.table cells has in
    absurd (some u (of_table u.table us) (sym (cond-true (nat_eq u.table u.table) (u ∷ of_table u.table us) (of_table u.table us) (eq-eqb u.table u.table refl)) ∙ none u.table found.0 found.1))
  where
    some : (v : Update) (vs : List Update) → v ∷ vs ≡ [] → ⊥
    some v vs is = cc

nothing_two : {A : Type 0} (xs ys : List A) → xs ++ ys ≡ [] → (xs ≡ []) × (ys ≡ [])
nothing_two [] ys none = (refl, none)
nothing_two (x ∷ xs) ys none = absurd cc

drop_all : {A : Type 0} (k : ℕ) (xs : List A) → length xs ≤ k → drop k xs ≡ []
drop_all Rattle.std.proofs.Common.zero [] le = refl
drop_all Rattle.std.proofs.Common.zero (x ∷ xs) le = absurd (omega arith)
drop_all (Rattle.std.proofs.Common.suc k) [] le = refl
drop_all (Rattle.std.proofs.Common.suc k) (x ∷ xs) le = drop_all k xs (omega arith)

-- what a session without a batch out has of a table
pub record IsAtRest (t before : ℕ) (s : ConnectionState) (acks : List (ℕ × ℕ)) (to_come : List Update) : Type 0 where
  pub arrived : of_table t to_come ≡ []
  pub taught : of_table t (joined s.copied) ≡ []
  pub answered : acked_numbers t acks ≡ []
  pub due : is_in t s.learner.intake.due ≡ false

pub at_rest : (n t before : ℕ) (s : ConnectionState) (acks : List (ℕ × ℕ)) (to_come : List Update) (c : CellState) (p : Progress) → before ≤ length s.applied → s.taught ≡ s.applied ++ to_come
    → has_out (progress_of n c.state) ≡ false → IsTiedTo n (share_of t before s acks) c p → IsAtRest t before s acks to_come
at_rest n t before s acks to_come c p within split quiet tie =
    let not_out : nat_lt p.acknowledged p.taught ≡ false = ap has_out (sym tie.progress) ∙ quiet in
    let rest = is_quiet (numbers (share_of t before s acks).handed) (numbers (share_of t before s acks).done) (acked_numbers t acks) p.acknowledged p.taught (is_in t s.learner.intake.due) (ltb-false p.acknowledged p.taught not_out) tie.tied in
    let whole = split_handed t before s.taught s.applied to_come s.copied within split in
    let behind = none_behind (of_table t (drop before s.applied)) (of_table t (to_come ++ joined s.copied)) (ap numbers (sym whole) ∙ rest.0) in
    let two = nothing_two (of_table t to_come) (of_table t (joined s.copied)) (sym (of_append t to_come (joined s.copied)) ∙ behind) in
    record { arrived = two.0; taught = two.1; answered = rest.1; due = rest.2 }

-- no batch is out, and the session is opened anew
pub still_ties : (n : ℕ) (v : Version) (before : ℕ) (s : ConnectionState) (acks : List (ℕ × ℕ)) (to_come : List Update) (cells after : List CellState) → s.taught ≡ s.applied ++ to_come
    → AllByRecursion (λ (u : Update). has_id u.table (roster_of cells) ≡ true) to_come
    → list_any (λ (c : CellState). has_out (progress_of n c.state)) cells ≡ false → reopened_all n v cells ≡ Some after
    → AreTied n before s acks cells → (to_come ≡ []) × AreTied n (length s.taught) s acks after
still_ties n v before s acks to_come cells after split known quiet all ties =
    (nothing, record { within = subst (λ (l : List Update). length l ≤ length s.applied) (sym all_applied) (omega arith); each = each })
  where
    rest_at : (t : ℕ) (c : CellState) → cell_at t cells ≡ Some c → IsAtRest t before s acks to_come
    rest_at t c at =
        let old = ties.each t c at in
        at_rest n t before s acks to_come c old.0 ties.within split (none_any (λ (x : CellState). has_out (progress_of n x.state)) t c cells quiet at) old.1

    nothing : to_come ≡ []
    nothing = none_at_all to_come cells known (λ t c at. (rest_at t c at).arrived)

    all_applied : s.taught ≡ s.applied
    all_applied = split ∙ ap (λ (l : List Update). s.applied ++ l) nothing ∙ Rattle.std.proofs.Common.append-nil s.applied

    each : (t : ℕ) (e : CellState) → cell_at t after ≡ Some e → HasTie n (length s.taught) s acks t e
    each t e at =
        let (c, found, (mid, closing, opening)) = each_reopened n v cells after all t e at in
        let old = ties.each t c found in
        let rest = rest_at t c found in
        let all_of = of_table t (s.taught ++ joined s.copied) in
        let copied = all_still n c mid (events.Close n) replies.Close all_of closing old.1.from in
        let is : opened_share all_of ≡ share_of t (length s.taught) s acks =
        sym (same_share (share_of t (length s.taught) s acks) (opened_share all_of) refl
        (ap (λ (l : List Update). of_table t (l ++ joined s.copied)) (drop_all (length s.taught) s.taught (omega arith)) ∙ rest.taught)
        (ap (of_table t) (drop_all (length s.taught) s.applied (subst (λ (l : List Update). length s.applied ≤ length l) (sym all_applied) (omega arith))))
        rest.answered rest.due) in
        (no_progress v mid.state.next, subst (λ (x : Share). IsTiedTo n x e (no_progress v mid.state.next)) is (open_tied n v all_of mid e replies.Open opening copied))
