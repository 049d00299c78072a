-- What a session has acknowledged was handed out to it.
use Rattle.std.proofs.Common.{◌≡◌, ℕ, zero, suc, ◌≤◌, Bool, true, false, ◌&&◌, List, [], ◌∷◌, ◌++◌, Option, Some, None, refl, sym, ap, subst, ◌∙◌, arith, inl, inr, true≢false}
use Rattle.std.specs.Prelude.{filter, map, take, nat_lt, nat_eq, cond, length, ◌==◌, if◌then◌else◌}
use Rattle.std.specs.List.{AllByRecursion}
use Rattle.std.proofs.lemmas.Bool.{cases_lt, lt-ltb, ltb-false, ne_eqb, and_from}
use Rattle.std.proofs.lemmas.List.{append-nil}
use Rattle.table_types.specs.declared.key.Key.{Key}
use Rattle.table_types.specs.declared.update.Update.{Update}
use Rattle.table_types.specs.declared.copies.CopyKind.{CopyKind}
use Rattle.table_types.specs.Rows.{StoredRow}
use Rattle.table_rows.specs.Rows.{is_live}
use Rattle.table_cell.specs.Copying.{update_of}
use Rattle.table_cell.specs.declared.errors.CopyError.{CopyError}
use Rattle.table_cell.specs.declared.errors.CopyError.TheVariants as uncopied
use Rattle.table_cell.specs.declared.progress.Progress.{Progress}
use Rattle.table_cell.specs.Machine.{TableState, acknowledged_by, bound_by, copy_refusal, in_reach, is_copied, is_out, is_unacked, last_number, progress_of, unacked, version_by}
use Rattle.table_cell.specs.Histories.{CellState, IsSoundCell}
use Rattle.table_cell.specs.Handing.{Ascend, IsHanded, IsHandedOut, IsLastOfItsKey, IsNoOlder, IsReached, KeepsUp, handed_since, is_of_each_kind, numbers, resyncs_since}
use Rattle.table_cell.proofs.HandingSessions.{below_next}
use Rattle.table_cell.proofs.HandingRows.{IsIn, all_front, ascend_front, each_in, in_filter, in_front, last_of_key, of_each, reach_from, still_live}
use Rattle.table_cell.proofs.HandingSteps.{WasHanded}

-- ---- what was acknowledged

-- what the learner has taken of what was handed out, as far as the number acknowledged
pub front_taken : (c : CellState) (session now : ℕ) (p : Progress) (taken rest : List Update) → IsSoundCell c → KeepsUp session c → progress_of session c.state ≡ Some p → c.state.latest ≤ now
    → handed_since session c.history ≡ taken ++ rest → p.acknowledged ≤ last_number 0 taken
    → AllByRecursion (λ (e : Key × StoredRow). IsReached (resyncs_since session c.history) p.acknowledged now e → IsLastOfItsKey taken e) c.state.rows
front_taken c n now p taken rest sound keeps at later split far =
    each_in (λ (e : Key × StoredRow). IsReached resyncs p.acknowledged now e → IsLastOfItsKey taken e) c.state.rows (λ e there (within, live, each).
    let bounds = below_next n c.state.next p c.state.sessions sound.sound.progress at in
    let order = bounds.0 in
    let handed = of_each (WasHanded us resyncs p.taught c.state.latest) e c.state.rows out.handed there (omega arith, still_live c.state.latest now e.1 later live, each) in
    let no_older = of_each (IsNoOlder us) e c.state.rows out.no_older there in
    last_of_key 0 e taken (ascend_front 0 taken rest ascend) (in_front 0 e taken rest ascend (subst (λ (l : List Update). IsHanded l e) split handed) (omega arith))
    (all_front (λ (u : Update). u.key ≡ e.0 → u.number ≤ e.1.number) taken rest (subst (λ (l : List Update). IsNoOlder l e) split no_older)))
  where
    us : List Update
    us = handed_since n c.history

    resyncs : Bool
    resyncs = resyncs_since n c.history

    out : IsHandedOut us resyncs p.taught c.state
    out = keeps p at

    ascend : Ascend 0 (numbers (taken ++ rest))
    ascend = subst (λ (l : List Update). Ascend 0 (numbers l)) split out.ascend

pub all_taken : (c : CellState) (session now : ℕ) (p : Progress) → IsSoundCell c → KeepsUp session c → progress_of session c.state ≡ Some p → c.state.latest ≤ now
    → AllByRecursion (λ (e : Key × StoredRow). IsReached (resyncs_since session c.history) p.acknowledged now e → IsLastOfItsKey (handed_since session c.history) e) c.state.rows
all_taken c n now p sound keeps at later =
    let bounds = below_next n c.state.next p c.state.sessions sound.sound.progress at in
    let order = bounds.0 in
    let last = (keeps p at).last in
    front_taken c n now p (handed_since n c.history) [] sound keeps at later (sym (append-nil (handed_since n c.history))) (omega arith)

-- ---- nothing to copy

not_first : {E : Type 0} (b : Bool) (x y : E) (rest : Option E) → cond b (Some x) rest ≡ Some y → (◌≡◌ {A = Option E} (Some x) (Some y) → ⊥) → (b ≡ false) × (rest ≡ Some y)
not_first true x y rest is apart = absurd (apart is)
not_first false x y rest is apart = (refl, is)

-- a copy that finds nothing
record FindsNothing (s : TableState) (session : ℕ) (kind : CopyKind) (limit now : ℕ) (p : Progress) : Type 0 where
  pub found : progress_of session s ≡ Some p
  pub later : s.latest ≤ now
  pub nothing : nat_eq (length (unacked s session kind now limit)) 0 ≡ true

finds_nothing : (full : Bool) (s : TableState) (session : ℕ) (kind : CopyKind) (limit now : ℕ) → copy_refusal full s session kind limit now ≡ Some uncopied.Nothing → (p : Progress) × FindsNothing s session kind limit now p
finds_nothing full s session kind limit now refused = by (progress_of session s) refl
  where
    of_session : Option Progress → Option CopyError
    of_session None = Some uncopied.NoSession
    of_session (Some progress) =
        if nat_lt now s.latest then Some uncopied.MomentBack
        else (if is_out progress then Some uncopied.BatchOut
        else (if length (unacked s session kind now limit) == 0 then Some uncopied.Nothing
        else (if full then Some uncopied.HistoryFull
        else None)))

    no_session : ◌≡◌ {A = Option CopyError} (Some uncopied.NoSession) (Some uncopied.Nothing) → ⊥
    no_session is = cc

    back : ◌≡◌ {A = Option CopyError} (Some uncopied.MomentBack) (Some uncopied.Nothing) → ⊥
    back is = cc

    out : ◌≡◌ {A = Option CopyError} (Some uncopied.BatchOut) (Some uncopied.Nothing) → ⊥
    out is = cc

    none : (b : Bool) → ◌≡◌ {A = Option CopyError} (if b then Some uncopied.HistoryFull else None) (Some uncopied.Nothing) → ⊥
    none true is = cc
    none false is = cc

    empty : (b : Bool) → ◌≡◌ {A = Option CopyError} (if b then Some uncopied.Nothing else (if full then Some uncopied.HistoryFull else None)) (Some uncopied.Nothing) → b ≡ true
    empty true is = refl
    empty false is = absurd (none full is)

    by : (o : Option Progress) → progress_of session s ≡ o → (p : Progress) × FindsNothing s session kind limit now p
    by None at = absurd (no_session (sym (ap of_session at) ∙ refused))
    by (Some p) at =
        let c = not_first (nat_lt now s.latest) uncopied.MomentBack uncopied.Nothing _ (sym (ap of_session at) ∙ refused) back in
        let b = not_first (is_out p) uncopied.BatchOut uncopied.Nothing _ c.1 out in
        (p, record { found = at; later = ltb-false now s.latest c.0; nothing = empty (nat_eq (length (unacked s session kind now limit)) 0) b.1 })

none_taken : {A B : Type 0} (f : A → B) (x : A) (xs : List A) (limit : ℕ) → 1 ≤ limit → IsIn x xs → nat_eq (length (take limit (map f xs))) 0 ≡ true → ⊥
none_taken f x [] limit some at none = at
none_taken f x (y ∷ ys) zero some at none = omega arith
none_taken f x (y ∷ ys) (suc limit) some at none = true≢false (sym none ∙ ne_eqb (suc (length (take limit (map f ys)))) 0 (λ is. omega arith))

pub nothing_left : (c : CellState) (session limit now : ℕ) (kind : CopyKind) (full : Bool) → IsSoundCell c → KeepsUp session c → 1 ≤ limit → copy_refusal full c.state session kind limit now ≡ Some uncopied.Nothing
    → AllByRecursion (λ (e : Key × StoredRow). is_live now e.1 ≡ true → is_copied kind e.1 ≡ true → is_of_each_kind (resyncs_since session c.history) e.1 ≡ true → IsLastOfItsKey (handed_since session c.history) e) (in_reach kind (bound_by (progress_of session c.state)) c.state.rows)
nothing_left c n limit now kind full sound keeps some refused =
    each_in (λ (e : Key × StoredRow). is_live now e.1 ≡ true → is_copied kind e.1 ≡ true → is_of_each_kind resyncs e.1 ≡ true → IsLastOfItsKey us e) reach (λ e there live copied each.
    of_each (λ (x : Key × StoredRow). IsReached resyncs p.acknowledged now x → IsLastOfItsKey us x) e c.state.rows (all_taken c n now p sound keeps found.1.found found.1.later) (reach_from kind bound e c.state.rows there)
    (low e there live copied, live, each))
  where
    us : List Update
    us = handed_since n c.history

    resyncs : Bool
    resyncs = resyncs_since n c.history

    found : (p : Progress) × FindsNothing c.state n kind limit now p
    found = finds_nothing full c.state n kind limit now refused

    p : Progress
    p = found.0

    bound : ℕ
    bound = bound_by (progress_of n c.state)

    reach : List (Key × StoredRow)
    reach = in_reach kind bound c.state.rows

    low : (e : Key × StoredRow) → IsIn e reach → is_live now e.1 ≡ true → is_copied kind e.1 ≡ true → e.1.number ≤ p.acknowledged
    low e there live copied = elim (cases_lt p.acknowledged e.1.number) [
      | inl over ↦
          let acknowledged : acknowledged_by (progress_of n c.state) ≡ p.acknowledged = ap acknowledged_by found.1.found in
          let above = lt-ltb (acknowledged_by (progress_of n c.state)) e.1.number (omega arith) in
          let included : is_unacked kind (acknowledged_by (progress_of n c.state)) now e ≡ true =
          and_from (nat_lt (acknowledged_by (progress_of n c.state)) e.1.number && is_copied kind e.1) (is_live now e.1) (and_from (nat_lt (acknowledged_by (progress_of n c.state)) e.1.number) (is_copied kind e.1) above copied) live in
          absurd (none_taken (update_of (version_by (progress_of n c.state)) c.state.definition now) e (filter (is_unacked kind (acknowledged_by (progress_of n c.state)) now) reach) limit some
          (in_filter (is_unacked kind (acknowledged_by (progress_of n c.state)) now) e reach there included) found.1.nothing)
      | inr under ↦ under
    ]
