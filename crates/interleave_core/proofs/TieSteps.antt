-- A session stays tied to all tables at each step.
use Rattle.std.proofs.Common.{◌≡◌, ◌≢◌, ℕ, ◌≤◌, true, false, List, [], ◌∷◌, ◌++◌, length, drop, take, Some, refl, sym, ap, subst, ◌∙◌, inl, inr, ◌⊎◌}
use Rattle.std.specs.Prelude.{is_some, map}
use Rattle.std.specs.List.{AllByRecursion}
use Rattle.table_types.specs.declared.update.Update.{Update}
use Rattle.table_types.specs.declared.copies.CopyKind.{CopyKind}
use Rattle.known_state.specs.Known.{is_in}
use Rattle.table_cell.specs.declared.events.CellEvent.{CellEvent}
use Rattle.table_cell.specs.declared.events.CellEvent.TheVariants as events
use Rattle.table_cell.specs.declared.events.CellReply.{CellReply}
use Rattle.table_cell.specs.declared.events.CellReply.TheVariants as replies
use Rattle.table_cell.specs.declared.progress.Progress.{Progress}
use Rattle.table_cell.specs.Machine.{progress_of, unacked, version_by}
use Rattle.table_cell.specs.Copying.{update_of}
use Rattle.table_cell.specs.Histories.{CellState, Made}
use Rattle.table_cell.specs.Handing.{KeepsUp, is_about, numbers}
use Rattle.interleave_core.specs.Worlds.{ConnectionState, cell_at, with_cell}
use Rattle.interleave_core.specs.Sound.{acked_numbers, last_number_of}
use Rattle.interleave_core.specs.Ties.{AreTied, IsTied, IsTiedTo, Share, WasCopied, joined, of_table, share_of}
use Rattle.interleave_core.proofs.TieNumbers.{learned}
use Rattle.interleave_core.proofs.TieShares.{all_of_it, copied_share, more_done, no_more, none_of_others, same_share, some_of_it, split_handed, taught_all, taught_handed, with_more, within_more}
use Rattle.interleave_core.proofs.TiePairs.{copy_tied, other_tied, same_batch, same_id}
use Rattle.interleave_core.proofs.TieCells.{each_after, found_id}

-- the session is tied to the table
abbrev pub HasTie : ℕ → ℕ → ConnectionState → List (ℕ × ℕ) → ℕ → CellState → Type 0
HasTie n before s acks t c = (p : Progress) × IsTiedTo n (share_of t before s acks) c p

-- ---- events that aren't about the session

pub other_event : (n before table : ℕ) (s : ConnectionState) (acks : List (ℕ × ℕ)) (cells : List CellState) (c e : CellState) (event : CellEvent) (reply : CellReply)
    → is_about n event ≡ false → cell_at table cells ≡ Some c → Made c event reply e → AreTied n before s acks cells → AreTied n before s acks (with_cell table e cells)
other_event n before table s acks cells c e event reply other at made ties = record {
  within = ties.within;
  each = each_after (HasTie n before s acks) table c e cells at (same_id c e event reply made ∙ found_id table c cells at) own (λ t x differs old. ties.each t x old);
}
  where
    own : HasTie n before s acks table e
    own = let old = ties.each table c at in (old.0, other_tied n (share_of table before s acks) c e event reply old.0 other made old.1)

-- ---- a copy

-- what is copied is of the table
pub copied_here : (n limit now table : ℕ) (kind : CopyKind) (us : List Update) (c e : CellState) → c.state.definition.id ≡ table → Made c (events.Copy n kind limit now) (replies.Copy us) e
    → AllByRecursion (λ (u : Update). u.table ≡ table) us
copied_here n limit now table kind us c e id made =
    subst (AllByRecursion (λ (u : Update). u.table ≡ table)) (sym (same_batch us (unacked c.state n kind now limit) made.0.1)) (first limit _)
  where
    all : (rows : List _) → AllByRecursion (λ (u : Update). u.table ≡ table) (map (update_of (version_by (progress_of n c.state)) c.state.definition now) rows)
    all [] = tt
    all (x ∷ xs) = (id, all xs)

    some : (k : ℕ) (vs : List Update) → AllByRecursion (λ (u : Update). u.table ≡ table) vs → AllByRecursion (λ (u : Update). u.table ≡ table) (take k vs)
    some Rattle.std.proofs.Common.zero vs each = tt
    some (Rattle.std.proofs.Common.suc k) [] each = tt
    some (Rattle.std.proofs.Common.suc k) (v ∷ vs) (one, rest) = (one, some k vs rest)

    first : (k : ℕ) (rows : List _) → AllByRecursion (λ (u : Update). u.table ≡ table) (take k (map (update_of (version_by (progress_of n c.state)) c.state.definition now) rows))
    first k rows = some k (map (update_of (version_by (progress_of n c.state)) c.state.definition now) rows) (all rows)

pub copy_event : (n before limit now table : ℕ) (kind : CopyKind) (us : List Update) (s : ConnectionState) (acks : List (ℕ × ℕ)) (cells : List CellState) (c e : CellState)
    → KeepsUp n e → cell_at table cells ≡ Some c → Made c (events.Copy n kind limit now) (replies.Copy us) e → AreTied n before s acks cells
    → AreTied n before (record s { copied = s.copied ++ us ∷ [] }) acks (with_cell table e cells)
copy_event n before limit now table kind us s acks cells c e keeps at made ties = record {
  within = ties.within;
  each = each_after (HasTie n before after acks) table c e cells at (same_id c e (events.Copy n kind limit now) (replies.Copy us) made ∙ found_id table c cells at) own others;
}
  where
    after : ConnectionState
    after = record s { copied = s.copied ++ us ∷ [] }

    of_it : AllByRecursion (λ (u : Update). u.table ≡ table) us
    of_it = copied_here n limit now table kind us c e (found_id table c cells at) made

    own : HasTie n before after acks table e
    own =
        let old = ties.each table c at in
        let new = copy_tied n limit now kind us (share_of table before s acks) c e old.0 keeps made old.1 in
        let is : with_more (share_of table before s acks) us ≡ share_of table before after acks =
        ap (with_more (share_of table before s acks)) (sym (all_of_it table us of_it)) ∙ sym (copied_share table before s acks us) in
        (new.0, subst (λ (x : Share). IsTiedTo n x e new.0) is new.1)

    others : (t : ℕ) (x : CellState) → t ≢ table → cell_at t cells ≡ Some x → HasTie n before after acks t x
    others t x differs found =
        let old = ties.each t x found in
        let is : share_of t before s acks ≡ share_of t before after acks =
        sym (no_more (share_of t before s acks)) ∙ ap (with_more (share_of t before s acks)) (sym (none_of_others t table us differs of_it)) ∙ sym (copied_share t before s acks us) in
        (old.0, subst (λ (y : Share). IsTiedTo n y x old.0) is old.1)

-- ---- a lesson

-- the same shares
same_shares : (n before : ℕ) (s e : ConnectionState) (acks more : List (ℕ × ℕ)) (cells : List CellState) → before ≤ length e.applied
    → ((t : ℕ) → share_of t before s acks ≡ share_of t before e more) → AreTied n before s acks cells → AreTied n before e more cells
same_shares n before s e acks more cells within same ties = record {
  within = within;
  each = λ t c at. let old = ties.each t c at in (old.0, subst (λ (x : Share). IsTiedTo n x c old.0) (same t) old.1);
}

-- no more is put than was taught
within_taught : (before : ℕ) (taught applied to_come : List Update) → taught ≡ applied ++ to_come → before ≤ length applied → before ≤ length taught
within_taught before taught applied to_come split within = subst (λ (l : List Update). before ≤ length l) (sym split) (within_more before applied to_come within)

pub oldest_taught : (n before : ℕ) (s e : ConnectionState) (acks : List (ℕ × ℕ)) (cells : List CellState) (batch to_come : List Update) (rest : List (List Update))
    → s.taught ≡ s.applied ++ to_come → s.copied ≡ batch ∷ rest → e.copied ≡ rest → e.taught ≡ s.taught ++ batch → e.applied ≡ s.applied → e.learner ≡ s.learner
    → AreTied n before s acks cells → AreTied n before e acks cells
oldest_taught n before s e acks cells batch to_come rest split oldest copied taught applied learner ties =
    same_shares n before s e acks acks cells (subst (λ (l : List Update). before ≤ length l) (sym applied) ties.within) same ties
  where
    same : (t : ℕ) → share_of t before s acks ≡ share_of t before e acks
    same t =
        same_share (share_of t before s acks) (share_of t before e acks)
        (sym (taught_all t s.taught batch s.copied rest oldest) ∙ ap (λ (l : List Update). of_table t (l ++ joined rest)) (sym taught) ∙ ap (λ (l : List (List Update)). of_table t (e.taught ++ joined l)) (sym copied))
        (sym (taught_handed t before s.taught batch s.copied rest (within_taught before s.taught s.applied to_come split ties.within) oldest)
        ∙ ap (λ (l : List Update). of_table t (drop before l ++ joined rest)) (sym taught) ∙ ap (λ (l : List (List Update)). of_table t (drop before e.taught ++ joined l)) (sym copied))
        (ap (λ (l : List Update). of_table t (drop before l)) (sym applied))
        refl
        (ap (λ l. is_in t l.intake.due) (sym learner))

-- ---- a delivery to the learner

pub more_learned : (n before : ℕ) (s e : ConnectionState) (acks : List (ℕ × ℕ)) (cells : List CellState) (us later : List Update)
    → s.taught ≡ (s.applied ++ us) ++ later → e.copied ≡ s.copied → e.taught ≡ s.taught → e.applied ≡ s.applied ++ us
    → ((t : ℕ) → is_in t e.learner.intake.due ≡ true → (is_in t s.learner.intake.due ≡ true) ⊎ (is_some (last_number_of t us) ≡ true))
    → AreTied n before s acks cells → AreTied n before e acks cells
more_learned n before s e acks cells us later split copied taught applied cause ties = record {
  within = subst (λ (l : List Update). before ≤ length l) (sym applied) (within_more before s.applied us ties.within);
  each = λ t c at. let old = ties.each t c at in (old.0, tie_now t c old.0 old.1);
}
  where
    split_at : s.taught ≡ s.applied ++ (us ++ later)
    split_at = split ∙ Rattle.std.proofs.Common.append_assoc s.applied us later

    none : (us : List Update) → numbers us ≡ [] → us ≡ []
    none [] is = refl
    none (u ∷ us) is = absurd (bad u.number (numbers us) is)
      where
        bad : (m : ℕ) (ms : List ℕ) → m ∷ ms ≡ [] → ⊥
        bad m ms is = cc

    tie_now : (t : ℕ) (c : CellState) (p : Progress) → IsTiedTo n (share_of t before s acks) c p → IsTiedTo n (share_of t before e acks) c p
    tie_now t c p tie = record {
      progress = tie.progress;
      same = handed_same ∙ tie.same;
      tied = numbers_tied;
      from = subst (AllByRecursion (WasCopied n c.history)) all_same tie.from;
    }
      where
        handed_same : of_table t (drop before e.taught ++ joined e.copied) ≡ of_table t (drop before s.taught ++ joined s.copied)
        handed_same = ap (λ (l : List Update). of_table t (drop before l ++ joined e.copied)) taught ∙ ap (λ (l : List (List Update)). of_table t (drop before s.taught ++ joined l)) copied

        all_same : of_table t (s.taught ++ joined s.copied) ≡ of_table t (e.taught ++ joined e.copied)
        all_same = ap (λ (l : List Update). of_table t (l ++ joined s.copied)) (sym taught) ∙ ap (λ (l : List (List Update)). of_table t (e.taught ++ joined l)) (sym copied)

        done_now : numbers (of_table t (drop before e.applied)) ≡ numbers (of_table t (drop before s.applied)) ++ numbers (of_table t us)
        done_now =
            ap (λ (l : List Update). numbers (of_table t (drop before l))) applied ∙ ap numbers (more_done t before s.applied us ties.within)
            ∙ Rattle.std.proofs.lemmas.List.map-append (λ (u : Update). u.number) (of_table t (drop before s.applied)) (of_table t us)

        handed_now : numbers (of_table t (drop before s.taught ++ joined s.copied)) ≡ (numbers (of_table t (drop before s.applied)) ++ numbers (of_table t us)) ++ numbers (of_table t (later ++ joined s.copied))
        handed_now =
            ap numbers (split_handed t before s.taught (s.applied ++ us) later s.copied (within_more before s.applied us ties.within) split)
            ∙ Rattle.std.proofs.lemmas.List.map-append (λ (u : Update). u.number) (of_table t (drop before (s.applied ++ us))) (of_table t (later ++ joined s.copied))
            ∙ ap (λ (l : List ℕ). l ++ numbers (of_table t (later ++ joined s.copied))) (ap (λ (l : List Update). numbers (of_table t (drop before l))) (sym applied) ∙ done_now)

        because : is_in t e.learner.intake.due ≡ true → (is_in t s.learner.intake.due ≡ true) ⊎ (numbers (of_table t us) ≢ [])
        because due = elim (cause t due) [
          | inl was ↦ inl was
          | inr some ↦ inr (λ is. some_of_it t us some (none (of_table t us) is))
        ]

        numbers_tied : IsTied (numbers (of_table t (drop before e.taught ++ joined e.copied))) (numbers (of_table t (drop before e.applied))) p.acknowledged p.taught (acked_numbers t acks) (is_in t e.learner.intake.due)
        numbers_tied =
            subst (λ (l : List Update). IsTied (numbers l) (numbers (of_table t (drop before e.applied))) p.acknowledged p.taught (acked_numbers t acks) (is_in t e.learner.intake.due)) (sym handed_same)
            (subst (λ (l : List ℕ). IsTied (numbers (of_table t (drop before s.taught ++ joined s.copied))) l p.acknowledged p.taught (acked_numbers t acks) (is_in t e.learner.intake.due)) (sym done_now)
            (learned (numbers (of_table t (drop before s.taught ++ joined s.copied))) (numbers (of_table t (drop before s.applied))) (numbers (of_table t us)) (numbers (of_table t (later ++ joined s.copied))) (acked_numbers t acks)
            p.acknowledged p.taught (is_in t s.learner.intake.due) (is_in t e.learner.intake.due) handed_now because tie.tied))
