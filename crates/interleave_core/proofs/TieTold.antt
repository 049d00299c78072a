-- What the ties of a session tell.
use Rattle.std.proofs.Common.{◌≡◌, ℕ, ◌<◌, ◌≤◌, List, [], ◌∷◌, ◌++◌, drop, take, Some, sym, ap, subst, ◌∙◌, arith, inl, inr, ◌⊎◌}
use Rattle.std.specs.List.{AllByRecursion}
use Rattle.std.proofs.lemmas.List.{map-append, take-append-drop}
use Rattle.table_types.specs.declared.update.Update.{Update}
use Rattle.table_cell.specs.declared.progress.Progress.{Progress}
use Rattle.table_cell.specs.Machine.{last_number, progress_of}
use Rattle.table_cell.specs.Histories.{CellState}
use Rattle.table_cell.specs.Handing.{Ascend, handed_since, numbers}
use Rattle.interleave_core.specs.Ties.{AreTied, IsAmong, IsTiedTo, WasCopied, end_of, joined, of_table, share_of}
use Rattle.interleave_core.specs.Worlds.{ConnectionState, cell_at}
use Rattle.interleave_core.proofs.TieCells.{same_one}
use Rattle.interleave_core.proofs.TieNumbers.{ascend_back, ascend_front, below}
use Rattle.interleave_core.proofs.TiePairs.{last_is_end}
use Rattle.interleave_core.proofs.TieShares.{of_append, split_handed}

among_back : {A : Type 0} (x : A) (xs ys : List A) → IsAmong x ys → IsAmong x (xs ++ ys)
among_back x [] ys at = at
among_back x (z ∷ xs) ys at = inr (among_back x xs ys at)

all_front : (P : Update → Type 0) (us vs : List Update) → AllByRecursion P (us ++ vs) → AllByRecursion P us
all_front P [] vs all = tt
all_front P (u ∷ us) vs (first, rest) = (first, all_front P us vs rest)

joined_numbers : (us vs : List Update) → numbers (us ++ vs) ≡ numbers us ++ numbers vs
joined_numbers us vs = map-append (λ (u : Update). u.number) us vs

-- the tie of a table, with the progress that the session has there
pub tie_at : (n before t : ℕ) (s : ConnectionState) (acks : List (ℕ × ℕ)) (cells : List CellState) (c : CellState) (p : Progress) → cell_at t cells ≡ Some c → progress_of n c.state ≡ Some p
    → AreTied n before s acks cells → IsTiedTo n (share_of t before s acks) c p
tie_at n before t s acks cells c p at progress ties =
    let (q, tie) = ties.each t c at in
    subst (IsTiedTo n (share_of t before s acks) c) (same_one q p (sym tie.progress ∙ progress)) tie

pub number_put : (n before t : ℕ) (s : ConnectionState) (acks : List (ℕ × ℕ)) (cells : List CellState) (c : CellState) (p : Progress) → cell_at t cells ≡ Some c → progress_of n c.state ≡ Some p
    → AreTied n before s acks cells → (p.acknowledged ≡ 0) ⊎ IsAmong p.acknowledged (numbers (of_table t s.applied))
number_put n before t s acks cells c p at progress ties = by (tie_at n before t s acks cells c p at progress ties).tied.acked
  where
    whole : numbers (of_table t (take before s.applied)) ++ numbers (of_table t (drop before s.applied)) ≡ numbers (of_table t s.applied)
    whole =
        sym (joined_numbers (of_table t (take before s.applied)) (of_table t (drop before s.applied)))
        ∙ ap numbers (sym (of_append t (take before s.applied) (drop before s.applied)))
        ∙ ap (λ (l : List Update). numbers (of_table t l)) (take-append-drop before s.applied)

    by : (p.acknowledged ≡ 0) ⊎ IsAmong p.acknowledged (numbers (of_table t (drop before s.applied))) → (p.acknowledged ≡ 0) ⊎ IsAmong p.acknowledged (numbers (of_table t s.applied))
    by (inl none) = inl none
    by (inr there) = inr (subst (IsAmong p.acknowledged) whole (among_back p.acknowledged (numbers (of_table t (take before s.applied))) (numbers (of_table t (drop before s.applied))) there))

-- what was handed out begins with what is done, and that goes as far as the number acknowledged
pub handed_front : (n before t : ℕ) (s : ConnectionState) (acks : List (ℕ × ℕ)) (to_come : List Update) (cells : List CellState) (c : CellState) (p : Progress) → s.taught ≡ s.applied ++ to_come
    → cell_at t cells ≡ Some c → progress_of n c.state ≡ Some p → AreTied n before s acks cells
    → (rest : List Update) × (handed_since n c.history ≡ of_table t (drop before s.applied) ++ rest) × (p.acknowledged ≤ last_number 0 (of_table t (drop before s.applied)))
handed_front n before t s acks to_come cells c p split at progress ties = (
  of_table t (to_come ++ joined s.copied),
  sym tie.same ∙ whole,
  by tie.tied.acked,
)
  where
    tie : IsTiedTo n (share_of t before s acks) c p
    tie = tie_at n before t s acks cells c p at progress ties

    done : List Update
    done = of_table t (drop before s.applied)

    whole : of_table t (drop before s.taught ++ joined s.copied) ≡ done ++ of_table t (to_come ++ joined s.copied)
    whole = split_handed t before s.taught s.applied to_come s.copied ties.within split

    ascends : Ascend 0 (numbers done)
    ascends =
        ascend_front 0 (numbers done) (numbers (of_table t (to_come ++ joined s.copied)))
        (subst (Ascend 0) (ap numbers whole ∙ joined_numbers done (of_table t (to_come ++ joined s.copied))) tie.tied.ascend)

    by : (p.acknowledged ≡ 0) ⊎ IsAmong p.acknowledged (numbers done) → p.acknowledged ≤ last_number 0 done
    by (inl none) = omega arith
    by (inr there) =
        let up : p.acknowledged ≤ end_of 0 (numbers done) = below 0 p.acknowledged (numbers done) ascends there in
        let is : last_number 0 done ≡ end_of 0 (numbers done) = last_is_end 0 done in
        omega arith

above_each : (a least : ℕ) (us : List Update) → a ≤ least → Ascend least (numbers us) → AllByRecursion (λ (u : Update). a < u.number) us
above_each a least [] le up = tt
above_each a least (u ∷ us) le (first, rest) = (omega arith, above_each a u.number us (omega arith) rest)

-- what is to come is above the number acknowledged
pub rest_above : (n before t : ℕ) (s : ConnectionState) (acks : List (ℕ × ℕ)) (to_come : List Update) (cells : List CellState) (c : CellState) (p : Progress) → s.taught ≡ s.applied ++ to_come
    → cell_at t cells ≡ Some c → progress_of n c.state ≡ Some p → AreTied n before s acks cells → AllByRecursion (λ (u : Update). p.acknowledged < u.number) (of_table t to_come)
rest_above n before t s acks to_come cells c p split at progress ties =
    let (rest, is, far) = handed_front n before t s acks to_come cells c p split at progress ties in
    let end : last_number 0 done ≡ end_of 0 (numbers done) = last_is_end 0 done in
    above_each p.acknowledged (end_of 0 (numbers done)) (of_table t to_come) (omega arith)
    (ascend_front (end_of 0 (numbers done)) (numbers (of_table t to_come)) (numbers (of_table t (joined s.copied)))
    (ascend_back 0 (numbers done) (numbers (of_table t to_come) ++ numbers (of_table t (joined s.copied))) (subst (Ascend 0) whole tie.tied.ascend)))
  where
    tie : IsTiedTo n (share_of t before s acks) c p
    tie = tie_at n before t s acks cells c p at progress ties

    done : List Update
    done = of_table t (drop before s.applied)

    whole : numbers (of_table t (drop before s.taught ++ joined s.copied)) ≡ numbers done ++ (numbers (of_table t to_come) ++ numbers (of_table t (joined s.copied)))
    whole =
        ap numbers (split_handed t before s.taught s.applied to_come s.copied ties.within split)
        ∙ joined_numbers done (of_table t (to_come ++ joined s.copied))
        ∙ ap (λ (l : List Update). numbers done ++ numbers l) (of_append t to_come (joined s.copied))
        ∙ ap (λ (l : List ℕ). numbers done ++ l) (joined_numbers (of_table t to_come) (of_table t (joined s.copied)))

-- what was taught was copied
pub taught_copied : (n before t : ℕ) (s : ConnectionState) (acks : List (ℕ × ℕ)) (cells : List CellState) (c : CellState) → cell_at t cells ≡ Some c → AreTied n before s acks cells
    → AllByRecursion (WasCopied n c.history) (of_table t s.taught)
taught_copied n before t s acks cells c at ties =
    all_front (WasCopied n c.history) (of_table t s.taught) (of_table t (joined s.copied))
    (subst (AllByRecursion (WasCopied n c.history)) (of_append t s.taught (joined s.copied)) (ties.each t c at).1.from)
