-- A session stays tied to all tables as acknowledgements are sent and taken.
use Rattle.std.proofs.Common.{◌≡◌, ◌≢◌, ℕ, ◌<◌, ◌≤◌, Bool, true, false, List, [], ◌∷◌, ◌++◌, drop, Option, Some, None, refl, sym, ap, subst, ◌∙◌, arith, append-nil}
use Rattle.std.specs.Prelude.{nat_lt, option_and_then, option_to_list, if◌then◌else◌}
use Rattle.std.proofs.lemmas.Bool.{cond-false, ne_eqb, le-ltb}
use Rattle.known_state.specs.Known.{is_in}
use Rattle.table_cell.specs.declared.errors.AckError.{AckError}
use Rattle.table_cell.specs.declared.errors.AckError.TheVariants as unacknowledged
use Rattle.table_cell.specs.declared.events.CellEvent.TheVariants as events
use Rattle.table_cell.specs.declared.events.CellReply.TheVariants as replies
use Rattle.table_cell.specs.declared.progress.Progress.{Progress}
use Rattle.table_cell.specs.Machine.{ack_refusal, progress_of, settled_by}
use Rattle.table_cell.specs.Histories.{CellState, Made}
use Rattle.table_cell.specs.Handing.{numbers}
use Rattle.interleave_core.specs.Moves.{acked, acked_all, acknowledges}
use Rattle.interleave_core.specs.Sound.{acked_numbers, last_number_of}
use Rattle.interleave_core.specs.Ties.{AreTied, IsTied, IsTiedTo, end_of, of_table, share_of}
use Rattle.interleave_core.specs.Worlds.{ConnectionState, cell_at, with_cell}
use Rattle.interleave_core.proofs.TieCells.{each_after, found_id, none_there}
use Rattle.interleave_core.proofs.TieNumbers.{ack_sent, is_granted}
use Rattle.interleave_core.proofs.TiePairs.{ack_tied, acked_made, same_id}
use Rattle.interleave_core.proofs.TieShares.{acks_append, last_since, other_ack, own_ack}
use Rattle.interleave_core.proofs.TieSteps.{HasTie, other_event}

-- ---- sent

-- what is sent: of each table that is due the last number that was put, and nothing of any other
abbrev pub AreOwed : ConnectionState → List (ℕ × ℕ) → Type 0
AreOwed s sent = (t : ℕ) → acked_numbers t sent ≡ (if is_in t s.learner.intake.due then option_to_list (last_number_of t s.applied) else [])

pub due_sent : (n before : ℕ) (s : ConnectionState) (acks sent : List (ℕ × ℕ)) (cells : List CellState) → AreOwed s sent
    → AreTied n before s acks cells → AreTied n before (acknowledges s) (acks ++ sent) cells
due_sent n before s acks sent cells owed ties = record { within = ties.within; each = λ t c at. let old = ties.each t c at in (old.0, tie_now t c old.0 old.1) }
  where
    tie_now : (t : ℕ) (c : CellState) (p : Progress) → IsTiedTo n (share_of t before s acks) c p → IsTiedTo n (share_of t before (acknowledges s) (acks ++ sent)) c p
    tie_now t c p tie = record {
      progress = tie.progress;
      same = tie.same;
      tied = subst (λ (l : List ℕ). Tied l false) (sym (acks_append t acks sent ∙ ap (λ (l : List ℕ). acked_numbers t acks ++ l) (owed t))) (by (is_in t s.learner.intake.due) tie.tied);
      from = tie.from;
    }
      where
        done : List ℕ
        done = numbers (of_table t (drop before s.applied))

        Tied : List ℕ → Bool → Type 0
        Tied l d = IsTied (numbers (share_of t before s acks).handed) done p.acknowledged p.taught l d

        by : (d : Bool) → Tied (acked_numbers t acks) d → Tied (acked_numbers t acks ++ (if d then option_to_list (last_number_of t s.applied) else [])) false
        by true tied =
            let over : end_of p.acknowledged (acked_numbers t acks) < end_of 0 done = tied.due refl in
            subst (λ (o : Option ℕ). Tied (acked_numbers t acks ++ option_to_list o) false) (sym (last_since t before s.applied (omega arith)))
            (ack_sent (numbers (share_of t before s acks).handed) done (acked_numbers t acks) p.acknowledged p.taught tied)
        by false tied = subst (λ (l : List ℕ). Tied l false) (sym (append-nil (acked_numbers t acks))) tied

-- ---- taken

-- an acknowledgement that is under way is refused only if the history is full
pub not_ahead : (n before table number : ℕ) (full : Bool) (s : ConnectionState) (acks : List (ℕ × ℕ)) (cells : List CellState) (c : CellState) → cell_at table cells ≡ Some c
    → AreTied n before s ((table, number) ∷ acks) cells → ack_refusal full c.state n number ≡ (if full then Some unacknowledged.HistoryFull else None)
not_ahead n before table number full s acks cells c at ties =
    ap of_session tie.progress ∙ cond-false (nat_lt p.taught number) (Some unacknowledged.AckAhead) (if full then Some unacknowledged.HistoryFull else None) (le-ltb p.taught number granted.1)
  where
    p : Progress
    p = (ties.each table c at).0

    tie : IsTiedTo n (share_of table before s ((table, number) ∷ acks)) c p
    tie = (ties.each table c at).1

    of_session : Option Progress → Option AckError
    of_session None = Some unacknowledged.NoSession
    of_session (Some progress) =
        if nat_lt progress.taught number then Some unacknowledged.AckAhead
        else (if full then Some unacknowledged.HistoryFull
        else None)

    granted : (p.acknowledged < number) × (number ≤ p.taught)
    granted =
        is_granted (numbers (share_of table before s acks).handed) (numbers (share_of table before s acks).done) (acked_numbers table acks) p.acknowledged p.taught number (is_in table s.learner.intake.due)
        (subst (λ (l : List ℕ). IsTied (numbers (share_of table before s acks).handed) (numbers (share_of table before s acks).done) p.acknowledged p.taught l (is_in table s.learner.intake.due)) (own_ack table number acks) tie.tied)

-- the first acknowledgement under way is taken
pub first_taken : (n before table number : ℕ) (s : ConnectionState) (rest : List (ℕ × ℕ)) (cells : List CellState) (c e : CellState) → cell_at table cells ≡ Some c → acked n number c ≡ Some e
    → AreTied n before s ((table, number) ∷ rest) cells → AreTied n before s rest (with_cell table e cells)
first_taken n before table number s rest cells c e at is ties = record {
  within = ties.within;
  each = each_after (HasTie n before s rest) table c e cells at (same_id c e (events.Ack n number) (replies.Ack (settled_by (progress_of n c.state) number)) made ∙ found_id table c cells at) own others;
}
  where
    made : Made c (events.Ack n number) (replies.Ack (settled_by (progress_of n c.state) number)) e
    made = acked_made n number c e is

    own : HasTie n before s rest table e
    own =
        let old = ties.each table c at in (
          record old.0 { acknowledged = number },
          ack_tied n number (acked_numbers table rest) (share_of table before s ((table, number) ∷ rest)) c e (replies.Ack (settled_by (progress_of n c.state) number)) old.0 (own_ack table number rest) made old.1,
        )

    others : (t : ℕ) (x : CellState) → t ≢ table → cell_at t cells ≡ Some x → HasTie n before s rest t x
    others t x differs found =
        let old = ties.each t x found in
        (old.0, subst (λ (l : List ℕ). IsTiedTo n (record (share_of t before s rest) { acks = l }) x old.0) (other_ack t table number rest differs) old.1)

-- what one acknowledgement and those after it need of a table
pub after_one : (n : ℕ) (ack : ℕ × ℕ) (acks : List (ℕ × ℕ)) (cells after : List CellState) → acked_all n (ack ∷ acks) cells ≡ Some after
    → (c e : CellState) × (cell_at ack.0 cells ≡ Some c) × (acked n ack.1 c ≡ Some e) × (acked_all n acks (with_cell ack.0 e cells) ≡ Some after)
after_one n ack acks cells after all = by (cell_at ack.0 cells) refl
  where
    then_all : Option CellState → Option (List CellState)
    then_all o = option_and_then (λ (c : CellState). acked_all n acks (with_cell ack.0 c cells)) o

    with_changed : (c : CellState) → cell_at ack.0 cells ≡ Some c → (o : Option CellState) → acked n ack.1 c ≡ o → then_all o ≡ Some after
        → (c e : CellState) × (cell_at ack.0 cells ≡ Some c) × (acked n ack.1 c ≡ Some e) × (acked_all n acks (with_cell ack.0 e cells) ≡ Some after)
    with_changed c at None is rest = absurd (none_there after rest)
    with_changed c at (Some e) is rest = (c, e, at, is, rest)

    by : (o : Option CellState) → cell_at ack.0 cells ≡ o
        → (c e : CellState) × (cell_at ack.0 cells ≡ Some c) × (acked n ack.1 c ≡ Some e) × (acked_all n acks (with_cell ack.0 e cells) ≡ Some after)
    by None at = absurd (none_there after (sym (ap (λ (o : Option CellState). then_all (option_and_then (acked n ack.1) o)) at) ∙ all))
    by (Some c) at = with_changed c at (acked n ack.1 c) refl (sym (ap (λ (o : Option CellState). then_all (option_and_then (acked n ack.1) o)) at) ∙ all)

pub all_taken : (n before : ℕ) (s : ConnectionState) (acks rest : List (ℕ × ℕ)) (cells after : List CellState) → acked_all n acks cells ≡ Some after
    → AreTied n before s (acks ++ rest) cells → AreTied n before s rest after
all_taken n before s [] rest cells after all ties = subst (AreTied n before s rest) (same_cells cells after all) ties
  where
    same_cells : (a b : List CellState) → ◌≡◌ {A = Option (List CellState)} (Some a) (Some b) → a ≡ b
    same_cells a b is = cc
all_taken n before s (ack ∷ acks) rest cells after all ties =
    let (c, e, at, is, later) = after_one n ack acks cells after all in
    all_taken n before s acks rest (with_cell ack.0 e cells) after later (first_taken n before ack.0 ack.1 s (acks ++ rest) cells c e at is ties)

-- acknowledgements of another session
pub others_taken : (n m before : ℕ) (s : ConnectionState) (acks own : List (ℕ × ℕ)) (cells after : List CellState) → m ≢ n → acked_all n acks cells ≡ Some after
    → AreTied m before s own cells → AreTied m before s own after
others_taken n m before s [] own cells after other all ties = subst (AreTied m before s own) (same_cells cells after all) ties
  where
    same_cells : (a b : List CellState) → ◌≡◌ {A = Option (List CellState)} (Some a) (Some b) → a ≡ b
    same_cells a b is = cc
others_taken n m before s (ack ∷ acks) own cells after other all ties =
    let (c, e, at, is, later) = after_one n ack acks cells after all in
    others_taken n m before s acks own (with_cell ack.0 e cells) after other later
    (other_event m before ack.0 s own cells c e (events.Ack n ack.1) (replies.Ack (settled_by (progress_of n c.state) ack.1)) (ne_eqb n m (λ same. other (sym same))) at (acked_made n ack.1 c e is) ties)
