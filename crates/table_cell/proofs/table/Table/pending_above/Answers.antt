use Rattle.std.proofs.Common.{◌≡◌, ◌+◌, ℕ, List, [], ◌∷◌, ◌++◌, true, false, length, Some, refl, sym, ap, subst, ◌∙◌, arith, append_assoc}
use Rattle.std.specs.Prelude.{filter}
use Rattle.std.specs.Option.{unwrap_or}
use Rattle.std.proofs.lemmas.List.{length-append}
use Rattle.table_types.specs.declared.key.Key.{Key}
use Rattle.table_types.specs.Rows.{StoredRow}
use Rattle.table_cell.specs.Machine.{TableState, is_unacked}
use Rattle.table_cell.specs.Pending.{first_number, pending}
use Rattle.table_cell.proofs.UnackedLaws.{is_above}
use Rattle.table_cell.proofs.ReachLaws.{is_chosen, reach_same}
use Rattle.table_cell.proofs.PendingLaws.{end_pending, first_with, none_pending, one_pending, rest_above, some_above}
use Rattle.table_cell.proofs.table.Table.pending_above.Goals as goal

pub loop-row-init : goal.loop-row-init
loop-row-init c =
    let start = c.copy_start-seen.result in
    let rows : c.above-row-items.result ≡ filter (is_above start) c.args.self.now.rows =
    subst (λ (s : TableState). c.above-row-items.result ≡ filter (is_above start) s.rows) c.self.view_is c.above-row-items.ensures in
    record {
      counted = ([], sym (reach_same c.args.kind c.args.bound (is_unacked c.args.kind c.args.number c.args.now) (is_unacked c.args.kind start c.args.now) c.args.self.now.rows c.copy_start-seen.ensures.same), refl, refl);
      left = c.into_iter-row-iterator.ensures.into_iter_gives ∙ rows;
      from = c.copy_start-seen.ensures.onward;
      onward = λ some. absurd (omega (arith, some));
      fewer = omega arith;
      within = omega arith;
    }

pub loop-row-preserved-then-is_chosen : goal.loop-row-preserved-then-is_chosen
loop-row-preserved-then-is_chosen c =
    let s = c.args.self.now in
    let x : Key × StoredRow = (c.in-Some.field-0-0.now, c.in-Some.row.now) in
    let seen = c.loop-row.seen in
    let is : filter (is_above seen) s.rows ≡ x ∷ c.next.new.self = sym c.loop-row.invariant.left ∙ c.in-Some.ensures.steps in
    let after = rest_above 1 seen s.next s.rows x c.next.new.self c.requires.rising is in
    let same : c.number-seen.result ≡ x.1.number = c.number-seen.ensures in
    let chosen : is_chosen c.args.kind c.args.bound c.args.now x ≡ true = sym c.is_chosen.ensures ∙ c.if-is_chosen.true in
    let (counted, all, count, first) = c.loop-row.invariant.counted in
    let rest : pending c.args.kind c.args.bound seen c.args.now s.rows ≡ x ∷ pending c.args.kind c.args.bound c.number-seen.result c.args.now s.rows =
    one_pending c.args.kind c.args.bound seen c.args.now s.rows x c.next.new.self is after.1 chosen ∙ ap (λ (n : ℕ). x ∷ pending c.args.kind c.args.bound n c.args.now s.rows) (sym same) in
    let size : length (counted ++ x ∷ []) ≡ length counted + 1 = length-append counted (x ∷ []) in
    record {
      counted = (
        counted ++ x ∷ [],
        append_assoc counted (x ∷ []) (pending c.args.kind c.args.bound c.number-seen.result c.args.now s.rows) ∙ ap (λ (l : List (Key × StoredRow)). counted ++ l) (sym rest) ∙ all,
        ap (λ (n : ℕ). n + 1) count ∙ sym size,
        c.or_first-first.ensures ∙ ap (λ f. Some (unwrap_or f c.number-seen.result)) first ∙ ap (λ (n : ℕ). Some (unwrap_or (first_number counted) n)) same ∙ sym (first_with counted x),
      );
      left = after.1 ∙ ap (λ (n : ℕ). filter (is_above n) s.rows) (sym same);
      from = omega (arith, c.loop-row.invariant.from, after.0, same);
      onward = λ _. omega (arith, c.loop-row.invariant.from, after.0, same);
      fewer = omega (arith, c.loop-row.invariant.fewer);
      within = omega (arith, c.loop-row.invariant.within, c.if-looked-most.false);
    }

pub loop-row-preserved : goal.loop-row-preserved
loop-row-preserved c =
    let s = c.args.self.now in
    let x : Key × StoredRow = (c.in-Some.field-0-0.now, c.in-Some.row.now) in
    let seen = c.loop-row.seen in
    let is : filter (is_above seen) s.rows ≡ x ∷ c.next.new.self = sym c.loop-row.invariant.left ∙ c.in-Some.ensures.steps in
    let after = rest_above 1 seen s.next s.rows x c.next.new.self c.requires.rising is in
    let same : c.number-seen.result ≡ x.1.number = c.number-seen.ensures in
    let passed : is_chosen c.args.kind c.args.bound c.args.now x ≡ false = sym c.is_chosen.ensures ∙ c.if-is_chosen.false in
    let (counted, all, count, first) = c.loop-row.invariant.counted in
    let rest : pending c.args.kind c.args.bound seen c.args.now s.rows ≡ pending c.args.kind c.args.bound c.number-seen.result c.args.now s.rows =
    none_pending c.args.kind c.args.bound seen c.args.now s.rows x c.next.new.self is after.1 passed ∙ ap (λ (n : ℕ). pending c.args.kind c.args.bound n c.args.now s.rows) (sym same) in
    record {
      counted = (counted, ap (λ (l : List (Key × StoredRow)). counted ++ l) (sym rest) ∙ all, count, first);
      left = after.1 ∙ ap (λ (n : ℕ). filter (is_above n) s.rows) (sym same);
      from = omega (arith, c.loop-row.invariant.from, after.0, same);
      onward = λ _. omega (arith, c.loop-row.invariant.from, after.0, same);
      fewer = omega (arith, c.loop-row.invariant.fewer);
      within = omega (arith, c.loop-row.invariant.within, c.if-looked-most.false);
    }

pub returns-clause-counts : goal.returns-clause-counts
returns-clause-counts c =
    let (counted, all, count, first) = c.loop-row.invariant.counted in
    let none : pending c.args.kind c.args.bound c.loop-row.seen c.args.now c.args.self.now.rows ≡ [] =
    end_pending c.args.kind c.args.bound c.loop-row.seen c.args.now c.args.self.now.rows (sym c.loop-row.invariant.left ∙ c.in-None.ensures.steps.0) in
    (counted, ap (λ (l : List (Key × StoredRow)). counted ++ l) (sym none) ∙ all, count, first)

pub returns-then-looked-most-clause-left : goal.returns-then-looked-most-clause-left
returns-then-looked-most-clause-left c =
    some_above c.loop-row.seen c.args.self.now.rows (c.in-Some.field-0-0.now, c.in-Some.row.now) c.next.new.self (sym c.loop-row.invariant.left ∙ c.in-Some.ensures.steps)
