use Rattle.std.proofs.Common.{◌≡◌, ℕ, ◌+◌, ◌∷◌, ◌++◌, [], true, ap, sym, subst, ◌∙◌, arith}
use Rattle.table_cell.specs.LearnedRuns.{IsLearnedRun}
use Rattle.table_cell.specs.Machine.{TableState, without}
use Rattle.table_cell.specs.Soundness.{NumbersRise}
use Rattle.table_cell.proofs.LearnedLaws.{run_grown, run_stored}
use Rattle.table_cell.proofs.table.Table.run_with.Goals as goal

pub returns-then-from-next : goal.returns-then-from-next
returns-then-from-next c = λ key rest leaves.
    let run = c.self.inside.learned_run in
    let s = c.args.self.now in
    let row = c.args.row.now in
    let old : IsLearnedRun run.after run.last s.next run.since s.rows = subst (λ (x : TableState). IsLearnedRun run.after run.last x.next run.since x.rows) c.self.view_is c.self.invariant in
    let rise : NumbersRise 1 s.next s.rows = subst (λ (x : TableState). NumbersRise 1 x.next x.rows) c.self.view_is c.next.ensures.sound.numbers in
    let next : c.self.inside.stock.next ≡ s.next = ap (λ (x : TableState). x.next) c.self.view_is in
    let reaches : run.last + 1 ≡ s.next = omega (arith, c.if-from-next.true, c.from.ensures, c.next.ensures.next, next) in
    let learned : row.learned ≡ true = sym c.is_learned.ensures ∙ c.if-is_learned.true in
    subst (λ (n : ℕ). IsLearnedRun run.after n (s.next + 1) run.since (without key rest ++ (key, row) ∷ [])) (sym c.number.ensures)
    (run_grown run.after run.last run.since s key row rest c.requires reaches learned rise leaves old)

pub returns : goal.returns
returns c = λ key rest leaves.
    let run = c.self.inside.learned_run in
    let s = c.args.self.now in
    let old : IsLearnedRun run.after run.last s.next run.since s.rows = subst (λ (x : TableState). IsLearnedRun run.after run.last x.next run.since x.rows) c.self.view_is c.self.invariant in
    run_stored run.after run.last run.since s key c.args.row.now rest c.requires leaves old
