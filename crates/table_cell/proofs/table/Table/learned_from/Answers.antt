use Rattle.std.proofs.Common.{◌≡◌, ℕ, ◌-◌, ◌≤◌, ap, sym, subst, ◌∙◌, arith}
use Rattle.table_cell.specs.LearnedRuns.{IsLearnedRun}
use Rattle.table_cell.specs.Machine.{TableState}
use Rattle.table_cell.specs.Soundness.{NumbersRise}
use Rattle.table_cell.proofs.LearnedLaws.{run_at_end, run_joined}
use Rattle.table_cell.proofs.table.Table.learned_from.Goals as goal

-- the run that the push passed is joined with the known one
pub returns-then-milliseconds : goal.returns-then-milliseconds
returns-then-milliseconds c =
    let run = c.self.inside.learned_run in
    let s = c.args.self.now in
    let rise : NumbersRise 1 s.next s.rows = subst (λ (x : TableState). NumbersRise 1 x.next x.rows) c.self.view_is c.last_number-end.ensures.sound.numbers in
    let end : c.last_number-end.result ≡ s.next - 1 = c.last_number-end.ensures.number ∙ ap (λ (x : TableState). x.next - 1) c.self.view_is in
    let old : IsLearnedRun run.after run.last s.next run.since s.rows = subst (λ (x : TableState). IsLearnedRun run.after run.last x.next run.since x.rows) c.self.view_is c.self.invariant in
    let later : run.since ≤ c.args.now = omega (arith, c.if-milliseconds.true, c.milliseconds.ensures.value, c.milliseconds-then-number-last.ensures.value) in
    run_joined run.after run.last run.since c.args.number c.last_number-end.result s.next c.args.now s.rows c.if-number-last.true later old
    (subst (λ (n : ℕ). IsLearnedRun c.args.number n s.next c.args.now s.rows) (sym end) (run_at_end c.args.number s.next c.args.now s.rows rise c.requires))

pub returns : goal.returns
returns c =
    let s = c.args.self.now in
    let rise : NumbersRise 1 s.next s.rows = subst (λ (x : TableState). NumbersRise 1 x.next x.rows) c.self.view_is c.last_number-end.ensures.sound.numbers in
    let end : c.last_number-end.result ≡ s.next - 1 = c.last_number-end.ensures.number ∙ ap (λ (x : TableState). x.next - 1) c.self.view_is in
    subst (λ (n : ℕ). IsLearnedRun c.args.number n s.next c.args.now s.rows) (sym end) (run_at_end c.args.number s.next c.args.now s.rows rise c.requires)
