use Rattle.std.proofs.Common.{◌≡◌, ◌<◌, ◌^◌, ℕ, Bool, Some, None, not, sym, subst, ◌∙◌}
use Rattle.std.specs.Prelude.{is_none, nat_le, nat_lt}
use Rattle.std.proofs.lemmas.Bool.{leb-false}
use Rattle.table_types.specs.declared.update.Update.{Update}
use Rattle.table_cell.specs.Histories.{CellState}
use Rattle.table_cell.specs.Machine.{TableState, is_of_table, learn_refusal, progress_of}
use Rattle.table_cell.proofs.HistoryLaws.{learn_refused}
use Rattle.table_cell.proofs.StepLaws.{passes}
use Rattle.table_cell.proofs.cell.TableCell.learned_row.Goals as goal

-- a number is left
some_left : (full : Bool) (s : TableState) (session : ℕ) (u : Update) (now : ℕ) → learn_refusal full s session u now ≡ None → s.next < 2 ^ 32
some_left full s session u now granted =
    let a = passes (is_none (progress_of session s)) _ _ granted in
    let b = passes (not (is_of_table s.definition u)) _ _ a.1 in
    let c = passes (nat_lt now s.latest) _ _ b.1 in
    let f = passes full _ _ c.1 in
    let n = passes (nat_le (2 ^ 32) s.next) _ _ f.1 in
    leb-false (2 ^ 32) s.next n.0

pub learned-requires : goal.learned-requires
learned-requires c =
    let none : learn_refusal c.is_history_full-full.result c.self.inside.table c.args.session c.args.update.now c.args.now ≡ None = sym c.learn_refusal.ensures.refusal ∙ c.in_default.is in
    some_left c.is_history_full-full.result c.self.inside.table c.args.session c.args.update.now c.args.now none

pub returns-in-Some-clause-refused : goal.returns-in-Some-clause-refused
returns-in-Some-clause-refused c =
    let inner : learn_refusal c.is_history_full-full.result c.self.inside.table c.args.session c.args.update.now c.args.now ≡ Some c.in-Some.error = sym c.learn_refusal.ensures.refusal ∙ c.in-Some.is in
    let outer : learn_refusal c.is_history_full-full.result c.args.self.now.state c.args.session c.args.update.now c.args.now ≡ Some c.in-Some.error =
    subst (λ (x : CellState). learn_refusal c.is_history_full-full.result x.state c.args.session c.args.update.now c.args.now ≡ Some c.in-Some.error) c.self.view_is inner in
    learn_refused c.args.self.now c.args.session c.args.update.now c.args.now c.in-Some.error
    (subst (λ b. learn_refusal b c.args.self.now.state c.args.session c.args.update.now c.args.now ≡ Some c.in-Some.error) c.is_history_full-full.ensures outer)
