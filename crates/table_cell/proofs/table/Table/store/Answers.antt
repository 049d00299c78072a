use Rattle.std.proofs.Common.{◌≡◌, ℕ, ◌+◌, ◌∷◌, ◌++◌, [], leb, length, not, sym, ap, subst, ◌∙◌}
use Rattle.std.specs.Prelude.{nat_lt}
use Rattle.table_stock.specs.Stock.{LeftFor, Stocked, stocked}
use Rattle.table_stock.proofs.StockSteps.{not_above}
use Rattle.table_cell.specs.LearnedRuns.{IsLearnedRun}
use Rattle.table_cell.specs.Machine.{TableState, stored, without}
use Rattle.table_cell.proofs.LiveLaws.{left_leaves}
use Rattle.table_cell.proofs.table.Table.store.Goals as goal

pub invariant_of-self-2 : goal.invariant_of-self-2
invariant_of-self-2 c =
    let run = c.run_with-learned_run.result in
    let s = c.args.self.now in
    let key = c.args.key in
    let full = leb c.self.inside.size c.len.result in
    let room : not full ≡ nat_lt (length s.rows) s.size =
    sym (not_above c.len.result c.self.inside.size) ∙ ap (λ (n : ℕ). nat_lt n c.self.inside.size) c.len.ensures ∙ ap (λ (t : TableState). nat_lt (length t.rows) t.size) c.self.view_is in
    let (rest, left, put) = c.in_ok-put.ensures.put in
    let leaves = left_leaves s key full rest room (subst (λ (t : TableState). LeftFor key full t.rows rest) c.self.view_is left) in
    let put_is : c.put.new.self ≡ stocked (s.next + 1) (without key rest ++ (key, c.args.row) ∷ []) = put ∙ ap (λ (t : TableState). stocked (t.next + 1) (without key rest ++ (key, c.args.row) ∷ [])) c.self.view_is in
    subst (λ (t : Stocked). IsLearnedRun run.after run.last t.next run.since t.rows) (sym put_is) (c.run_with-learned_run.ensures key rest leaves)

pub returns-clause-stored : goal.returns-clause-stored
returns-clause-stored c =
    let s = c.args.self.now in
    let key = c.args.key in
    let full = leb c.self.inside.size c.len.result in
    let room : not full ≡ nat_lt (length s.rows) s.size =
    sym (not_above c.len.result c.self.inside.size) ∙ ap (λ (n : ℕ). nat_lt n c.self.inside.size) c.len.ensures ∙ ap (λ (t : TableState). nat_lt (length t.rows) t.size) c.self.view_is in
    let (rest, left, put) = c.in_ok-put.ensures.put in
    let leaves = left_leaves s key full rest room (subst (λ (t : TableState). LeftFor key full t.rows rest) c.self.view_is left) in
    let here : Stocked → TableState = λ t. record { definition = c.self.inside.definition; size = c.self.inside.size; nopurge = c.self.inside.nopurge; rows = t.rows; next = t.next; latest = c.args.now; sessions = c.self.inside.sessions.items } in
    (rest, leaves, ap here put ∙ ap (λ (t : TableState). stored t key c.args.row c.args.now rest) c.self.view_is)
