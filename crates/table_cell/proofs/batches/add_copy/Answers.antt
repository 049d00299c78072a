use Rattle.std.proofs.Common.{◌≡◌, ℕ, ◌∷◌, ◌++◌, [], Some, false, ap, sym, subst, ◌∙◌, rules}
use Rattle.std.specs.Prelude.{cond}
use Rattle.std.specs.Map.{lookup}
use Rattle.std.specs.BTreeMap.{is_at}
use Rattle.std.specs.Ordering.{is_eq, nat_cmp}
use Rattle.table_cell.specs.declared.events.CellEvent.{CellEvent}
use Rattle.table_cell.specs.declared.events.CellReply.TheVariants as replies
use Rattle.table_cell.specs.Machine.{Step, last_number, unacked}
use Rattle.table_cell.proofs.StepLaws.{copy_granted}
use Rattle.table_cell.proofs.CopyLaws.{taught_is}
use Rattle.table_cell.proofs.HistoryLaws.{latest_copied}
use Rattle.table_cell.proofs.batches.add_copy.Goals as goal

pub returns-clause-step : goal.returns-clause-step
returns-clause-step c =
    let (kind, limit, is, (granted, same)) = c.requires in
    let us = unacked c.args.table.now c.args.session kind c.args.now limit in
    let found = copy_granted false c.args.table.now c.args.session kind limit c.args.now granted in
    let last : c.last_number.result ≡ last_number 0 us = c.last_number.ensures ∙ ap (last_number 0) (c.updates.ensures.updates ∙ same) in
    subst (λ (e : CellEvent). Step c.args.table.now e (replies.Copy c.args.batch) c.teach.new.self) (sym is)
    (granted, ap replies.Copy same, taught_is c.args.table.now c.teach.new.self c.args.session c.args.now c.last_number.result us c.teach.ensures last found.1.some)

pub returns-clause-latest : goal.returns-clause-latest
returns-clause-latest c = λ held latest.
    let (kind, limit, is, copied) = c.requires in
    let batch = c.args.batch in
    let copies = c.args.latest_copies.now.entries in
    let longer : c.push_reserved.new.self.items ≡ c.args.history.now.items ++ (c.args.event, replies.Copy batch) ∷ [] = search rules in
    let put : (k : ℕ) → lookup (is_at (nat_cmp k)) c.insert.new.self.entries ≡ cond (is_eq (nat_cmp c.args.session k)) (Some (c.args.event, replies.Copy batch)) (lookup (is_at (nat_cmp k)) copies) = λ k. c.in_ok-insert.ensures.updates.0 k ∙ search rules in
    latest_copied c.args.session limit c.args.now kind batch held c.args.history.now.items c.push_reserved.new.self.items copies c.insert.new.self.entries
    (longer ∙ ap (λ (e : CellEvent). c.args.history.now.items ++ (e, replies.Copy batch) ∷ []) is)
    (λ k. put k ∙ ap (λ (e : CellEvent). cond (is_eq (nat_cmp c.args.session k)) (Some (e, replies.Copy batch)) (lookup (is_at (nat_cmp k)) copies)) is) latest
