use Rattle.std.proofs.Common.{◌≡◌, Ok, Some, sym, rules, true, false, length}
use Rattle.std.specs.Prelude.{◌==◌}
use Rattle.table_types.specs.Keys.{number_of}
use Rattle.peers_msg.specs.Borrowed.{owned_name}
use Rattle.peers_msg.specs.Received.{selected_table}
use Rattle.tolerant_intake.specs.Loose.{LooseUpdate, loose_update_at}
use Rattle.tolerant_intake.specs.Policy.{writes}
use Rattle.tolerant_intake.proofs.PlansMade.{values_planned}
use Rattle.tolerant_intake.proofs.planning.plan_bad_values.Goals as goal

pub returns : goal.returns
returns c =
    let s = c.args.state.now in
    let d = c.in-Some.table.now in
    let u : LooseUpdate = record { number = c.in-Ok.update.number; name = owned_name c.in-Ok.update.name; rest = c.in-Ok.update.rest.now } in
    let selected : selected_table s.received ≡ Some d = search rules in
    let read : loose_update_at (number_of d.kind) d.key_length d.types c.args.numbered c.args.timed c.args.body.now ≡ Ok u = search rules in
    let end : (length u.rest == 0) ≡ true = sym c.if-not-is_empty.ensures in
    let silent : writes u.name ≡ false = sym c.if-writes.ensures in
    values_planned s c.args.numbered c.args.timed c.args.body.now d u c.args.used c.plan_passed.result selected read end silent c.plan_passed.ensures.lacks c.plan_passed.ensures.some
