use Rattle.std.proofs.Common.{true, false, ap, sym, ◌∙◌}
use Rattle.table_types.specs.Tables.{Definition}
use Rattle.table_shards.specs.Agreement.{Agree}
use Rattle.table_shards.proofs.CompareLaws.{agree_at, agree_not_at, compares_else, compares_stray, strays_none}
use Rattle.table_shards.proofs.comparing.compare.Goals.{else-are_of_round-via-then-are_of_round+else-are_once, else-are_of_round-via-else-are_of_round}
use Rattle.table_shards.proofs.comparing.compare.Goals as goal

pub returns-then-is_some : goal.returns-then-is_some
returns-then-is_some c = compares_stray c.args.cell.now c.args.from c.args.seats.now c.least_stray-stray.result (sym c.is_some.ensures ∙ c.if-is_some.true) c.least_stray-stray.ensures

pub returns-then-are_once : goal.returns-then-are_once
returns-then-are_once c =
    let own = strays_none c.args.cell.now c.args.seats.now c.least_stray-stray.result (sym c.is_some.ensures ∙ c.if-is_some.false) c.least_stray-stray.ensures in
    let is_table = c.id-table.ensures.value ∙ ap (λ (d : Definition). d.id) c.definition.ensures in
    agree_at true c.args.cell.now c.args.from c.args.seats.now c.id-table.result c.events.result is_table c.events.ensures.events own
    c.if-are_of_round.ensures.after (c.are_of_round.ensures.rising c.if-are_of_round.true) c.if-are_once.ensures

pub returns-else-are_of_round : goal.returns-else-are_of_round
returns-else-are_of_round c =
    let own = strays_none c.args.cell.now c.args.seats.now c.least_stray-stray.result (sym c.is_some.ensures ∙ c.if-is_some.false) c.least_stray-stray.ensures in
    let is_table = c.id-table.ensures.value ∙ ap (λ (d : Definition). d.id) c.definition.ensures in
    let apart : Agree c.args.cell.now c.args.from c.args.seats.now → ⊥ = elim c.else-are_of_round.branch [
      | else-are_of_round-via-then-are_of_round+else-are_once w ↦
          agree_at false c.args.cell.now c.args.from c.args.seats.now c.id-table.result w.events.result is_table w.events.ensures.events own
          w.if-are_of_round.ensures.after (c.are_of_round.ensures.rising w.if-are_of_round.true) w.if-are_once.ensures
      | else-are_of_round-via-else-are_of_round w ↦
          agree_not_at c.args.cell.now c.args.from c.args.seats.now c.id-table.result is_table w.if-are_of_round.ensures.after
    ] in
    compares_else c.args.cell.now c.args.from c.args.seats.now own apart
