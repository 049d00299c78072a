use Rattle.std.proofs.Common.{rules, sym, ap, ◌∙◌}
use Rattle.peers_msg.proofs.TablesAbove.{first_of_range, first_table}
use Rattle.peers_msg.proofs.received.Received.table_above.Goals as goal

pub returns-in-Some : goal.returns-in-Some
returns-in-Some c =
    rw (← c.self.view_is) (sym (ap first_table c.in-Some.ensures.steps)
    ∙ first_of_range c.self.inside.tables.entries c.range-above.result c.args.id c.self.invariant.by_id (c.range-above.ensures.between (search rules)))

pub returns-in-None : goal.returns-in-None
returns-in-None c =
    rw (← c.self.view_is) (sym (ap first_table c.in-None.ensures.steps.0)
    ∙ first_of_range c.self.inside.tables.entries c.range-above.result c.args.id c.self.invariant.by_id (c.range-above.ensures.between (search rules)))
