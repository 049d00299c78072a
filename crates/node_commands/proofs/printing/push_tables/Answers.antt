use Rattle.node_commands.proofs.PrintingLaws.{all_pushed, none_pushed, rows_pushed}
use Rattle.node_commands.proofs.printing.push_tables.Goals as goal

pub loop-table-init : goal.loop-table-init
loop-table-init c = none_pushed c.args.tables.now c.args.text.now.items

pub loop-table-preserved : goal.loop-table-preserved
loop-table-preserved c = λ rest others.
    let pushed = c.in_ok-push_table.ensures in
    rows_pushed c.args.tables.now c.loop-table.table-index c.table-item.result c.args.text.now.items c.loop-table.text.items c.push_table.new.text.items pushed.0 rest
    c.loop-table-test.true c.table-item.is pushed.1 pushed.2 others c.loop-table.invariant

pub returns : goal.returns
returns c = all_pushed c.args.tables.now c.loop-table.table-index c.args.text.now.items c.loop-table.text.items c.loop-table-test.false c.loop-table.invariant
