use Rattle.text_commands.proofs.Printing.{all_printed}
use Rattle.std.specs.Vec.Iter.{into_iter_items, into_iter_len}
use Rattle.text_commands.proofs.running.Run.make_all.Goals as goal

pub returns-clause-printed : goal.returns-clause-printed
returns-clause-printed c =
    let run = c.loop-number.self in
    let left = c.loop-number.number-iterator in
    all_printed c.args.self.now.cell run.cell c.args.self.now.given.items run.given.items c.args.calls.items (into_iter_items left)
    (into_iter_len left) c.args.self.now.text.items run.text.items c.loop-number.invariant.count c.in-None.ensures.steps.0
    c.loop-number.invariant.printed
