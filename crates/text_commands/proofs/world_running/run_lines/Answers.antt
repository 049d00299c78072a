use Rattle.std.specs.Vec.Iter.{into_iter_items, into_iter_len}
use Rattle.text_commands.proofs.WorldPrinting.{all_printed}
use Rattle.text_commands.proofs.world_running.run_lines.Goals as goal

pub returns : goal.returns
returns c =
    let left = c.loop-line.line-iterator in
    all_printed c.args.world c.loop-line.world c.args.lines.items (into_iter_items left) (into_iter_len left)
    c.args.text.now.items c.loop-line.text.items c.loop-line.invariant.count c.in-None.ensures.steps.0 c.loop-line.invariant.printed
