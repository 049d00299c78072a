use Rattle.std.proofs.Common.{◌≡◌, ◌++◌, drop}
use Rattle.std.specs.List.{flat_map}
use Rattle.node_text.specs.Updates.{update_line}
use Rattle.text_commands.proofs.listing.push_updates.Given as goal

abbrev pub invariant-loop-update : goal.invariant-loop-update
invariant-loop-update l =
    l.text.items ++ flat_map (update_line l.table) (drop l.update-index l.updates) ≡ l.fn.text.items ++ flat_map (update_line l.table) l.updates
