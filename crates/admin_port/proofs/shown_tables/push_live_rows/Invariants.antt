use Rattle.std.proofs.Common.{◌≡◌, ◌++◌, drop}
use Rattle.std.specs.List.{flat_map}
use Rattle.admin_port.specs.ShownTables.{live_line}
use Rattle.admin_port.proofs.shown_tables.push_live_rows.Given as goal

abbrev pub invariant-loop-key : goal.invariant-loop-key
invariant-loop-key l =
    l.text.items ++ flat_map (live_line l.table l.moment) (drop l.key-index l.rows) ≡ l.fn.text.items ++ flat_map (live_line l.table l.moment) l.rows
