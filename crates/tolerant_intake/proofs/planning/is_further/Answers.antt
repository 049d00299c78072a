use Rattle.std.proofs.Common.{◌≡◌, ◌≤◌, length, option_copied, arith, rules}
use Rattle.table_types.specs.Rosters.{table_at}
use Rattle.tolerant_intake.proofs.FurtherIds.{further}
use Rattle.tolerant_intake.proofs.planning.is_further.Goals as goal

pub returns-then-count-ge-MOST_TABLES : goal.returns-then-count-ge-MOST_TABLES
returns-then-count-ge-MOST_TABLES c =
    let ds = c.args.received.now.tables in
    let count : c.count.result ≡ length ds = search rules in
    let full : 1024 ≤ length ds = omega arith in
    let found : option_copied c.table.result ≡ table_at ds c.args.id = search rules in
    further 1024 ds c.args.id c.table.result c.is_none.result full found c.is_none.ensures
