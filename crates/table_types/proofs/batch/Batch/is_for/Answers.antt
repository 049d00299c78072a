use Rattle.std.proofs.Common.{rules}
use Rattle.table_types.proofs.BatchIsFaultless.{is_for}
use Rattle.table_types.proofs.batch.Batch.is_for.Goals as goal

pub returns : goal.returns
returns c = is_for c.args.roster.now c.args.self.now _ (search rules) (search rules)
