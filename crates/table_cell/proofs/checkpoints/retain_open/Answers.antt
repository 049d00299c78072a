use Rattle.std.proofs.Common.{rules}
use Rattle.std.proofs.lemmas.Map.Made.{filter_same_pairs}
use Rattle.table_cell.specs.Machine.{is_open}
use Rattle.table_cell.proofs.checkpoints.retain_open.Goals as goal

pub returns : goal.returns
returns c = filter_same_pairs _ (λ e. is_open e.0 c.args.table.now) _ (λ k v b w f t. search rules) c.args.copies.now.entries c.retain.new.self.entries c.retain.ensures.filtered
