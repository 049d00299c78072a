use Rattle.std.proofs.Common.{rules}
use Rattle.std.proofs.lemmas.Slice.Eq.{slice_eq-Decides}
use Rattle.table_types.proofs.row.are_same_cells.Goals as goal

pub returns : goal.returns
returns c =
    slice_eq-Decides (λ x y. search rules) c.args.one.now c.args.other.now c.eq.result c.eq.ensures
