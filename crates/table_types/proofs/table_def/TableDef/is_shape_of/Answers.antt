use Rattle.table_types.specs.Shapes.{is_shape_of}
use Rattle.table_types.proofs.OneTableByShape.{means_shape, said_so, shape_means}
use Rattle.table_types.proofs.table_def.TableDef.is_shape_of.Goals as goal

pub returns-clause-equal : goal.returns-clause-equal
returns-clause-equal c =
    said_so c.is_shape_of.result (is_shape_of c.args.self.now c.args.other.now) c.is_shape_of.ensures (shape_means c.args.self.now c.args.other.now) (means_shape c.args.self.now c.args.other.now)
