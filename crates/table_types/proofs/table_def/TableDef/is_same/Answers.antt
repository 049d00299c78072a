use Rattle.table_types.specs.Shapes.{is_same_definition}
use Rattle.table_types.proofs.OneTableByShape.{definition_same, said_so, same_definition}
use Rattle.table_types.proofs.table_def.TableDef.is_same.Goals as goal

pub returns-clause-equal : goal.returns-clause-equal
returns-clause-equal c =
    said_so c.is_same_definition.result (is_same_definition c.args.self.now c.args.other.now) c.is_same_definition.ensures (same_definition c.args.self.now c.args.other.now) (definition_same c.args.self.now c.args.other.now)
