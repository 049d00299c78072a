use Rattle.std.proofs.Common.{arith, rules}
use Rattle.table_types.proofs.KeptTypesRise.{made_is_definition}
use Rattle.table_types.proofs.table_def.TableDef.new.Goals as goal

pub invariant_of-result : goal.invariant_of-result
invariant_of-result c =
    made_is_definition c.args.id c.args.name.items c.new.result c.args.kind c.args.key_length c.args.expire c.args.types.items c.new-2.result
    (search rules) (search rules) (cc) (search rules) (omega arith) (search rules) (search rules)
