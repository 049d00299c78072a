use Rattle.std.proofs.Common.{◌≡◌, drop}
use Rattle.table_types.specs.DataTypes.{all_types}
use Rattle.peers_msg.specs.Reading.{types_at}
use Rattle.peers_msg.proofs.ReadingLoops.{with_front}
use Rattle.peers_msg.proofs.borrowed.definition_ref.types_of.Given as goal

abbrev pub invariant-loop-data_type : goal.invariant-loop-data_type
invariant-loop-data_type l =
    with_front l.types.items (types_at (drop l.data_type-index all_types) l.left l.rest) ≡ types_at all_types l.stored l.periods
