use Rattle.std.proofs.Common.{◌≡◌, ℕ, List, Option, drop}
use Rattle.table_types.specs.declared.data_type.DataType.{DataType}
use Rattle.table_types.specs.DataTypes.{all_types}
use Rattle.peers_msg.specs.Reading.{types_at}
use Rattle.peers_msg.proofs.ReadingLoops.{with_front}
use Rattle.peers_msg.proofs.reading.definitions.types_end.Given as goal

abbrev pub invariant-loop-data_type : goal.invariant-loop-data_type
invariant-loop-data_type l =
    (front : List (DataType × Option ℕ)) × (with_front front (types_at (drop l.data_type-index all_types) l.left l.rest) ≡ types_at all_types l.bits l.bytes)
