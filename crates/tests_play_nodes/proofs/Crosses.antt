-- Closures that go to another thread. A search through all captures gives up.
use mathlib.Core.List.{[], ◌∷◌}
use mir.Syntax.{Sym}
use denote.RattleType.{RattleType}
use denote.Param.Send.{IsSend, sendable}
use denote.Param.SendFields.{as_row_send, declared_send}
use denote.Struct.Field.{row_field}
use denote.Struct.Tuple.{TupleAt, type_at}
use Rattle.std.specs.contracts.option.Option as Option
use Rattle.table_shards.specs.contracts.seat.Seat as Seat
use Rattle.table_shards.proofs.Crosses.{seat_send}

-- a closure of five captures
pub five_send : (name : Sym) (A B C D E : RattleType) → IsSend A → IsSend B → IsSend C → IsSend D → IsSend E → IsSend (TupleAt name (A ∷ B ∷ C ∷ D ∷ E ∷ []))
five_send name A B C D E a b c d e =
    declared_send (type_at name (A ∷ B ∷ C ∷ D ∷ E ∷ []))
    (as_row_send (row_field A) a, (as_row_send (row_field B) b, (as_row_send (row_field C) c, (as_row_send (row_field D) d, (as_row_send (row_field E) e, tt)))))

-- a seat that may be missing
pub option_seat_send : IsSend (Option.the_row Seat.the_row)
option_seat_send = search (seat_send, sendable) depth 40
