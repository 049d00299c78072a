-- What the worker of a round takes with it may go to another thread.
use mathlib.Core.List.{List, [], ◌∷◌}
use mir.Syntax.{Sym}
use denote.RattleType.{RattleType}
use denote.Param.Send.{AllSend, IsSend, sendable}
use denote.Param.SendFields.{FieldsHave, as_row_send, declared_send}
use denote.Struct.Field.{row_field}
use denote.Struct.Tuple.{TupleAt, type_at}
use Rattle.std.proofs.Crossing.{crosses}
use Rattle.std.proofs.MapsCrossing.{crosses as maps}
use Rattle.peers_msg.specs.contracts.received.Received as Received
use Rattle.known_state.specs.contracts.known.Known as Known
use Rattle.known_state.specs.contracts.last_numbers.LastNumbers as LastNumbers

pub received_send : IsSend (Received.the_field).row
received_send = search (sendable, crosses, maps) depth 80 fits 20000

pub numbers_send : IsSend (LastNumbers.the_field).row
numbers_send = search (sendable, crosses, maps) depth 80 fits 20000

pub known_send : IsSend (Known.the_field).row
known_send = search (received_send, numbers_send, sendable, crosses) depth 80 fits 20000

parts_send : (name : Sym) (As : List RattleType) → AllSend As → FieldsHave IsSend (type_at name As).parts
parts_send name [] all = tt
parts_send name (A ∷ As) (first, rest) = (as_row_send (row_field A) first, parts_send name As rest)

captures_send : (name : Sym) (As : List RattleType) → AllSend As → IsSend (TupleAt name As)
captures_send name As all = declared_send (type_at name As) (parts_send name As all)

-- A closure of five captures, and of seven. A search through all of them gives up.
pub five_send : (name : Sym) (A B C D E : RattleType) → IsSend A → IsSend B → IsSend C → IsSend D → IsSend E → IsSend (TupleAt name (A ∷ B ∷ C ∷ D ∷ E ∷ []))
five_send name A B C D E a b c d e = captures_send name (A ∷ B ∷ C ∷ D ∷ E ∷ []) (a, (b, (c, (d, (e, tt)))))

pub seven_send : (name : Sym) (A B C D E F G : RattleType) → IsSend A → IsSend B → IsSend C → IsSend D → IsSend E → IsSend F → IsSend G → IsSend (TupleAt name (A ∷ B ∷ C ∷ D ∷ E ∷ F ∷ G ∷ []))
seven_send name A B C D E F G a b c d e f g = captures_send name (A ∷ B ∷ C ∷ D ∷ E ∷ F ∷ G ∷ []) (a, (b, (c, (d, (e, (f, (g, tt)))))))
