-- Acknowledgements that arrive at a teacher, and the tables that take them (profile).
use Rattle.std.specs.Prelude.{◌≡◌, ◌≤◌, ℕ, Bool, false, ◌==◌, List, drop, filter_map, length, map, None, Ok, Some}
use Rattle.std.specs.List.{AllByRecursion, count_by}
use Rattle.table_types.specs.Tables.{Definition}
use Rattle.peers_msg.specs.declared.message.Message.{Message}
use Rattle.peers_msg.specs.Decoding.{AreRead}
use Rattle.peers_msg.specs.Reading.{message_at}
use Rattle.peers_msg.specs.Received.{Received, nothing_received}
use Rattle.table_cell.specs.Histories.{CellState, room_of}
use Rattle.table_cell.specs.Machine.{ack_refusal}
use Rattle.interleave_core.specs.declared.acks.Acknowledgement.{Acknowledgement}
use Rattle.interleave_core.specs.declared.acks.Read.{Read}
use Rattle.interleave_core.specs.Moves.{ack_in}
use Rattle.interleave_core.specs.Worlds.{cell_at}

-- ---- what arrives

-- an acknowledgement's table and number
abbrev pub pair_of : Acknowledgement → ℕ × ℕ
pair_of ack = (ack.table, ack.number)

abbrev pub pairs_of : List Acknowledgement → List (ℕ × ℕ)
pairs_of acks = map pair_of acks

abbrev pub is_of : ℕ → Acknowledgement → Bool
is_of table ack = ack.table == table

-- the whole messages at the front of the bytes have `used` bytes, and these are the acknowledgements of the roster's tables among
-- them
pub record AreAcksOf (roster : List Definition) (bytes : List ℕ) (read : Read) : Type 0 where
  pub within : read.used ≤ length bytes
  pub messages : (ms : List Message) × (received : Received)
      × AreRead nothing_received bytes ms received (drop read.used bytes)
      × (message_at received (drop read.used bytes) ≡ Ok None)
      × (pairs_of read.acks.items ≡ filter_map (ack_in roster) ms)

-- ---- what tables take

-- the table of the acknowledgement was taught its number, or a later one, in the session
abbrev pub IsTaught : ℕ → List CellState → ℕ × ℕ → Type 0
IsTaught session cells ack = (c : CellState) × (cell_at ack.0 cells ≡ Some c) × (ack_refusal false c.state session ack.1 ≡ None)

abbrev pub AreTaught : ℕ → List CellState → List (ℕ × ℕ) → Type 0
AreTaught session cells acks = AllByRecursion (IsTaught session cells) acks

-- the table, if it is there, has room for its acknowledgements
abbrev pub HasRoom : List CellState → List (ℕ × ℕ) → ℕ → Type 0
HasRoom cells acks table = (c : CellState) → cell_at table cells ≡ Some c → count_by (λ ack. ack.0 == table) acks ≤ room_of c

abbrev pub HaveRoom : List CellState → List (ℕ × ℕ) → Type 0
HaveRoom cells acks = (table : ℕ) → HasRoom cells acks table
