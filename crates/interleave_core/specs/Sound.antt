-- What holds of a connection at every moment, besides that it is on track (profile).
use Rattle.std.specs.Prelude.{◌≡◌, ◌<◌, ◌^◌, ◌==◌, ℕ, true, is_some, List, [], ◌∷◌, ◌++◌, filter_map, fold, map, Option, Some, None, if◌then◌else◌}
use Rattle.std.specs.List.{AllByRecursion}
use Rattle.table_types.specs.declared.key.Key.{Key}
use Rattle.table_types.specs.declared.update.Update.{Update}
use Rattle.table_types.specs.Batches.{IsUpdateFor}
use Rattle.table_types.specs.Rosters.{has_id, table_at}
use Rattle.table_types.specs.Rows.{StoredRow, row_of}
use Rattle.table_types.specs.Tables.{Definition, is_definition}
use Rattle.peers_msg.specs.Integers.{IsBytes}
use Rattle.peers_msg.specs.declared.message.Message.{Message}
use Rattle.peers_msg.specs.declared.message.Message.TheVariants as messages
use Rattle.peers_msg.specs.Received.{AreDistinct}
use Rattle.peers_msg.specs.Spelling.{stream_of}
use Rattle.known_state.specs.Known.{AreOwn, is_in, known_of}
use Rattle.known_state.specs.LastNumbers.{AreRising, last_of}
use Rattle.known_state.specs.State.{State}
use Rattle.learner.specs.Rows.{AreOfOthers, put}
use Rattle.interleave_core.specs.Kept.{IsOnTrack}
use Rattle.interleave_core.specs.Worlds.{ConnectionState}

-- ---- acknowledgements on their way

-- the acknowledgement of a table and a number
abbrev pub ack_message : ℕ × ℕ → Message
ack_message ack = messages.Ack ack.0 ack.1

-- an acknowledgement of a table of the roster, in range
abbrev pub IsAckFor : List Definition → ℕ × ℕ → Type 0
IsAckFor roster ack = (has_id ack.0 roster ≡ true) × (ack.0 < 2 ^ 64) × (ack.1 < 2 ^ 32)

-- the bytes spell these acknowledgements of tables of the roster, one after another
abbrev pub AreAcks : List Definition → List ℕ → List (ℕ × ℕ) → Type 0
AreAcks roster bytes acks = (bytes ≡ stream_of (map ack_message acks)) × IsBytes bytes × AllByRecursion (IsAckFor roster) acks

-- the numbers of the acknowledgements of a table, in order
abbrev pub acked_numbers : ℕ → List (ℕ × ℕ) → List ℕ
acked_numbers table acks = filter_map (λ ack. if ack.0 == table then Some ack.1 else None) acks

-- ---- last numbers

-- a table's last number after an update, given the one before it
abbrev pub number_after : ℕ → Option ℕ → Update → Option ℕ
number_after table last u = if u.table == table then Some u.number else last

-- the number of the last of the updates that is of `table`
abbrev pub last_number_of : ℕ → List Update → Option ℕ
last_number_of table us = fold (number_after table) None us

-- The state of a learner that has put these updates. The tables received are valid, in ascending order of id and with
-- distinct names. A table's last number is that of the last of its updates, and is below 2^32; only a table that is
-- received has one.
pub record IsStateAfter (applied : List Update) (s : State) : Type 0 where
  pub distinct : AreDistinct s.received.tables
  pub valid : AllByRecursion (λ d. is_definition d ≡ true) s.received.tables
  pub last : (table : ℕ) → last_of s.last_numbers table ≡ last_number_of table applied
  pub small : (table number : ℕ) → last_of s.last_numbers table ≡ Some number → number < 2 ^ 32
  pub received : (table : ℕ) → is_some (last_of s.last_numbers table) ≡ true → is_some (table_at s.received.tables table) ≡ true

-- ---- rows

-- the rows after the updates are put one after another, each at its moment
abbrev pub put_each : List Definition → List (ℕ × Update) → List (List (Key × StoredRow)) → List (List (Key × StoredRow))
put_each roster puts rows = fold (λ rows p. put p.0 roster rows p.1) rows puts

-- the rows are what is left when these updates are put among no rows, in order, each at some moment below 2^63
abbrev pub AreLeftBy : List Definition → List Update → List (List (Key × StoredRow)) → Type 0
AreLeftBy roster us rows =
    (puts : List (ℕ × Update)) × (us ≡ map (λ p. p.1) puts) × AllByRecursion (λ p. p.0 < 2 ^ 63) puts
    × (rows ≡ put_each roster puts (map (λ _. []) roster))

-- the row is what the last of these updates of the table and the key taught, at some moment below 2^63
abbrev pub IsOfLast : Definition → Key → List Update → StoredRow → Type 0
IsOfLast d key us row =
    (before : List Update) × (u : Update) × (after : List Update) × (now : ℕ)
    × (us ≡ before ++ u ∷ after) × (u.table ≡ d.id) × (u.key ≡ key) × AreOfOthers d.id key after
    × (now < 2 ^ 63) × (row ≡ row_of now d.expire u)

-- ---- the connection

-- The connection is on track, and these acknowledgements are on their way, in order. The learner's state and rows are
-- those after the updates that it has put, and a table is due only if it had one of them. What is known of the learner is
-- of the roster's own tables, and nothing else. Every update that was taught is one for the roster.
pub record IsSoundConnection (roster : List Definition) (s : ConnectionState) (acks : List (ℕ × ℕ)) : Type 0 where
  pub track : IsOnTrack roster s
  pub to_teacher : AreAcks roster (s.unread ++ s.to_teacher) acks
  pub state : IsStateAfter s.applied s.learner.intake.state
  pub due : (table : ℕ) → is_in table s.learner.intake.due ≡ true → is_some (last_number_of table s.applied) ≡ true
  pub rows : AreLeftBy roster s.applied s.learner.rows
  pub known : (known_of roster s.known.state ≡ s.known) × AreOwn roster s.known.state.received.tables × AreRising s.known.state.last_numbers
  pub taught : AllByRecursion (IsUpdateFor roster) s.taught
