-- What becomes of the message at the front of a tolerant reader's bytes (HAProxy, doc/peers-v2.0.txt, "Messages"; what is
-- passed over is the profile's choice).
use Rattle.std.specs.Prelude.{◌≡◌, ℕ, Bool, true, false, not, ◌&&◌, ◌==◌, List, length, Option, Some, None, option_map, option_and_then, Result, Ok, Err, if◌then◌else◌}
use Rattle.table_types.specs.Tables.{Definition}
use Rattle.table_types.specs.Keys.{number_of}
use Rattle.peers_msg.specs.declared.name_field.NameField.{NameField}
use Rattle.peers_msg.specs.declared.name_field.NameField.TheVariants as names
use Rattle.peers_msg.specs.declared.message.Message.{Message}
use Rattle.peers_msg.specs.declared.message.Message.TheVariants as messages
use Rattle.peers_msg.specs.declared.meaning.Meaning.{Meaning}
use Rattle.peers_msg.specs.declared.meaning.Meaning.TheVariants as meanings
use Rattle.peers_msg.specs.declared.fault.Breach.{Breach}
use Rattle.peers_msg.specs.declared.fault.Breach.TheVariants.{BadDefinition, BadValue, SizeLimit, UnknownDataType}
use Rattle.peers_msg.specs.Messages.{UpdateFields}
use Rattle.peers_msg.specs.Received.{selected_table}
use Rattle.peers_msg.specs.Reading.{Frame, frame_at, meant, body_at, message_at}
use Rattle.known_state.specs.State.{State, resolved_number, reads_empty}
use Rattle.known_state.specs.LastNumbers.{last_of}
use Rattle.known_state.specs.Effects.{written_by}
use Rattle.known_state.specs.declared.effect.ResolvedUpdate.{ResolvedUpdate}
use Rattle.learner.specs.Intake.{Taking}
use Rattle.tolerant_intake.specs.declared.loose_table.LooseTable.{LooseTable}
use Rattle.tolerant_intake.specs.declared.passed_over.Cause.{Cause}
use Rattle.tolerant_intake.specs.declared.passed_over.Cause.TheVariants as causes
use Rattle.tolerant_intake.specs.Loose.{LooseDefinition, LooseUpdate, loose_definition_at, loose_update_at}
use Rattle.tolerant_intake.specs.Tolerance.{Tolerance, is_further, selected_loose}

-- What becomes of a message.
-- Strict: what the strict intake does with it.
-- Defines: the same; it is this definition, which may replace tables outside the profile.
-- Counts: it is passed over, but for its number and the name that it writes. If there is a cause, it counts as passed over.
-- StandsIn: it is passed over, and another definition stands in for it.
-- Unnumbered: the reader stops at it, since it is an update without a number.
-- Breaks: the reader stops at it with this breach.
pub data Passage : Type 0 where
  Strict : Passage
  Defines : Definition → Passage
  Counts : ResolvedUpdate → Option Cause → Passage
  StandsIn : LooseDefinition → Passage
  Unnumbered : Passage
  Breaks : Breach → Passage

-- the message is passed over
abbrev pub IsPassedOver : Passage → Type 0
IsPassedOver (Counts r cause) = Unit {0}
IsPassedOver (StandsIn d) = Unit {0}
IsPassedOver p = ⊥

-- ---- updates

-- the selected id, and the number of an update of its table
abbrev pub numbered : State → Option ℕ → Option (ℕ × ℕ)
numbered s number = option_and_then (λ table. option_map (λ n. (table, n)) (resolved_number number (last_of s.last_numbers table))) s.received.selected

-- an update with this number and this name field is passed over; one that has no number isn't
abbrev pub passed : Option (ℕ × ℕ) → NameField → Option Cause → Passage → Passage
passed None field cause otherwise = otherwise
passed (Some n) field cause otherwise = Counts (record { table = n.0; number = n.1; written = written_by field }) cause

-- a field that reads an empty slot counts
abbrev pub slot_cause : State → NameField → Option Cause
slot_cause s field = if reads_empty s.slots field then Some causes.Slot else None

-- an update of a table outside the profile
abbrev pub of_loose_update : State → Result LooseUpdate Breach → Passage
of_loose_update s (Ok u) = passed (numbered s u.number) u.name (slot_cause s u.name) Unnumbered
of_loose_update s (Err breach) = Breaks breach

-- an update that the strict intake can read: it is passed over if it reads an empty slot
abbrev pub of_read_update : State → UpdateFields → Passage
of_read_update s u = if reads_empty s.slots u.name then passed (numbered s u.number) u.name (Some causes.Slot) Strict else Strict

-- a field that writes a name
abbrev pub writes : NameField → Bool
writes (names.Written slot name) = true
writes field = false

-- an update with a value out of its range: it is passed over if all of it can be read loosely and it writes no name
abbrev pub of_values : State → Result LooseUpdate Breach → Passage
of_values s (Ok u) = if length u.rest == 0 && not (writes u.name) then passed (numbered s u.number) u.name (Some causes.Value) Strict else Strict
of_values s (Err breach) = Strict

abbrev pub of_bad_values : State → Bool → Bool → List ℕ → Option Definition → Passage
of_bad_values s with_number timed body None = Strict
of_bad_values s with_number timed body (Some d) = of_values s (loose_update_at (number_of d.kind) d.key_length d.types with_number timed body)

-- ---- definitions

-- a definition of a further id is refused, while as many ids as may be stand for tables
abbrev pub unless_further : State → ℕ → Passage → Passage
unless_further s id passage = if is_further s.received id then Breaks SizeLimit else passage

-- the message at the front defines a table under a further id, while as many ids as may be stand for tables
abbrev pub IsFurther : Taking → Type 0
IsFurther t = (d : Definition) × (rest : List ℕ) × (message_at t.state.received t.unread ≡ Ok (Some (messages.Define d, rest))) × (is_further t.state.received d.id ≡ true)

abbrev pub of_loose_definition : State → Result LooseDefinition Breach → Passage
of_loose_definition s (Ok d) = unless_further s d.id (StandsIn d)
of_loose_definition s (Err breach) = Strict

-- ---- messages

-- a message that the strict intake can read
abbrev pub of_read : State → Message → Passage
of_read s (messages.Update u) = of_read_update s u
of_read s (messages.Define d) = unless_further s d.id (Defines d)
of_read s m = Strict

-- one with this meaning that it can't read, for this breach
abbrev pub of_breach : State → Meaning → List ℕ → Breach → Passage
of_breach s (meanings.Update with_number timed) body BadValue = of_bad_values s with_number timed body (selected_table s.received)
of_breach s meanings.Define body UnknownDataType = of_loose_definition s (loose_definition_at body)
of_breach s meanings.Define body BadDefinition = of_loose_definition s (loose_definition_at body)
of_breach s meaning body breach = Strict

abbrev pub of_message : State → Meaning → List ℕ → Result Message Breach → Passage
of_message s meaning body (Ok m) = of_read s m
of_message s meaning body (Err breach) = of_breach s meaning body breach

abbrev pub of_frame : State → Frame → Passage
of_frame s f = of_message s (meant f.class f.message_type) f.body (body_at s.received f.class f.message_type f.body)

-- bytes that aren't a whole message, or can't begin one, are left to the strict intake
abbrev pub of_front : State → Result (Option (Frame × List ℕ)) Breach → Passage
of_front s (Ok (Some front)) = of_frame s front.0
of_front s front = Strict

-- an update of the selected table, if that is outside the profile, is read loosely
abbrev pub loose_in : LooseTable → Meaning → List ℕ → Option (Result LooseUpdate Breach)
loose_in l (meanings.Update with_number timed) body = Some (loose_update_at l.kind l.key_length l.types with_number timed body)
loose_in l meaning body = None

abbrev pub loose_front : Option LooseTable → Result (Option (Frame × List ℕ)) Breach → Option (Result LooseUpdate Breach)
loose_front None front = None
loose_front (Some l) (Ok (Some front)) = loose_in l (meant front.0.class front.0.message_type) front.0.body
loose_front (Some l) front = None

abbrev pub passage_by : State → Option (Result LooseUpdate Breach) → Result (Option (Frame × List ℕ)) Breach → Passage
passage_by s (Some read) front = of_loose_update s read
passage_by s None front = of_front s front

-- what becomes of the message at the front; a closed intake stays closed
abbrev pub passage_of : Tolerance → Taking → Passage
passage_of l t =
    if t.closed then Strict
    else passage_by t.state (loose_front (selected_loose l t.state.received) (frame_at t.unread)) (frame_at t.unread)
