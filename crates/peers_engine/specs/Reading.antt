-- What a read gives.
use Rattle.std.specs.Prelude.{◌≡◌, ◌⊎◌, ◌<◌, ◌≤◌, ℕ, List, [], length, Option, Some, None}
use Rattle.session_core.specs.declared.event.Event.{Event}
use Rattle.session_core.specs.declared.event.Event.TheVariants as events
use Rattle.peers_engine.specs.declared.errors.EngineError.{EngineError}
use Rattle.peers_engine.specs.declared.errors.EngineError.TheVariants as errors

-- the bytes that a read gives, and its event: none, 1 to 4,096 bytes, or the end if the reader is at its end
abbrev pub IsRead : Type 0 → Option Event → List ℕ → Type 0
IsRead at_end None bytes = bytes ≡ []
IsRead at_end (Some (events.Bytes read)) bytes = (bytes ≡ read) × (0 < length read) × (length read ≤ 4096)
IsRead at_end (Some events.End) bytes = at_end × (bytes ≡ [])
IsRead at_end (Some event) bytes = ⊥

-- a read failed, or memory ran out
abbrev pub IsUnread : EngineError → Type 0
IsUnread error = (error ≡ errors.Read) ⊎ (error ≡ errors.Memory)
