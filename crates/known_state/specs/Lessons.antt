-- Lessons for a learner whose known state is given (profile).
use Rattle.std.specs.Prelude.{◌≡◌, ℕ, List}
use Rattle.table_types.specs.declared.update.Update.{Update}
use Rattle.peers_msg.specs.declared.message.Message.{Message}
use Rattle.peers_msg.specs.Spelling.{stream_of}
use Rattle.known_state.specs.State.{Legal}
use Rattle.known_state.specs.Known.{KnownState}

-- The bytes spell messages that are legal from the known state, carry these updates, and lead to the known state
-- after, which has the same roster.
abbrev pub IsLessonFor : KnownState → List Update → List ℕ → KnownState → Type 0
IsLessonFor k us bytes after =
    (ms : List Message) × (bytes ≡ stream_of ms) × Legal k.roster k.state ms us after.state × (after.roster ≡ k.roster)
