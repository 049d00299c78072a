-- Shortest lessons (profile).
use Rattle.std.specs.Prelude.{◌≤◌, List}
use Rattle.table_types.specs.declared.update.Update.{Update}
use Rattle.peers_msg.specs.declared.message.Message.{Message}
use Rattle.peers_msg.specs.Spelling.{size_of_all}
use Rattle.known_state.specs.State.{State, Legal}
use Rattle.known_state.specs.Known.{KnownState}

-- The messages are legal from the known state and carry the updates, and every list of messages that is legal from
-- there and carries them has a sum of sizes at least as large.
abbrev pub Shortest : KnownState → List Update → List Message → Type 0
Shortest k us ms =
    (e : State) × Legal k.roster k.state ms us e
    × ((others : List Message) (end : State) → Legal k.roster k.state others us end → size_of_all ms ≤ size_of_all others)
